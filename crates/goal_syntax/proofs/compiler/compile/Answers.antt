use Rattle.goal_syntax.proofs.Compiling.ClosingLaws.{of_text_low, alone_still, compiled_of, table_after}
use Rattle.goal_syntax.proofs.Compiling.OfTextLaws.{few_of_both, parts_of_text}
use Rattle.goal_syntax.proofs.compiler.compile.Goals as goal

pub compile_data-requires-clause-low_library : goal.compile_data-requires-clause-low_library
compile_data-requires-clause-low_library c = of_text_low c.args.names.now c.number_prefixes.new.names c.args.library.now c.in_ok-prefixes.ensures.table c.requires.library

pub compile_data-requires-clause-low_text : goal.compile_data-requires-clause-low_text
compile_data-requires-clause-low_text c = of_text_low c.args.names.now c.number_prefixes.new.names c.args.text.now c.in_ok-prefixes.ensures.table c.requires.text

pub compile_data-requires-clause-alone : goal.compile_data-requires-clause-alone
compile_data-requires-clause-alone c = alone_still c.args.names.now c.number_prefixes.new.names c.args.library.now c.in_ok-prefixes.ensures.table c.requires.alone

pub returns-clause-compiled : goal.returns-clause-compiled
returns-clause-compiled c = rw c.in_ok-prefixes.ensures.table at (compiled_of c.args.dialect c.number_prefixes.new.names c.args.library.now c.args.text.now _ c.compile_data.ensures)

pub returns-clause-table : goal.returns-clause-table
returns-clause-table c = table_after c.args.names.now c.number_prefixes.new.names _ c.in_ok-prefixes.ensures.table c.in_ok-prefixes.ensures.names

pub compile_data-requires-clause-few : goal.compile_data-requires-clause-few
compile_data-requires-clause-few c = few_of_both _ c.args.library.now c.args.text.now c.requires.library c.requires.text

pub compile_data-requires-clause-library_parts : goal.compile_data-requires-clause-library_parts
compile_data-requires-clause-library_parts c = parts_of_text c.args.names.now c.number_prefixes.new.names c.args.library.now c.in_ok-prefixes.ensures.table c.requires.library

pub compile_data-requires-clause-text_parts : goal.compile_data-requires-clause-text_parts
compile_data-requires-clause-text_parts c = parts_of_text c.args.names.now c.number_prefixes.new.names c.args.text.now c.in_ok-prefixes.ensures.table c.requires.text
