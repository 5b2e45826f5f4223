use Rattle.std.proofs.Common.{rules, sym}
use Rattle.kan_grammar.specs.Texts.TextNames.{with_prefixes}
use Rattle.kan_grammar.proofs.Texts.NameLaws.{extends_prefixes, goes_on_same}
use Rattle.goal_syntax.proofs.Compiling.OfTextLaws.{read_of_text}
use Rattle.kanren_run.proofs.TextLaws.{accepted_behind, of_library, reading_refused, refused_same, text_read, wants_memory}
use Rattle.kanren_run.proofs.text.compile_text.Goals as goal

pub returns-in_err-library : goal.returns-in_err-library
returns-in_err-library c = wants_memory c.args.settings c.args.text.now c.library_data.new.names c.from_residual-in_err-library.result _ c.from_residual-in_err-library.ensures.1 (search rules)

pub compile_data-requires-clause-library : goal.compile_data-requires-clause-library
compile_data-requires-clause-library c =
    rw c.as_slice.ensures (of_library c.library_data.new.names c.read.new.names c.args.settings.library _ c.in_ok-library.ensures.read c.read.ensures.extends.goes_on)

pub compile_data-requires-clause-texts : goal.compile_data-requires-clause-texts
compile_data-requires-clause-texts c =
    read_of_text c.read.new.names c.read.new.names c.args.text.now _ c.requires.short (goes_on_same c.read.new.names) (λ later goes_on. rw c.as_slice-in-Ok.ensures (c.in-Ok.ensures.reads later goes_on))

pub compile_data-requires-clause-alone : goal.compile_data-requires-clause-alone
compile_data-requires-clause-alone c =
    rw c.as_slice.ensures (accepted_behind c.args.settings.library c.args.text.now c.library_data.new.names c.read.new.names _ c.in_ok-library.ensures.read c.in-Ok.ensures.numbered)

pub returns-in-Ok : goal.returns-in-Ok
returns-in-Ok c =
    c.compile_data.ensures c.args.text.now (rw (c.as_slice.ensures, c.as_slice-in-Ok.ensures)
    (text_read c.args.settings c.args.text.now c.library_data.new.names c.read.new.names _ _ c.in_ok-library.ensures.read c.in-Ok.ensures.numbered
    (c.in-Ok.ensures.reads (with_prefixes c.read.new.names) (extends_prefixes c.read.new.names).goes_on)))

pub returns-in-Err-Fault : goal.returns-in-Err-Fault
returns-in-Err-Fault c =
    refused_same c.args.settings _ _ _ _ _ (sym c.in-Err-Fault.at-is) (sym c.in-Err-Fault.refusal-is)
    (reading_refused c.args.settings _ c.library_data.new.names c.read.new.names _ _ _ _ c.in_ok-library.ensures.read c.in-Err-Fault.field-0-is (c.in-Err-Fault.ensures.reads c.read.new.names (goes_on_same c.read.new.names)))
