use Rattle.std.proofs.Common.{subst}
use Rattle.goal_syntax.specs.Compiling.Compiles.{AreOfText, IsAcceptedAlone}
use Rattle.text_tests.proofs.LibraryLaws.{same_table}
use Rattle.text_tests.proofs.libraries.compiled_data.Goals as goal

pub compile-requires-clause-library : goal.compile-requires-clause-library
compile-requires-clause-library c = subst (λ t. AreOfText t c.args.library.now) (same_table c.args.names.now c.is_library.new.names c.in_ok-alone.ensures.table) c.requires.library

pub compile-requires-clause-text : goal.compile-requires-clause-text
compile-requires-clause-text c = subst (λ t. AreOfText t c.args.text.now) (same_table c.args.names.now c.is_library.new.names c.in_ok-alone.ensures.table) c.requires.text

pub compile-requires-clause-alone : goal.compile-requires-clause-alone
compile-requires-clause-alone c = subst (λ t. IsAcceptedAlone t c.args.library.now) (same_table c.args.names.now c.is_library.new.names c.in_ok-alone.ensures.table) (c.in_ok-alone.ensures.alone c.if-not-alone.false)
