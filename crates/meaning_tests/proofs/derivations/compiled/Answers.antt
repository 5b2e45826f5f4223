use Rattle.std.proofs.Common.{refl}
use Rattle.kan_grammar.proofs.Texts.NameLaws.{goes_on_same}
use Rattle.goal_syntax.proofs.Compiling.OfTextLaws.{none_of_text, none_accepted, read_of_text}
use Rattle.meaning_tests.proofs.derivations.compiled.Goals as goal

pub compile-requires-clause-library : goal.compile-requires-clause-library
compile-requires-clause-library c = none_of_text _ _ refl

pub compile-requires-clause-alone : goal.compile-requires-clause-alone
compile-requires-clause-alone c = none_accepted _ _ refl

pub compile-requires-clause-text : goal.compile-requires-clause-text
compile-requires-clause-text c =
    read_of_text c.read.new.names c.read.new.names c.as_bytes.result.now _ (rw c.as_bytes.ensures.value c.requires.short) (goes_on_same c.read.new.names) (λ later goes_on. rw c.as_slice.ensures (c.in-Ok.ensures.reads later goes_on))
