use Rattle.kan_grammar.proofs.Texts.NameLaws.{goes_on_same}
use Rattle.goal_syntax.proofs.Compiling.OfTextLaws.{read_of_text}
use Rattle.text_tests.proofs.libraries.compiled_behind.Goals as goal

pub compiled_data-requires-clause-library : goal.compiled_data-requires-clause-library
compiled_data-requires-clause-library c =
    read_of_text c.read.new.names c.read-2.new.names c.as_bytes.result.now _ (rw c.as_bytes.ensures.value c.requires.library) c.read-2.ensures.extends.goes_on
    (λ later goes_on. rw c.as_slice.ensures (c.in-Ok.ensures.reads later goes_on))

pub compiled_data-requires-clause-text : goal.compiled_data-requires-clause-text
compiled_data-requires-clause-text c =
    read_of_text c.read-2.new.names c.read-2.new.names c.as_bytes-2.result.now _ (rw c.as_bytes-2.ensures.value c.requires.text) (goes_on_same c.read-2.new.names)
    (λ later goes_on. rw c.as_slice-2.ensures (c.in-Ok-read.ensures.reads later goes_on))
