use Rattle.std.proofs.Common.{List, ℕ, String, Vec, Global, sym, ap, ◌∙◌}
use Rattle.kan_base.proofs.FileLemmas.{bytes_at-get_or, bytes_at-past}
use Rattle.kan_base.proofs.memory_source.opened_text.Goals as goal

pub returns-in-Some : goal.returns-in-Some
returns-in-Some c =
    let read = c.in-Some.ensures.lookup in
    let bytes : String Global × Vec ℕ Global → List ℕ = λ file. file.1.items in
    rw c.in-File.is (c.as_slice.ensures.value ∙ ap bytes read.1 ∙ sym (bytes_at-get_or c.args.files.now c.in-File.at c.in-Some.file.now read.3.0))

pub returns-in-None : goal.returns-in-None
returns-in-None c = rw c.in-File.is (sym (bytes_at-past c.args.files.now c.in-File.at c.in-None.ensures.lookup.3))
