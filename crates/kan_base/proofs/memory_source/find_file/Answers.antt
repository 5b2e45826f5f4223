use Rattle.std.proofs.Common.{◌≡◌, true, ◌<◌, length, get_or, sym, ◌∙◌, arith, string_bytes}
use Rattle.std.specs.Str.{bytes_eq}
use Rattle.kan_base.proofs.FileLemmas.{file_of-hit}
use Rattle.kan_base.proofs.memory_source.find_file.Goals as goal

pub returns-then-eq : goal.returns-then-eq
returns-then-eq c =
    let files = c.args.files.now in
    let at = c.loop-at.at in
    let file = c.index-files-at.result in
    let name = c.args.name.now in
    let within : at < length files = omega arith in
    let same : bytes_eq (string_bytes (get_or files at file).0) name ≡ true = rw c.as_str.ensures.value at (sym c.if-eq.ensures) in
    record { within = within; found = sym c.loop-at.invariant ∙ file_of-hit name files at file within same }
