-- Numbers of 64 bits are printed as std prints them.
use Rattle.std.proofs.Common.{◌≡◌, ℕ, List, [], ◌∷◌, ◌++◌, ap, ap₂, sym, ◌∙◌, string_bytes, arith, append_assoc}
use Rattle.std.specs.Prelude.{codes}
use Rattle.std.specs.Fmt.{decimal}
use Rattle.kan_model.specs.Answers.Output.{line, ending_text}
use Rattle.kan_model.proofs.Answering.DecimalLaws.{decimal_as_printed}
use Rattle.kan_search.specs.Batches.{ending_of}
use Rattle.kanren_run.proofs.answer.summary.Goals as goal

-- the summary line of two numbers and an ending that have texts
abbrev with_texts : List ℕ → List ℕ → List ℕ → List ℕ
with_texts answers pulls ending = line (codes "; " ++ answers ++ codes " answers, " ++ pulls ++ codes " pulls, " ++ ending)

in_a_row : (a p e : List ℕ) → codes "; " ++ (a ++ (codes " answers, " ++ (p ++ (codes " pulls, " ++ (e ++ 10 ∷ []))))) ≡ with_texts a p e
in_a_row a p e = simp append_assoc

-- what is put behind nothing
from_nothing : (before after more : List ℕ) → before ≡ [] → after ≡ before ++ more → after ≡ more
from_nothing before after more none put = put ∙ ap (λ l. l ++ more) none

pub returns : goal.returns
returns c =
    let row : List ℕ = codes "; " ++ (decimal c.args.answers ++ (codes " answers, " ++ (decimal c.args.pulls ++ (codes " pulls, " ++ (c.ending-ending.result.now ++ 10 ∷ []))))) in
    from_nothing _ (string_bytes c.writeln.new.self) row c.new-line.ensures.bytes c.in_ok-writeln.ensures.bytes ∙ in_a_row (decimal c.args.answers) (decimal c.args.pulls) c.ending-ending.result.now
    ∙ ap (λ e. with_texts (decimal c.args.answers) (decimal c.args.pulls) e) c.ending-ending.ensures
    ∙ ap₂ (λ a p. with_texts a p (ending_text (ending_of c.args.ended)))
    (sym (decimal_as_printed c.args.answers (omega (arith, c.ranges.answers.fits)))) (sym (decimal_as_printed c.args.pulls (omega (arith, c.ranges.pulls.fits))))
