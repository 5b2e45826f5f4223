-- What is found is the answer whose text a line is.
use Rattle.std.proofs.Common.{◌≡◌, ℕ, ◌≤◌, ◌^◌, true, List, length, sym, ap, ◌∙◌}
use Rattle.std.specs.Prelude.{Option, Some, None}
use Rattle.kan_terms.specs.Table.{Table}
use Rattle.kan_model.specs.Answers.Answer as model
use Rattle.kan_model.specs.Answers.AnswerText.{answer_text}
use Rattle.kan_model.specs.Answers.InForm.{in_form, is_readable, numbers_fit}
use Rattle.std.specs.List.{list_all}
use Rattle.std.proofs.lemmas.Bool.{and_parts}
use Rattle.std.specs.Prelude.{◌&&◌}
use Rattle.reify.specs.declared.answers.Answer.{Answer}
use Rattle.answer_reading.specs.declared.constraints.Parts.{Parts}
use Rattle.answer_reading.specs.Listing as listing
use Rattle.answer_reading.specs.Listing.{GetsParts, are_parts_known}
use Rattle.answer_reading.specs.Forming.{are_whole}
use Rattle.answer_reading.specs.Answering.{Checks, FindsAnswer, FindsIt, IsFound, is_over}
use Rattle.answer_reading.proofs.FineLaws.{answer_fine}
use Rattle.answer_reading.proofs.KnownLaws.{form_same, parts_over, parts_readable, text_same}

readable_form : (table : Table) (a : model.Answer) → is_readable table a ≡ true → in_form table a ≡ true
readable_form table a h =
    (and_parts (in_form table a) (numbers_fit a.term) (and_parts (in_form table a && numbers_fit a.term) (list_all (list_all (λ p. numbers_fit p.by)) a.disequalities) h).0).0

pub is_found : (new : Table) (line : List ℕ) (parts : Parts) (found : Option Answer) → are_parts_known new parts ≡ true → Checks new parts line found → IsFound new line found
is_found new line parts None known checks = tt
is_found new line parts (Some a) known checks =
    (ap (is_over new) checks.0 ∙ parts_over new parts checks.1 known, ap (is_readable new) checks.0 ∙ parts_readable new parts checks.1 known checks.2, ap (answer_text new) checks.0 ∙ checks.3)

pub finds : (new : Table) (line : List ℕ) (parts : Parts) (found : Option Answer) → length line ≤ 2 ^ 31 → GetsParts new line parts → are_parts_known new parts ≡ true → Checks new parts line found → FindsAnswer new line found
finds new line parts found short gets known checks table on a text = by found checks
  where
    got : (are_whole parts.term parts.disequalities.items ≡ true) × (listing.meaning parts ≡ a)
    got = gets table on a (answer_fine table line a short text.0 text.1 text.2) text.2

    over : is_over new (listing.meaning parts) ≡ true
    over = parts_over new parts got.0 known

    by : (o : Option Answer) → Checks new parts line o → FindsIt a o
    by (Some b) c = c.0 ∙ got.1
    by None c =
        absurd (c got.0 (sym (form_same new table on.goes_on (listing.meaning parts) over) ∙ ap (in_form table) got.1 ∙ readable_form table a text.1)
        (sym (text_same new table on.goes_on (listing.meaning parts) over) ∙ ap (answer_text table) got.1 ∙ text.2))
