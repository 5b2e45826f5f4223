-- What a line is read back as.
use Rattle.std.specs.Prelude.{◌≡◌, ℕ, ◌<◌, ◌^◌, Bool, true, ◌&&◌, nat_lt, List, length, Option}
use Rattle.std.specs.Prelude.{Some, None, Result, Ok, Err}
use Rattle.std.specs.List.{list_all}
use Rattle.kan_terms.specs.Table.{Table}
use Rattle.kan_terms.specs.Tree.{Tree, Tm}
use Rattle.kan_model.specs.Answers.Answer as model
use Rattle.kan_model.specs.Answers.AnswerText.{answer_text}
use Rattle.kan_model.specs.Answers.InForm.{in_form, is_readable}
use Rattle.reify.specs.Meaning.{meaning}
use Rattle.reify.specs.declared.answers.Answer.{Answer}
use Rattle.answer_reading.specs.declared.reading.AnswerFault.{AnswerFault}
use Rattle.answer_reading.specs.declared.reading.AnswerFault.TheVariants.{NotAnAnswer, Memory}
use Rattle.answer_reading.specs.declared.constraints.Parts.{Parts}
use Rattle.term_reading.specs.Words.{Continues}
use Rattle.answer_reading.specs.Forming.{are_whole}
use Rattle.answer_reading.specs.Listing as listing

-- the symbols and strings of a term stand in a table
abbrev pub is_term_over : Table → Tm → Bool
is_term_over table (Tree.leaf v) = true
is_term_over table (Tree.sym s) = nat_lt s (length table.symbols)
is_term_over table (Tree.str s) = nat_lt s (length table.strings)
is_term_over table (Tree.num n) = true
is_term_over table (Tree.truth b) = true
is_term_over table Tree.nil = true
is_term_over table (Tree.pair a b) = is_term_over table a && is_term_over table b

-- and those of an answer
abbrev pub is_over : Table → model.Answer → Bool
is_over table a =
    is_term_over table a.term && list_all (list_all (λ p. is_term_over table p.by)) a.disequalities
    && list_all (λ kept. nat_lt kept.tag (length table.symbols)) a.absences

-- a line is the text of an answer in form whose numbers fit
abbrev pub IsTextOf : Table → List ℕ → model.Answer → Type 0
IsTextOf table line a =
    (is_over table a ≡ true) × (is_readable table a ≡ true) × (answer_text table a ≡ line)

-- a call gives an answer, and doesn't say that there is none; want of memory says nothing
abbrev pub Gives : model.Answer → Result Answer AnswerFault → Type 0
Gives a (Ok b) = meaning b ≡ a
Gives a (Err NotAnAnswer) = ⊥
Gives a (Err Memory) = Unit {0}

-- whichever names a table goes on with, the answer of which the line is the text is given
abbrev pub GivesAnswer : Table → List ℕ → Result Answer AnswerFault → Type 0
GivesAnswer new line result =
    (table : Table) → Continues new table → (a : model.Answer) → IsTextOf table line a →
    Gives a result

-- few names
abbrev pub IsSmall : Table → Type 0
IsSmall table = (length table.symbols < 2 ^ 31) × (length table.strings < 2 ^ 31)

abbrev parts_meaning : Parts → model.Answer
parts_meaning = listing.meaning

-- what a check of parts finds: the answer that they are, or that they aren't the parts of one in
-- form whose text is the line
abbrev pub Checks : Table → Parts → List ℕ → Option Answer → Type 0
Checks table parts line (Some a) =
    (meaning a ≡ parts_meaning parts) × (are_whole parts.term parts.disequalities.items ≡ true)
    × (in_form table (parts_meaning parts) ≡ true)
    × (answer_text table (parts_meaning parts) ≡ line)
Checks table parts line None =
    are_whole parts.term parts.disequalities.items ≡ true → in_form table (parts_meaning parts)
    ≡ true → answer_text table (parts_meaning parts) ≡ line → ⊥

-- what is found is an answer whose text is the line
abbrev pub IsFound : Table → List ℕ → Option Answer → Type 0
IsFound table line (Some a) = IsTextOf table line (meaning a)
IsFound table line None = Unit {0}

-- and it is the one that there is
abbrev pub FindsIt : model.Answer → Option Answer → Type 0
FindsIt a (Some b) = meaning b ≡ a
FindsIt a None = ⊥

abbrev pub FindsAnswer : Table → List ℕ → Option Answer → Type 0
FindsAnswer new line found =
    (table : Table) → Continues new table → (a : model.Answer) → IsTextOf table line a →
    FindsIt a found
