-- What is left to print of a datum.
use Rattle.std.specs.Prelude.{◌≡◌, ℕ, ◌+◌, ◌<◌, List, [], ◌∷◌, ◌++◌, map, Option, None, Some}
use Rattle.std.specs.Borrow.{Bor}
use Rattle.std.specs.Option.{option_map, option_copied}
use Rattle.kan_model.specs.Answers.Text.{in_quotes, print_rest}
use Rattle.kan_grammar.specs.Data.Written.{Written, Within, single, list, prefixed, close, dotted}
use Rattle.kan_grammar.specs.Data.Written.{element}
use Rattle.kan_grammar.specs.Data.Printed.{Named, label_text, named_text, pairs, pairs_within}
use Rattle.sexpr.specs.WrittenForms.{inner_of, written_form}
use Rattle.kan_terms.specs.Table.{Table, no_names}
use Rattle.sexpr.specs.declared.data.Datum.{Datum}
use Rattle.sexpr.specs.declared.printer.Work.{Work}
use Rattle.sexpr.specs.declared.printer.Work.TheVariants as works

-- the text of a string's atom
abbrev pub string_atom_text : Option (List ℕ) → List ℕ
string_atom_text (Some text) = in_quotes text
string_atom_text None = []

-- the text of what follows an element
abbrev pub rest_text : Named → List ℕ
rest_text t = print_rest label_text no_names t

-- what elements and a datum after a dot stand for
abbrev pub within : Table → Bor (List Datum) → Option (Bor Datum) → Within
within names items last =
    inner_of (map (written_form names) items.now)
    (option_map (written_form names) (option_copied last))

-- the text of a piece of work
abbrev pub work_text : Table → Work → List ℕ
work_text names (works.Datum d) = named_text (pairs (written_form names d.now))
work_text names (works.Rest items last) = rest_text (pairs_within (within names items last))
work_text names (works.Tail d) = rest_text (pairs (written_form names d.now))
work_text names works.Close = 41 ∷ []

-- the text of work on a stack, the top first
abbrev pub works_text : Table → List Work → List ℕ
works_text names [] = []
works_text names (w ∷ ws) = works_text names ws ++ work_text names w

-- how much printing a datum takes, and what stands in a list
abbrev mutual
  pub cost : Written → ℕ
  cost (single at a) = 1
  cost (list at s inner) = 3 + cost_within inner
  cost (prefixed at p d) = 6 + cost d

  pub cost_within : Within → ℕ
  cost_within (close at) = 0
  cost_within (dotted at d end) = 2 + cost d
  cost_within (element d inner) = 1 + cost d + cost_within inner

-- how much a piece of work takes
abbrev pub work_cost : Table → Work → ℕ
work_cost names (works.Datum d) = cost (written_form names d.now)
work_cost names (works.Rest items last) = 1 + cost_within (within names items last)
work_cost names (works.Tail d) = 2 + cost (written_form names d.now)
work_cost names works.Close = 1

-- how much work on a stack takes
abbrev pub works_cost : Table → List Work → ℕ
works_cost names [] = 0
works_cost names (w ∷ ws) = work_cost names w + works_cost names ws

-- from a text and a stack of work to others: what was put and what is left are this text and what
-- was left below it
abbrev pub Prints : Table → List ℕ → List ℕ → List Work → List Work → List ℕ → Type 0
Prints names before after below works text =
    after ++ works_text names works ≡ before ++ (text ++ works_text names below)

-- and the work that is left takes less than this and what was left below it
abbrev pub Falls : Table → List Work → List Work → ℕ → Type 0
Falls names below works taken = works_cost names works < taken + works_cost names below
