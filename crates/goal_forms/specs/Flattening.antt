-- What is made of the data that are left to be turned.
use Rattle.std.specs.Prelude.{◌≡◌, ℕ, ◌+◌, List, [], ◌∷◌}
use Rattle.kan_terms.specs.Table.{Table}
use Rattle.kan_grammar.specs.Data.Printed.{prefix_name}
use Rattle.kan_grammar.specs.Data.Words as words
use Rattle.kan_grammar.specs.Data.Written.{Written, Within, single, list, prefixed, close, dotted}
use Rattle.kan_grammar.specs.Data.Written.{element}
use Rattle.kan_grammar.specs.Texts.Sited.{Sited, with_sites, within_sites, symbol_number}
use Rattle.sexpr.specs.WrittenForms.{written_form}
use Rattle.sexpr.specs.Printing.{within}
use Rattle.sexpr.specs.declared.data.Datum.{Datum}
use Rattle.goal_forms.specs.Places.{pair_of_last_two, prefixed_last}
use Rattle.goal_forms.specs.declared.prefixes.Prefixes.{Prefixes}
use Rattle.goal_forms.specs.declared.flatten.Work.{Work}
use Rattle.goal_forms.specs.declared.flatten.Work.TheVariants as works

-- the numbers are those of the symbols that the prefixes stand for
pub record AreNumbered (names : Table) (prefixes : Prefixes) : Type 0 where
  pub quote : symbol_number names (prefix_name words.quote) ≡ prefixes.quote
  pub quasiquote : symbol_number names (prefix_name words.quasiquote) ≡ prefixes.quasiquote
  pub unquote : symbol_number names (prefix_name words.unquote) ≡ prefixes.unquote

-- what is made once all work on a stack is done, the top first, and the datum made last
abbrev pub finish : Table → List Work → List Sited → List Sited
finish names [] made = made
finish names (works.Datum d ∷ ws) made =
    finish names ws (with_sites names (written_form names d.now) ∷ made)
finish names (works.Rest items last at ∷ ws) made =
    finish names ws (within_sites names at (within names items last) ∷ made)
finish names (works.Pair at ∷ ws) made = finish names ws (pair_of_last_two at made)
finish names (works.Prefixed at s ∷ ws) made = finish names ws (prefixed_last at s made)

-- how much work a datum is, and what stands in a list
abbrev mutual
  pub datum_size : Written → ℕ
  datum_size (single at a) = 1
  datum_size (list at s inner) = 1 + within_size inner
  datum_size (prefixed at p d) = 2 + datum_size d

  pub within_size : Within → ℕ
  within_size (close at) = 1
  within_size (dotted at d end) = 1 + datum_size d
  within_size (element d inner) = 2 + datum_size d + within_size inner

abbrev pub work_size : Table → Work → ℕ
work_size names (works.Datum d) = datum_size (written_form names d.now)
work_size names (works.Rest items last at) = within_size (within names items last)
work_size names (works.Pair at) = 1
work_size names (works.Prefixed at s) = 1

abbrev pub works_size : Table → List Work → ℕ
works_size names [] = 0
works_size names (w ∷ ws) = work_size names w + works_size names ws

-- what a datum means as pairs
abbrev pub meaning : Table → Datum → Sited
meaning names d = with_sites names (written_form names d)
