-- The parts of data have names where the symbols of prefixes have.
use Rattle.std.proofs.Common.{◌≡◌, ℕ, zero, suc, ◌≤◌, max, List, [], ◌∷◌, ◌++◌, ap, ◌∙◌, arith, Some}
use Rattle.std.specs.Prelude.{is_some}
use Rattle.kan_terms.specs.Table.{Table, number_of}
use Rattle.kan_terms.proofs.TableLaws.{name_of-number_of}
use Rattle.kan_grammar.specs.Texts.Sited.{Sited}
use Rattle.goal_forms.specs.declared.flat_data.Part.TheVariants.{Pair}
use Rattle.goal_forms.specs.Parts.{site_at, part_site}
use Rattle.goal_forms.specs.Unnamed.{lack, symbol_unnamed, site_unnamed, sites_unnamed, work_unnamed, works_unnamed}
use Rattle.goal_forms.specs.declared.flatten.Work.{Work}

-- a symbol that has a number has a name
pub numbered_named : (names : Table) (text : List ℕ) (n : ℕ) → number_of names.symbols text ≡ Some n → symbol_unnamed names n ≡ 0
numbered_named names text n e = ap (λ o. lack (is_some o)) (name_of-number_of names.symbols text n e)

-- one datum more
sites-push : (names : Table) (ds : List Sited) (d : Sited) → sites_unnamed names (ds ++ d ∷ []) ≡ max (sites_unnamed names ds) (site_unnamed names d)
sites-push names [] d = omega arith
sites-push names (x ∷ ds) d = omega (arith, sites-push names ds d)

pub put_unnamed : (names : Table) (ds new : List Sited) (d : Sited) → new ≡ ds ++ d ∷ [] → sites_unnamed names new ≡ max (sites_unnamed names ds) (site_unnamed names d)
put_unnamed names ds new d e = ap (sites_unnamed names) e ∙ sites-push names ds d

-- a datum of a table is named where all are
pub at_unnamed : (names : Table) (ds : List Sited) (p : ℕ) → site_unnamed names (site_at ds p) ≤ sites_unnamed names ds
at_unnamed names [] p = omega arith
at_unnamed names (d ∷ ds) zero = omega arith
at_unnamed names (d ∷ ds) (suc p) = omega (arith, at_unnamed names ds p)

pub pair_unnamed : (names : Table) (ds new : List Sited) (at a d : ℕ) → new ≡ ds ++ part_site ds at (Pair a d) ∷ [] → sites_unnamed names new ≤ sites_unnamed names ds
pair_unnamed names ds new at a d e = omega (arith, put_unnamed names ds new (part_site ds at (Pair a d)) e, at_unnamed names ds a, at_unnamed names ds d)

-- work that is put on a stack
works-push : (names : Table) (ws : List Work) (w : Work) → works_unnamed names (ws ++ w ∷ []) ≡ max (work_unnamed names w) (works_unnamed names ws)
works-push names [] w = omega arith
works-push names (x ∷ ws) w = omega (arith, works-push names ws w)

pub pushed_unnamed : (names : Table) (old new : List Work) (w : Work) → new ≡ old ++ w ∷ [] → works_unnamed names new ≡ max (work_unnamed names w) (works_unnamed names old)
pushed_unnamed names old new w e = ap (works_unnamed names) e ∙ works-push names old w
