-- Tables of drafts as they grow: what stood stays, and what is new.
use Rattle.std.proofs.Common.{◌≡◌, ℕ, suc, ◌<◌, Bool, true, false, List, [], ◌∷◌, ◌++◌, length, refl, sym, ◌∙◌, ap, arith, zero-add, length-append}
use Rattle.std.specs.Prelude.{◌&&◌}
use Rattle.std.proofs.lemmas.List.Folds.{list_all-append}
use Rattle.std.proofs.lemmas.Option.{unwrap_or-slice_get}
use Rattle.std.proofs.Math.ListN.{get_or-append}
use Rattle.std.proofs.Math.Seq.{get_or-append_seam}
use Rattle.kan_terms.specs.Tree.{Tree}
use Rattle.kan_model.specs.Programs.Goals.{Template, Goal}
use Rattle.kan_model.specs.Programs.Calls.{call_there}
use Rattle.kan_model.specs.Programs.Tables.{TermEntry, GoalEntry, RelationEntry, Tables, template_at, template_of, templates_of, goal_at, goal_of, goals_of, is_grown, with_term, with_argument, with_goal}
use Rattle.kan_model.proofs.Programs.TableLaws.{templates-more, templates-length, goals-more, goals-length, grown-parts, term-same, goals-with_term, goals-with_argument}
use Rattle.goal_syntax.specs.Building.GrownTables.{HasTemplate, HasGoal, Grows}
use Rattle.goal_syntax.specs.Building.CallsThere.{are_there}

-- tables grow from themselves
pub grows_self : (ts : Tables) → Grows ts ts
grows_self ts = record { templates = λ p t h. h; goals = λ p g h. h; relations = refl }

-- what grew from tables that grew from others grew from those
pub grows_on : (ts us vs : Tables) → Grows ts us → Grows us vs → Grows ts vs
grows_on ts us vs first next = record {
  templates = λ p t h. next.templates p t (first.templates p t h);
  goals = λ p g h. next.goals p g (first.goals p g h);
  relations = next.relations ∙ first.relations;
}

-- the same where the tables are equal to ones that grew
pub grows_to : (ts us vs : Tables) → vs ≡ us → Grows ts us → Grows ts vs
grows_to ts us vs is grows = rw is grows

longer : {X : Type 0} (xs : List X) (x : X) → length (xs ++ x ∷ []) ≡ suc (length xs)
longer xs x = length-append xs (x ∷ []) ∙ omega arith

-- the last tree of a longer list
last_template : (ts : List Template) (t : Template) (n : ℕ) → length ts ≡ n → template_at (ts ++ t ∷ []) n ≡ t
last_template ts t n is =
    ap (template_at (ts ++ t ∷ [])) (sym is) ∙ unwrap_or-slice_get (ts ++ t ∷ []) (length ts) Tree.nil ∙ get_or-append_seam ts t [] Tree.nil

last_goal : (gs : List Goal) (g : Goal) (n : ℕ) → length gs ≡ n → goal_at (gs ++ g ∷ []) n ≡ g
last_goal gs g n is =
    ap (goal_at (gs ++ g ∷ [])) (sym is) ∙ unwrap_or-slice_get (gs ++ g ∷ []) (length gs) Goal.fail ∙ get_or-append_seam gs g [] Goal.fail

-- the trees before the last one
goal_before : (gs : List Goal) (g : Goal) (i : ℕ) → i < length gs → goal_at (gs ++ g ∷ []) i ≡ goal_at gs i
goal_before gs g i within =
    unwrap_or-slice_get (gs ++ g ∷ []) i Goal.fail ∙ get_or-append gs (g ∷ []) Goal.fail i within ∙ sym (unwrap_or-slice_get gs i Goal.fail)

-- one template more
pub grows_term : (ts : Tables) (e : TermEntry) → is_grown ts ≡ true → Grows ts (with_term ts e)
grows_term ts e grown =
    let size = longer ts.terms e in record {
      templates = λ p t h. record { there = omega (arith, h.there, size); is = (term-same ts e (grown-parts ts grown)).terms p h.there ∙ h.is };
      goals = λ p g h. record { there = h.there; is = ap (λ gs. goal_at gs p) (goals-with_term ts e grown) ∙ h.is };
      relations = refl;
    }

pub new_template : (ts : Tables) (e : TermEntry) → HasTemplate (with_term ts e) (length ts.terms) (template_of (templates_of ts.terms) e)
new_template ts e =
    let size = longer ts.terms e in record {
      there = omega (arith, size);
      is = ap (λ us. template_at us (length ts.terms)) (templates-more [] ts.terms e)
          ∙ last_template (templates_of ts.terms) (template_of (templates_of ts.terms) e) (length ts.terms) (templates-length [] ts.terms ∙ zero-add (length ts.terms));
    }

-- one goal more
pub grows_goal : (ts : Tables) (e : GoalEntry) → Grows ts (with_goal ts e)
grows_goal ts e =
    let size = longer ts.goals e in
    let us = templates_of ts.terms in
    let long : length (goals_of ts) ≡ length ts.goals = goals-length us ts.arguments [] ts.goals ∙ zero-add (length ts.goals) in record {
      templates = λ p t h. record { there = h.there; is = h.is };
      goals = λ p g h. record {
        there = omega (arith, h.there, size);
        is = ap (λ gs. goal_at gs p) (goals-more us ts.arguments [] ts.goals e) ∙ goal_before (goals_of ts) (goal_of us ts.arguments (goals_of ts) e) p (rw long h.there) ∙ h.is;
      };
      relations = refl;
    }

pub new_goal : (ts : Tables) (e : GoalEntry) → HasGoal (with_goal ts e) (length ts.goals) (goal_of (templates_of ts.terms) ts.arguments (goals_of ts) e)
new_goal ts e =
    let size = longer ts.goals e in
    let us = templates_of ts.terms in record {
      there = omega (arith, size);
      is = ap (λ gs. goal_at gs (length ts.goals)) (goals-more us ts.arguments [] ts.goals e)
          ∙ last_goal (goals_of ts) (goal_of us ts.arguments (goals_of ts) e) (length ts.goals) (goals-length us ts.arguments [] ts.goals ∙ zero-add (length ts.goals));
    }

-- one argument more
pub grows_argument : (ts : Tables) (a : ℕ) → is_grown ts ≡ true → Grows ts (with_argument ts a)
grows_argument ts a grown = record {
  templates = λ p t h. record { there = h.there; is = h.is };
  goals = λ p g h. record { there = h.there; is = ap (λ gs. goal_at gs p) (goals-with_argument ts a grown) ∙ h.is };
  relations = refl;
}

-- what a table with one entry more has, at the entry's place
pub term_made : (ts us : Tables) (e : TermEntry) (at : ℕ) → us ≡ with_term ts e → at ≡ length ts.terms → HasTemplate us at (template_of (templates_of ts.terms) e)
term_made ts us e at is place = rw (is, place) (new_template ts e)

pub goal_made : (ts us : Tables) (e : GoalEntry) (at : ℕ) → us ≡ with_goal ts e → at ≡ length ts.goals → HasGoal us at (goal_of (templates_of ts.terms) ts.arguments (goals_of ts) e)
goal_made ts us e at is place = rw (is, place) (new_goal ts e)

and_last : (a b : Bool) → (a && (b && true)) ≡ (a && b)
and_last true true = refl
and_last true false = refl
and_last false b = refl

-- the calls are there where those before it are and its own is
pub goal_called : (ts us : Tables) (e : GoalEntry) → us ≡ with_goal ts e → (rows : List RelationEntry) → are_there rows us.goals ≡ (are_there rows ts.goals && call_there rows e)
goal_called ts us e is = λ rows. rw is (list_all-append (call_there rows) ts.goals (e ∷ []) ∙ and_last (are_there rows ts.goals) (call_there rows e))
