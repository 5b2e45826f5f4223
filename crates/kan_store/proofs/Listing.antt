-- The disequalities that are left say what the store's primitives ask.
use Rattle.std.proofs.Common.{◌≡◌, ℕ, Bool, true, false, List, [], ◌∷◌, map, ◌⊎◌, Option, Some, None, is_some, inl, inr, sym, ap, subst, refl, ◌∙◌}
use Rattle.std.proofs.Math.Logic.{∥∥₁_elim, ∥∥₁_map}
use Rattle.std.proofs.lemmas.Bool.{and_parts, and_from, true≢false}
use Rattle.kan_terms.specs.Tree.{Tree, Tm, Gd, fill, ground_eq}
use Rattle.kan_terms.specs.Valuations.{value_at, value}
use Rattle.kan_terms.proofs.TreeLaws.{fill-fill, Decides-ground_eq}
use Rattle.kan_model.specs.Stores.Store.{Store, Equation, equations}
use Rattle.kan_model.specs.Stores.Solve.{Replacement, image, apply, solve, left_first}
use Rattle.kan_model.specs.Stores.Unifiers.{Unifies}
use Rattle.kan_model.specs.Stores.Calls.{replacement_of, all_equal, differences, can_unify, SaysTheSame, AreDifferences}
use Rattle.kan_model.proofs.Solving.UnifierLaws.{answer_unifies}
use Rattle.unify_core.specs.Walking.{Pairs, ends}
use Rattle.unify_core.specs.Solutions.{IsSolution, AddedTo}
use Rattle.unify_core.specs.Unifying.{Unifying}
use Rattle.unify_core.specs.Laws.{added_equations}
use Rattle.unify_core.proofs.GrowthLaws.{Grown}
use Rattle.unify_core.proofs.CycleLaws.{grown}
use Rattle.unify_core.proofs.AddedLaws.{adds_solutions}
use Rattle.unify_core.proofs.SolutionLaws.{solution_of, fill-full, IsSolution-same}
use Rattle.store_laws.proofs.OneForm.{through_answer, also_answered}
use Rattle.diseq.specs.Disequalities.{Disequality, SaysAsMuch, NeverEqual, Brought}
use Rattle.diseq.specs.Laws.{GroundMeaning}
use Rattle.kan_store.specs.Parts.{Parts, AreInStep, Resolved}
use Rattle.kan_store.proofs.AddedLaws.{solves-before, ends-solve}
use Rattle.kan_store.proofs.Observing.{answer_is, same_tests}
use Rattle.kan_store.proofs.StepLaws.{test-known}

-- equations hold under a list of values exactly where it unifies them
equal-unifies : (us : List Gd) (es : List Equation) → all_equal us es ≡ true → Unifies (value_at us) es
equal-unifies us [] h = tt
equal-unifies us (e ∷ es) h =
    let (first, rest) = and_parts (ground_eq (value us e.left) (value us e.right)) (all_equal us es) h in
    ((Decides-ground_eq (value us e.left) (value us e.right)).0 first, equal-unifies us es rest)

unifies-equal : (us : List Gd) (es : List Equation) → Unifies (value_at us) es → all_equal us es ≡ true
unifies-equal us [] u = refl
unifies-equal us (e ∷ es) (same, u) =
    and_from (ground_eq (value us e.left) (value us e.right)) (all_equal us es) ((Decides-ground_eq (value us e.left) (value us e.right)).1 same) (unifies-equal us es u)

-- One derivation of what is listed: a disequality whose sides can't become equal is left out, and each other one is there. No other choice is left.
abbrev Listed : Bool → Type 0 → (List Equation → Type 0) → (List (List Equation) → Type 0) → List (List Equation) → Type 0
Listed false _ says rest lists = rest lists
Listed true none says rest [] = none
Listed true none says rest (fs ∷ lists) = says fs × rest lists

abbrev no_lists : List (List Equation) → Bool
no_lists [] = true
no_lists (l ∷ ls) = false

abbrev Settled : Store → List Equation → List (List Equation) → Type 0
Settled st [] lists = no_lists lists ≡ true
Settled st (e ∷ es) lists = Listed (can_unify (replacement_of st) e) ⊥ (SaysTheSame st e) (Settled st es) lists

settled-known : (st : Store) (es : List Equation) (lists : List (List Equation)) → ∥ Settled st es lists ∥₁ → Settled st es lists
settled-known st [] lists h = test-known (no_lists lists) true h
settled-known st (e ∷ es) lists h = by (can_unify (replacement_of st) e) lists (settled-known st es) h
  where
    by : (c : Bool) (lists : List (List Equation)) → ((ls : List (List Equation)) → ∥ Settled st es ls ∥₁ → Settled st es ls) →
        ∥ Listed c ⊥ (SaysTheSame st e) (Settled st es) lists ∥₁ → Listed c ⊥ (SaysTheSame st e) (Settled st es) lists
    by false lists known h = known lists h
    by true [] known h = ∥∥₁_elim h (λ x y. absurd x) (λ x. x)
    by true (fs ∷ lists) known h = (
      λ us holds. test-known (all_equal us fs) (ground_eq (value us e.left) (value us e.right)) (∥∥₁_map h (λ x. x.0 us holds)),
      known lists (∥∥₁_map h (λ x. x.1)),
    )

settled-lists : (st : Store) (es : List Equation) (lists : List (List Equation)) → Settled st es lists → AreDifferences st es lists
settled-lists st [] [] h = AreDifferences.no_more
settled-lists st [] (l ∷ ls) h = absurd (true≢false (sym h))
settled-lists st (e ∷ es) lists h = by (can_unify (replacement_of st) e) refl lists (λ ls. settled-lists st es ls) h
  where
    by : (c : Bool) → can_unify (replacement_of st) e ≡ c → (lists : List (List Equation)) → ((ls : List (List Equation)) → Settled st es ls → AreDifferences st es ls) →
        Listed c ⊥ (SaysTheSame st e) (Settled st es) lists → AreDifferences st (e ∷ es) lists
    by false k lists rest h = AreDifferences.left_out k (rest lists h)
    by true k [] rest h = absurd h
    by true k (fs ∷ lists) rest (says, h) = AreDifferences.listed says (rest lists h)

-- what is left of one disequality, solved anew
abbrev FromFirst : Pairs → Disequality → List Disequality → List (List Equation) → Type 0
FromFirst bound fs more lists = ((added : List (Tm × Tm)) × (rest : List (List Equation)) × Unifying bound fs (Some added) × (lists ≡ added_equations added ∷ rest) × Resolved bound more rest)
    ⊎ (Unifying bound fs None × Resolved bound more lists)

from_first : (bound : Pairs) (all : List Disequality) (lists : List (List Equation)) → Resolved bound all lists → (fs : Disequality) (more : List Disequality) → all ≡ fs ∷ more → FromFirst bound fs more lists
from_first bound all lists Resolved.none_left fs more is = cc
from_first bound all lists (Resolved.still {es = es} {more = left} {added = added} {lists = rest} unify d) fs more is =
    let first : es ≡ fs = cc in
    let others : left ≡ more = cc in
    inl (added, rest, subst (λ x. Unifying bound x (Some added)) first unify, refl, subst (λ x. Resolved bound x rest) others d)
from_first bound all lists (Resolved.gone {es = es} {more = left} unify d) fs more is =
    let first : es ≡ fs = cc in
    let others : left ≡ more = cc in
    inr (subst (λ x. Unifying bound x None) first unify, subst (λ x. Resolved bound x lists) others d)

from_none : (bound : Pairs) (all : List Disequality) (lists : List (List Equation)) → Resolved bound all lists → all ≡ [] → no_lists lists ≡ true
from_none bound all lists Resolved.none_left is = refl
from_none bound all lists (Resolved.still unify d) is = cc
from_none bound all lists (Resolved.gone unify d) is = cc

module _ (ground : GroundMeaning) (parts : Parts) (st : Store) (step : AreInStep parts st) where
  abbrev bound : Pairs
  bound = parts.bound

  abbrev s : Replacement
  s = step.answer

  g : Grown bound
  g = grown bound step.no_cycle

  -- a side under the answer
  side : {V : Type 0} (f : ℕ → Tree V) → IsSolution f bound → (t : Tm) → fill f (apply s t) ≡ fill f t
  side f h t = ap (fill f) (sym (step.fulls t)) ∙ fill-full f bound h t

  -- a solution that makes the sides equal shows that they can be
  pub can : (e : Equation) (f : ℕ → Tm) → IsSolution f bound → fill f e.left ≡ fill f e.right → can_unify (replacement_of st) e ≡ true
  can e f h same = subst (λ r. can_unify r e ≡ true) (sym (answer_is parts st step)) (by (solve (sides ∷ [])) refl)
    where
      sides : Equation
      sides = record { left = apply s e.left; right = apply s e.right }

      by : (o : Option Replacement) → solve (sides ∷ []) ≡ o → is_some (solve (sides ∷ [])) ≡ true
      by (Some q) k = ap is_some k
      by None k = absurd (also_answered left_first (sides ∷ []) (sides ∷ []) f (λ h u. u) (side f h e.left ∙ same ∙ sym (side f h e.right), tt) k)

  -- and where there is none they can't
  pub can't : (e : Equation) → ((f : ℕ → Tm) → IsSolution f bound → fill f e.left ≡ fill f e.right → ⊥) → can_unify (replacement_of st) e ≡ false
  can't e never = subst (λ r. can_unify r e ≡ false) (sym (answer_is parts st step)) (by (solve (sides ∷ [])) refl)
    where
      sides : Equation
      sides = record { left = apply s e.left; right = apply s e.right }

      by : (o : Option Replacement) → solve (sides ∷ []) ≡ o → is_some (solve (sides ∷ [])) ≡ false
      by None k = ap is_some k
      by (Some q) k =
          let (u, _) = answer_unifies left_first (sides ∷ []) q k in
          absurd (never (λ v. fill (image q) (ends bound v)) (solution_of bound g (image q)) (under e.left ∙ u ∙ sym (under e.right)))
        where
          under : (t : Tm) → fill (λ v. fill (image q) (ends bound v)) t ≡ apply q (apply s t)
          under t = sym (fill-fill (image q) (ends bound) t) ∙ ap (apply q) (step.fulls t)

  -- values that make the store's equations hold solve the bindings
  pub solves : (us : List Gd) → all_equal us (equations st.prims) ≡ true → IsSolution (value_at us) bound
  solves us h =
      let factors = through_answer left_first (equations st.prims) s (value_at us) step.solved (equal-unifies us (equations st.prims) h) in
      IsSolution-same (λ v. fill (value_at us) (ends bound v)) (value_at us) (λ v. ap (fill (value_at us)) (step.fulls (Tree.leaf v)) ∙ sym (factors v)) bound (solution_of bound g (value_at us))

  says_same : (e : Equation) (fs : Disequality) (added : List (Tm × Tm)) → SaysAsMuch bound (e ∷ []) fs → Unifying bound fs (Some added) → SaysTheSame st e (added_equations added)
  says_same e fs added says unify us holds =
      let solution = solves us holds in
      let (there, back) = ground.as_much bound (e ∷ []) fs says (value_at us) solution in
      let (onto, from) = adds_solutions.of_ground.0 bound fs added step.no_cycle unify (value_at us) solution in
      same_tests (all_equal us (added_equations added)) (ground_eq (value us e.left) (value us e.right))
      (λ h. (Decides-ground_eq (value us e.left) (value us e.right)).1 (back (from (equal-unifies us (added_equations added) h))).0)
      (λ h. unifies-equal us (added_equations added) (onto (there ((Decides-ground_eq (value us e.left) (value us e.right)).0 h, tt))))

  listed_can : (e : Equation) (fs : Disequality) (added : List (Tm × Tm)) → SaysAsMuch bound (e ∷ []) fs → Unifying bound fs (Some added) → can_unify (replacement_of st) e ≡ true
  listed_can e fs added says unify =
      let (new, put, none) = adds_solutions.can_be_put bound fs added step.no_cycle unify in
      let solution = ends-solve new (grown new none) in
      let before = solves-before (ends new) bound added new put solution in
      let (same, _) = (says (ends new) before).1 ((adds_solutions.of_terms.0 bound fs added step.no_cycle unify (ends new) before).1 (added_unify (ends new) bound added new put solution)) in
      can e (ends new) before same
    where
      added_unify : (f : ℕ → Tm) (older : Pairs) (added : List (Tm × Tm)) (new : Pairs) → AddedTo older added new → IsSolution f new → Unifies f (added_equations added)
      added_unify f older [] new put h = tt
      added_unify f older (p ∷ added) new (x, is, free, walks, put) h =
          let (same, _) = solves-before f ((x, p.1) ∷ older) added new put h in
          (ap (fill f) is ∙ same, added_unify f ((x, p.1) ∷ older) added new put h)

  settles : (es : List Equation) (old lists : List Disequality) (out : List (List Equation)) → Brought bound old lists → old ≡ map (λ e. e ∷ []) es → Resolved bound lists out → Settled st es out
  settles [] old lists out Brought.none_left is d = from_none bound [] out d refl
  settles (e ∷ es) old lists out Brought.none_left is d = cc
  settles [] old lists out (Brought.listed says rest) is d = cc
  settles [] old lists out (Brought.left_out never rest) is d = cc
  settles (e ∷ es) old lists out (Brought.listed {es = x} {fs = fs} {old = more} {new = left} says rest) is d =
      let first : x ≡ e ∷ [] = cc in
      let others : more ≡ map (λ e. e ∷ []) es = cc in
      by (subst (λ y. SaysAsMuch bound y fs) first says) (λ ls r. settles es more left ls rest others r) (from_first bound (fs ∷ left) out d fs left refl)
    where
      by : SaysAsMuch bound (e ∷ []) fs → ((ls : List (List Equation)) → Resolved bound left ls → Settled st es ls) → FromFirst bound fs left out → Settled st (e ∷ es) out
      by says rest (inl (added, ls, unify, split, r)) =
          subst (λ o. Settled st (e ∷ es) o) (sym split) (subst (λ c. Listed c ⊥ (SaysTheSame st e) (Settled st es) (added_equations added ∷ ls)) (sym (listed_can e fs added says unify)) (says_same e fs added says unify, rest ls r))
      by says rest (inr (unify, r)) =
          subst (λ c. Listed c ⊥ (SaysTheSame st e) (Settled st es) out) (sym (can't e (λ f h same. adds_solutions.of_terms.1 bound fs step.no_cycle unify f h ((says f h).0 (same, tt))))) (rest out r)
  settles (e ∷ es) old lists out (Brought.left_out {es = x} {old = more} {new = left} never rest) is d =
      let first : x ≡ e ∷ [] = cc in
      let others : more ≡ map (λ e. e ∷ []) es = cc in
      subst (λ c. Listed c ⊥ (SaysTheSame st e) (Settled st es) out) (sym (can't e (λ f h same. subst (λ y. NeverEqual bound y) first never f h (same, tt)))) (settles es more left out rest others d)

  pub lists_settle : (out : List (List Equation)) → Resolved bound parts.lists.asserted out → Settled st (differences st.prims) out
  lists_settle out d = settles (differences st.prims) (map (λ e. e ∷ []) (differences st.prims)) parts.lists.asserted out step.differ refl d

pub differences_known : GroundMeaning → (parts : Parts) (st : Store) → ∥ AreInStep parts st ∥₁ → (out : List (List Equation)) → Resolved parts.bound parts.lists.asserted out → AreDifferences st (differences st.prims) out
differences_known ground parts st step out d = settled-lists st (differences st.prims) out (settled-known st (differences st.prims) out (∥∥₁_map step (λ i. lists_settle ground parts st i out d)))
