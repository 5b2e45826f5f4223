-- The steps of unification over lent bindings.
use Rattle.std.proofs.Common.{◌≡◌, ℕ, ◌<◌, List, [], ◌∷◌, ◌++◌, Option, Some, None, option_map, append_assoc, append-nil, sym, ap, subst, refl, ◌∙◌, suc, ◌-◌, ◌≤◌, map, length, get_or, drop, drop-cons, arith}
use Rattle.std.specs.Option.{option_to_list}
use Rattle.std.proofs.lemmas.List.{map_push}
use Rattle.kan_terms.specs.Tree.{Tree, Tm}
use Rattle.kan_terms.specs.Terms.{tree}
use Rattle.kan_terms.specs.declared.terms.TermPair.{TermPair}
use Rattle.kan_model.specs.Stores.Prims.{equation as pair_equation}
use Rattle.kan_model.specs.Stores.Store.{Equation}
use Rattle.unify_core.specs.declared.walking.LentBinding.{LentBinding}
use Rattle.unify_core.specs.declared.unifying.Sides.{Sides}
use Rattle.unify_core.specs.Walking.{Pairs}
use Rattle.unify_core.specs.Cycles.{HasNoCycle}
use Rattle.unify_core.specs.LentBindings.{lent_pair, with_lent, lent_sides, equation_of, waiting_equations, with_top, with_next, StepTo}
use Rattle.unify_core.specs.Unifying.{Meeting, asked_by, Unifying}
use Rattle.unify_core.proofs.CycleLaws.{grown, no_cycle}
use Rattle.unify_core.proofs.Steps.LentBindingLaws.{with_lent-push}
use Rattle.unify_core.proofs.Steps.LoadLaws.{left_over, falls_same, falls_parts, falls_binding}
use Rattle.unify_core.proofs.Relation.UnifyingLaws.{binding_grows}

-- the top of a stack comes first
pub equations-push : (old : List Sides) (s : Sides) → waiting_equations (old ++ s ∷ []) ≡ equation_of s ∷ waiting_equations old
equations-push [] s = refl
equations-push (t ∷ old) s = ap (λ es. es ++ equation_of t ∷ []) (equations-push old s)

-- sides put on a stack whose top is held apart: where there is no top, and where there is one
pub put_first : (top : Option Sides) (below : List Sides) (s : Sides) → top ≡ None → equation_of s ∷ waiting_equations below ≡ equation_of s ∷ with_top top (waiting_equations below)
put_first top below s none = ap (λ t. equation_of s ∷ with_top t (waiting_equations below)) (sym none)

pub put_over : (top : Option Sides) (below new : List Sides) (s covered : Sides) → top ≡ Some covered → new ≡ below ++ covered ∷ [] →
    equation_of s ∷ waiting_equations new ≡ equation_of s ∷ with_top top (waiting_equations below)
put_over top below new s covered some put =
    ap (λ es. equation_of s ∷ es) (ap waiting_equations put ∙ equations-push below covered) ∙ ap (λ t. equation_of s ∷ with_top t (waiting_equations below)) (sym some)

-- and taken off
pub popped : (old new : List Sides) (p : Option Sides) → old ≡ new ++ option_to_list p → (p ≡ None → old ≡ []) → with_next p (waiting_equations new) ≡ waiting_equations old
popped old new None split none = ap waiting_equations (sym (none refl))
popped old new (Some s) split none = sym (ap waiting_equations split ∙ equations-push new s)

-- whatever the equations that are left add stands behind what was lent so far, and all together is what the whole equations add
abbrev pub Leads : Pairs → List Equation → List LentBinding → List Equation → Type 0
Leads bound whole lent es = (r : Option (List (Tm × Tm))) → Unifying (with_lent lent bound) es r → Unifying bound whole (option_map (λ more. lent_sides lent ++ more) r)

nothing_before : (r : Option (List (Tm × Tm))) → r ≡ option_map (λ more. [] ++ more) r
nothing_before None = refl
nothing_before (Some more) = refl

-- one more lent binding
one_more : (lent lent' : List LentBinding) (one : LentBinding) (x : ℕ) (t : Tm) → lent_pair one ≡ (x, t) → lent' ≡ lent ++ one ∷ [] → (r : Option (List (Tm × Tm))) →
    option_map (λ more. lent_sides lent ++ more) (option_map (λ more. (Tree.leaf x, t) ∷ more) r) ≡ option_map (λ more. lent_sides lent' ++ more) r
one_more lent lent' one x t is put None = refl
one_more lent lent' one x t is put (Some more) =
    ap (λ p. Some (lent_sides lent ++ (Tree.leaf p.0, p.1) ∷ more)) (sym is)
    ∙ ap Some (sym (append_assoc (lent_sides lent) ((Tree.leaf one.var, tree one.term.now) ∷ []) more)
    ∙ ap (λ xs. xs ++ more) (sym (map_push (λ l. (Tree.leaf l.var, tree l.term.now)) lent one) ∙ ap lent_sides (sym put)))

lent_more : (bound : Pairs) (lent lent' : List LentBinding) (one : LentBinding) (x : ℕ) (t : Tm) → lent_pair one ≡ (x, t) → lent' ≡ lent ++ one ∷ [] → (x, t) ∷ with_lent lent bound ≡ with_lent lent' bound
lent_more bound lent lent' one x t is put =
    ap (λ p. p ∷ with_lent lent bound) (sym is) ∙ sym (with_lent-push lent one bound) ∙ ap (λ ls. with_lent ls bound) (sym put)

module _ (bound : Pairs) (whole : List Equation) (e : Equation) (es : List Equation) (lent lent' : List LentBinding) where
  -- what holds after a step that goes on
  abbrev pub AfterStep : List Equation → Type 0
  AfterStep es' = Leads bound whole lent' es' × HasNoCycle (with_lent lent' bound) × (left_over (with_lent lent' bound) es' < left_over (with_lent lent bound) (e ∷ es))

  pub step_on : (es' : List Equation) → Leads bound whole lent (e ∷ es) → HasNoCycle (with_lent lent bound) → StepTo bound lent es (Some es') lent' (asked_by (with_lent lent bound) e) → AfterStep es'
  step_on es' leads h moved = by (asked_by (with_lent lent bound) e) refl moved
    where
      by : (m : Meeting) → asked_by (with_lent lent bound) e ≡ m → StepTo bound lent es (Some es') lent' m → AfterStep es'
      by Meeting.nothing asks (same, some) =
          let left : es' ≡ es = cc in
          rw (same, left) (λ r d. leads r (Unifying.same asks d), h, falls_same (with_lent lent bound) (grown (with_lent lent bound) h) e es asks)
      by (Meeting.parts one rest) asks (same, some) =
          let left : es' ≡ one ∷ rest ∷ es = cc in
          rw (same, left) (λ r d. leads r (Unifying.parted asks d), h, falls_parts (with_lent lent bound) (grown (with_lent lent bound) h) e es one rest asks)
      by (Meeting.binding x t) asks ((out, (one, is, put)), left) =
          let more : (x, t) ∷ with_lent lent bound ≡ with_lent lent' bound = lent_more bound lent lent' one x t is put in
          rw left (
            λ r d. subst (Unifying bound whole) (one_more lent lent' one x t is put r)
                (leads (option_map (λ more. (Tree.leaf x, t) ∷ more) r) (Unifying.bound_one asks out (subst (λ b. Unifying b es r) (sym more) d))),
            subst HasNoCycle more (no_cycle ((x, t) ∷ with_lent lent bound) (binding_grows ⊥ (with_lent lent bound) (grown (with_lent lent bound) h) e x t asks out)),
            subst (λ b. left_over b es < left_over (with_lent lent bound) (e ∷ es)) more (falls_binding (with_lent lent bound) (grown (with_lent lent bound) h) e es x t asks out),
          )
      by Meeting.clash asks stopped = cc

  -- a step that doesn't finds that there is no unifier
  pub step_off : Leads bound whole lent (e ∷ es) → StepTo bound lent es None lent' (asked_by (with_lent lent bound) e) → Unifying bound whole None
  step_off leads moved = by (asked_by (with_lent lent bound) e) refl moved
    where
      by : (m : Meeting) → asked_by (with_lent lent bound) e ≡ m → StepTo bound lent es None lent' m → Unifying bound whole None
      by Meeting.nothing asks (same, some) = cc
      by (Meeting.parts one rest) asks (same, some) = cc
      by (Meeting.binding x t) asks inside = leads None (Unifying.inside asks inside)
      by Meeting.clash asks stopped = leads None (Unifying.apart asks)

-- one turn of the loop: what was next, and what a step left
pub turn_on : (bound : Pairs) (whole : List Equation) (behind : List Equation) (next : Option Sides) (s : Sides) (lent lent' : List LentBinding) (left : Option (List Equation)) (es' : List Equation) →
    next ≡ Some s → Leads bound whole lent (with_next next behind) → HasNoCycle (with_lent lent bound) →
    StepTo bound lent behind left lent' (asked_by (with_lent lent bound) (equation_of s)) → left ≡ Some es' →
    Leads bound whole lent' es' × HasNoCycle (with_lent lent' bound)
    × (left_over (with_lent lent' bound) es' < left_over (with_lent lent bound) (with_next next behind))
turn_on bound whole behind next s lent lent' left es' is leads h moved goes_on =
    let (leads', h', less) = step_on bound whole (equation_of s) behind lent lent' es' (subst (λ n. Leads bound whole lent (with_next n behind)) is leads) h
    (subst (λ l. StepTo bound lent behind l lent' (asked_by (with_lent lent bound) (equation_of s))) goes_on moved) in
    (leads', h', subst (λ n. left_over (with_lent lent' bound) es' < left_over (with_lent lent bound) (with_next n behind)) (sym is) less)

pub turn_off : (bound : Pairs) (whole : List Equation) (behind : List Equation) (next : Option Sides) (s : Sides) (lent lent' : List LentBinding) (left : Option (List Equation)) →
    next ≡ Some s → Leads bound whole lent (with_next next behind) →
    StepTo bound lent behind left lent' (asked_by (with_lent lent bound) (equation_of s)) → left ≡ None → Unifying bound whole None
turn_off bound whole behind next s lent lent' left is leads moved stops =
    step_off bound whole (equation_of s) behind lent lent' (subst (λ n. Leads bound whole lent (with_next n behind)) is leads)
    (subst (λ l. StepTo bound lent behind l lent' (asked_by (with_lent lent bound) (equation_of s))) stops moved)

-- the loop ends where nothing is next
pub turns_end : (bound : Pairs) (whole behind : List Equation) (next : Option Sides) (lent : List LentBinding) → next ≡ None → Leads bound whole lent (with_next next behind) →
    Unifying bound whole (Some (lent_sides lent))
turns_end bound whole behind next lent none leads =
    subst (λ xs. Unifying bound whole (Some xs)) (append-nil (lent_sides lent))
    (leads (Some []) (subst (λ n. Unifying (with_lent lent bound) (with_next n behind) (Some [])) (sym none) Unifying.no_equation))

-- one more pair waits, in front of those behind it
pub pair_waits : (pairs : List TermPair) (left : ℕ) (pair : TermPair) (waiting new : List Sides) (s : Sides) → 0 < left → left ≤ length pairs → pair ≡ get_or pairs (left - 1) pair →
    new ≡ waiting ++ s ∷ [] → equation_of s ≡ pair_equation pair → waiting_equations waiting ≡ map pair_equation (drop left pairs) →
    waiting_equations new ≡ map pair_equation (drop (left - 1) pairs)
pair_waits pairs left pair waiting new s some within here put says kept =
    let next : suc (left - 1) ≡ left = omega (arith, some) in
    ap waiting_equations put ∙ equations-push waiting s ∙ ap (λ e. e ∷ waiting_equations waiting) says
    ∙ ap (λ es. pair_equation pair ∷ es) (kept ∙ ap (λ i. map pair_equation (drop i pairs)) (sym next))
    ∙ sym (rw (drop-cons pairs (left - 1) pair (omega (arith, some, within)), ← here) refl)
