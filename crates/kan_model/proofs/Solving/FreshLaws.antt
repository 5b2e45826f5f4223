-- The equation of a new variable is kept: no constraint sees the variable.
use Rattle.std.proofs.Common.{◌≡◌, ℕ, ◌<◌, Bool, true, false, ◌||◌, not, eqb, List, [], ◌∷◌, ◌++◌, map, Option, Some, None, option_map, inl, inr, sym, ap, ap₂, subst, refl, ◌∙◌, arith}
use Rattle.std.specs.List.{list_all}
use Rattle.std.proofs.lemmas.Bool.{and_from, and_parts, or_cases, both_ways, ltb-true, eqb-true, ne_eqb, false_from_ne_true, true≢false}
use Rattle.kan_terms.specs.Tree.{Tree, Tm, occurs}
use Rattle.kan_terms.proofs.TreeLaws.{fill-leaf}
use Rattle.kan_model.specs.Programs.Goals.{Primitive}
use Rattle.kan_model.specs.Programs.Scope.{all_below, sides_below}
use Rattle.kan_model.specs.Stores.Store.{equations}
use Rattle.kan_model.specs.Stores.Solve.{Replacement, Work, apply, work, Solves, left_first, solve, solve_store}
use Rattle.kan_model.specs.Stores.Kept.{allows, is_variable, gives_type, has_type, lacks_type, gives_one_type, holds_under, holds_with}
use Rattle.kan_model.specs.Stores.Composition.{apply_sides, compose, go_on, FreshIsKept}
use Rattle.kan_model.specs.Stores.Unifiers.{replaces}
use Rattle.kan_model.specs.declared.prims.Kind.{Kind}
use Rattle.kan_model.specs.declared.prims.Kind.TheVariants.{Symbol, Number, Text}
use Rattle.kan_model.proofs.Solving.VariableCount.{stands}
use Rattle.kan_model.proofs.Solving.SolveLaws.{solve_by-Solves, Solves-one_answer}
use Rattle.kan_model.proofs.Solving.ReplacedLaws.{answer_clean, in_applied, apply-kept}
use Rattle.kan_model.proofs.Solving.CompositionLaws.{compose_is_both, solver_goes_on}

-- the equations of two lists
pub equations-append : (ps qs : List (Primitive Tm)) → equations (ps ++ qs) ≡ equations ps ++ equations qs
equations-append [] qs = refl
equations-append (Primitive.same a b ∷ ps) qs = ap (λ es. record { left = a; right = b } ∷ es) (equations-append ps qs)
equations-append (Primitive.differ a b ∷ ps) qs = equations-append ps qs
equations-append (Primitive.symbol a ∷ ps) qs = equations-append ps qs
equations-append (Primitive.number a ∷ ps) qs = equations-append ps qs
equations-append (Primitive.text a ∷ ps) qs = equations-append ps qs
equations-append (Primitive.absent tag a ∷ ps) qs = equations-append ps qs

-- a variable in a term whose variables lie below a number does so itself
below_occurs : (n v : ℕ) (t : Tm) → all_below n t ≡ true → occurs v t ≡ true → v < n
below_occurs n v (Tree.leaf w) h k = subst (λ x. x < n) (sym (eqb-true v w k)) (ltb-true w n h)
below_occurs n v (Tree.sym s) h k = absurd (true≢false (sym k))
below_occurs n v (Tree.str s) h k = absurd (true≢false (sym k))
below_occurs n v (Tree.num m) h k = absurd (true≢false (sym k))
below_occurs n v (Tree.truth b) h k = absurd (true≢false (sym k))
below_occurs n v Tree.nil h k = absurd (true≢false (sym k))
below_occurs n v (Tree.pair a b) h k =
    let (first, rest) = and_parts (all_below n a) (all_below n b) h in
    elim (or_cases (occurs v a) (occurs v b) k) [ inl here ↦ below_occurs n v a first here | inr there ↦ below_occurs n v b rest there ]

-- so does one in the equations of primitives
below_stands : (n v : ℕ) (ps : List (Primitive Tm)) → list_all (sides_below n) ps ≡ true → stands v (equations ps) ≡ true → v < n
below_stands n v [] h k = absurd (true≢false (sym k))
below_stands n v (Primitive.same a b ∷ ps) h k =
    let (first, rest) = and_parts (sides_below n (Primitive.same a b)) (list_all (sides_below n) ps) h in
    let (l, r) = and_parts (all_below n a) (all_below n b) first in
    elim (or_cases (occurs v a || occurs v b) (stands v (equations ps)) k) [
      | inl here ↦ elim (or_cases (occurs v a) (occurs v b) here) [ inl p ↦ below_occurs n v a l p | inr q ↦ below_occurs n v b r q ]
      | inr there ↦ below_stands n v ps rest there
    ]
below_stands n v (Primitive.differ a b ∷ ps) h k = below_stands n v ps (and_parts (sides_below n (Primitive.differ a b)) (list_all (sides_below n) ps) h).1 k
below_stands n v (Primitive.symbol a ∷ ps) h k = below_stands n v ps (and_parts (sides_below n (Primitive.symbol a)) (list_all (sides_below n) ps) h).1 k
below_stands n v (Primitive.number a ∷ ps) h k = below_stands n v ps (and_parts (sides_below n (Primitive.number a)) (list_all (sides_below n) ps) h).1 k
below_stands n v (Primitive.text a ∷ ps) h k = below_stands n v ps (and_parts (sides_below n (Primitive.text a)) (list_all (sides_below n) ps) h).1 k
below_stands n v (Primitive.absent tag a ∷ ps) h k = below_stands n v ps (and_parts (sides_below n (Primitive.absent tag a)) (list_all (sides_below n) ps) h).1 k

-- a variable is replaced by a term in which it doesn't stand
work_fresh : (v : ℕ) (t : Tm) → occurs v t ≡ false → work left_first (record { left = Tree.leaf v; right = t }) ≡ Work.substitute v t
work_fresh v (Tree.leaf w) out = rw out refl
work_fresh v (Tree.sym s) out = refl
work_fresh v (Tree.str s) out = refl
work_fresh v (Tree.num n) out = refl
work_fresh v (Tree.truth b) out = refl
work_fresh v Tree.nil out = refl
work_fresh v (Tree.pair a b) out = rw out refl

abbrev alone : ℕ → Tm → Replacement
alone v t = record { var = v; by = t } ∷ []

solve_fresh : (v : ℕ) (t : Tm) → occurs v t ≡ false → solve (record { left = Tree.leaf v; right = t } ∷ []) ≡ Some (alone v t)
solve_fresh v t out =
    Solves-one_answer left_first (record { left = Tree.leaf v; right = t } ∷ []) _ _ (solve_by-Solves left_first _)
    (Solves.replaced (work_fresh v t out) Solves.no_equation)
    ∙ ap (λ u. Some (alone v u)) (fill-leaf t)

apply_alone : (v : ℕ) (t a : Tm) → occurs v a ≡ false → apply (alone v t) a ≡ a
apply_alone v t a out = apply-kept (alone v t) a (λ w inside. other w inside)
  where
    other : (w : ℕ) → occurs w a ≡ true → (eqb v w || false) ≡ false
    other w inside = rw (ne_eqb v w (λ same. both_ways (occurs v a) out (subst (λ x. occurs x a ≡ true) (sym same) inside))) refl

-- two replacements that agree on the terms below a number, the first before and the second behind the new equation
module _ (n : ℕ) (s r : Replacement) (agree : (a : Tm) → all_below n a ≡ true → apply r a ≡ apply s a) (t : Tm) where
  abbrev more : List (Primitive Tm) → List (Primitive Tm)
  more ps = ps ++ Primitive.same (Tree.leaf n) t ∷ []

  allows_agree : (p : Primitive Tm) → sides_below n p ≡ true → allows s p ≡ true → allows r p ≡ true
  allows_agree (Primitive.same a b) h k = refl
  allows_agree (Primitive.differ a b) h k =
      let (l, q) = and_parts (all_below n a) (all_below n b) h in rw (agree a l, agree b q) k
  allows_agree (Primitive.symbol a) h k = rw (agree a h) k
  allows_agree (Primitive.number a) h k = rw (agree a h) k
  allows_agree (Primitive.text a) h k = rw (agree a h) k
  allows_agree (Primitive.absent tag a) h k = rw (agree a h) k

  gives_agree : (kind : Kind) (v : ℕ) (p : Primitive Tm) → sides_below n p ≡ true → gives_type kind r v p ≡ gives_type kind s v p
  gives_agree Symbol v (Primitive.symbol a) h = ap (is_variable v) (agree a h)
  gives_agree Number v (Primitive.number a) h = ap (is_variable v) (agree a h)
  gives_agree Text v (Primitive.text a) h = ap (is_variable v) (agree a h)
  gives_agree Symbol v (Primitive.same a b) h = refl
  gives_agree Symbol v (Primitive.differ a b) h = refl
  gives_agree Symbol v (Primitive.number a) h = refl
  gives_agree Symbol v (Primitive.text a) h = refl
  gives_agree Symbol v (Primitive.absent tag a) h = refl
  gives_agree Number v (Primitive.same a b) h = refl
  gives_agree Number v (Primitive.differ a b) h = refl
  gives_agree Number v (Primitive.symbol a) h = refl
  gives_agree Number v (Primitive.text a) h = refl
  gives_agree Number v (Primitive.absent tag a) h = refl
  gives_agree Text v (Primitive.same a b) h = refl
  gives_agree Text v (Primitive.differ a b) h = refl
  gives_agree Text v (Primitive.symbol a) h = refl
  gives_agree Text v (Primitive.number a) h = refl
  gives_agree Text v (Primitive.absent tag a) h = refl

  no_type : (kind : Kind) (v : ℕ) → (gives_type kind r v (Primitive.same (Tree.leaf n) t) || false) ≡ false
  no_type Symbol v = refl
  no_type Number v = refl
  no_type Text v = refl

  has_agree : (kind : Kind) (v : ℕ) (ps : List (Primitive Tm)) → list_all (sides_below n) ps ≡ true → has_type kind r (more ps) v ≡ has_type kind s ps v
  has_agree kind v [] h = no_type kind v
  has_agree kind v (p ∷ ps) h =
      let (first, rest) = and_parts (sides_below n p) (list_all (sides_below n) ps) h in
      ap₂ (λ x y. x || y) (gives_agree kind v p first) (has_agree kind v ps rest)

  lacks_agree : (kind : Kind) (ps : List (Primitive Tm)) → list_all (sides_below n) ps ≡ true → (a : Tm) → lacks_type kind r (more ps) a ≡ lacks_type kind s ps a
  lacks_agree kind ps h (Tree.leaf v) = ap not (has_agree kind v ps h)
  lacks_agree kind ps h (Tree.sym x) = refl
  lacks_agree kind ps h (Tree.str x) = refl
  lacks_agree kind ps h (Tree.num m) = refl
  lacks_agree kind ps h (Tree.truth b) = refl
  lacks_agree kind ps h Tree.nil = refl
  lacks_agree kind ps h (Tree.pair a b) = refl

  one_type_agree : (ps : List (Primitive Tm)) → list_all (sides_below n) ps ≡ true → (p : Primitive Tm) → sides_below n p ≡ true →
      gives_one_type s ps p ≡ true → gives_one_type r (more ps) p ≡ true
  one_type_agree ps h (Primitive.symbol a) l k = rw (agree a l, lacks_agree Number ps h (apply s a), lacks_agree Text ps h (apply s a)) k
  one_type_agree ps h (Primitive.text a) l k = rw (agree a l, lacks_agree Number ps h (apply s a)) k
  one_type_agree ps h (Primitive.same a b) l k = refl
  one_type_agree ps h (Primitive.differ a b) l k = refl
  one_type_agree ps h (Primitive.number a) l k = refl
  one_type_agree ps h (Primitive.absent tag a) l k = refl

  -- a test of all primitives that the new equation passes, too
  all_agree : (p q : Primitive Tm → Bool) (qs : List (Primitive Tm)) → ((x : Primitive Tm) → sides_below n x ≡ true → p x ≡ true → q x ≡ true) → q (Primitive.same (Tree.leaf n) t) ≡ true →
      list_all (sides_below n) qs ≡ true → list_all p qs ≡ true → list_all q (more qs) ≡ true
  all_agree p q [] each last h k = and_from (q (Primitive.same (Tree.leaf n) t)) true last refl
  all_agree p q (x ∷ qs) each last h k =
      let (first, rest) = and_parts (sides_below n x) (list_all (sides_below n) qs) h in
      let (one, others) = and_parts (p x) (list_all p qs) k in
      and_from (q x) (list_all q (more qs)) (each x first one) (all_agree p q qs each last rest others)

  holds_agree : (ps : List (Primitive Tm)) → list_all (sides_below n) ps ≡ true → holds_under ps s ≡ true → holds_under (more ps) r ≡ true
  holds_agree ps h k =
      let (allowed, typed) = and_parts (list_all (allows s) ps) (list_all (gives_one_type s ps) ps) k in
      and_from (list_all (allows r) (more ps)) (list_all (gives_one_type r (more ps)) (more ps))
      (all_agree (allows s) (allows r) ps allows_agree refl h allowed)
      (all_agree (gives_one_type s ps) (gives_one_type r (more ps)) ps (one_type_agree ps h) refl h typed)

-- a new variable isn't in what an answer makes of a term of the old ones
new_outside : (n : ℕ) (ps : List (Primitive Tm)) (s : Replacement) → list_all (sides_below n) ps ≡ true → solve (equations ps) ≡ Some s →
    (a : Tm) → all_below n a ≡ true → occurs n (apply s a) ≡ false
new_outside n ps s below answered a h = false_from_ne_true (occurs n (apply s a)) (λ k. elim (in_applied (equations ps) s (answer_clean left_first (equations ps) s answered).0 a n k) [
  | inl inside ↦ itself n (below_occurs n n a h inside)
  | inr there ↦ itself n (below_stands n n ps below there)
])
  where
    itself : (m : ℕ) → m < m → ⊥
    itself m l = absurd (omega (arith, l))

new_unreplaced : (n : ℕ) (ps : List (Primitive Tm)) (s : Replacement) → list_all (sides_below n) ps ≡ true → solve (equations ps) ≡ Some s → replaces s n ≡ false
new_unreplaced n ps s below answered = false_from_ne_true (replaces s n) (λ k. itself n (below_stands n n ps below ((answer_clean left_first (equations ps) s answered).1 n k)))
  where
    itself : (m : ℕ) → m < m → ⊥
    itself m l = absurd (omega (arith, l))

module _ (n : ℕ) (ps : List (Primitive Tm)) (t : Tm) (below : list_all (sides_below n) ps ≡ true) (low : all_below n t ≡ true) where
  with_fresh_kept : (s : Replacement) → solve (equations ps) ≡ Some s → holds_under ps s ≡ true → holds_with (ps ++ Primitive.same (Tree.leaf n) t ∷ []) (solve (equations (ps ++ Primitive.same (Tree.leaf n) t ∷ []))) ≡ true
  with_fresh_kept s answered held =
      rw whole (holds_agree n s (compose s (alone n (apply s t))) agree t ps below held)
    where
      stays : apply s (Tree.leaf n) ≡ Tree.leaf n
      stays = apply-kept s (Tree.leaf n) (λ v same. subst (λ w. replaces s w ≡ false) (sym (eqb-true v n same)) (new_unreplaced n ps s below answered))

      last : solve (map (apply_sides s) (record { left = Tree.leaf n; right = t } ∷ [])) ≡ Some (alone n (apply s t))
      last = ap (λ u. solve (record { left = u; right = apply s t } ∷ [])) stays ∙ solve_fresh n (apply s t) (new_outside n ps s below answered t low)

      whole : solve (equations (ps ++ Primitive.same (Tree.leaf n) t ∷ [])) ≡ Some (compose s (alone n (apply s t)))
      whole =
          ap solve (equations-append ps (Primitive.same (Tree.leaf n) t ∷ []))
          ∙ solver_goes_on left_first (equations ps) (record { left = Tree.leaf n; right = t } ∷ [])
          ∙ ap (go_on left_first (record { left = Tree.leaf n; right = t } ∷ [])) answered
          ∙ ap (option_map (compose s)) last

      agree : (a : Tm) → all_below n a ≡ true → apply (compose s (alone n (apply s t))) a ≡ apply s a
      agree a h = compose_is_both s (alone n (apply s t)) a ∙ apply_alone n (apply s t) (apply s a) (new_outside n ps s below answered a h)

pub fresh_is_kept : FreshIsKept
fresh_is_kept st t kept counted low = by (solve_store st) refl kept
  where
    by : (o : Option Replacement) → solve_store st ≡ o → holds_with st.prims o ≡ true →
        holds_with (st.prims ++ Primitive.same (Tree.leaf st.counter) t ∷ []) (solve (equations (st.prims ++ Primitive.same (Tree.leaf st.counter) t ∷ []))) ≡ true
    by None e h = absurd (true≢false (sym h))
    by (Some s) e h = with_fresh_kept st.counter st.prims t counted low s e h
