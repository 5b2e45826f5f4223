-- What the plain store's equations are, and when its primitives are kept.
use Rattle.std.proofs.Common.{◌≡◌, ℕ, Bool, true, false, List, [], ◌∷◌, ◌++◌, map, reverse, refl, sym, ◌∙◌, ap, ap₂, lt-ltb, ltb-true, arith, eqb, take, get_or, length, ◌<◌, ◌+◌, Option, Some, None}
use Rattle.std.specs.Prelude.{◌&&◌, unwrap_or}
use Rattle.std.specs.List.{list_all}
use Rattle.std.proofs.lemmas.List.{reverse-reverse}
use Rattle.kan_terms.specs.Tree.{Tree, Tm, term_eq}
use Rattle.kan_terms.proofs.TreeLaws.{term_eq-true, eq-term_eq}
use Rattle.std.proofs.lemmas.Bool.{eqb-true, eq-eqb}
use Rattle.kan_terms.specs.declared.terms.TermPair.{TermPair}
use Rattle.kan_model.specs.Programs.Goals.{Primitive}
use Rattle.kan_model.specs.Stores.Store.{Equation, equations}
use Rattle.kan_model.specs.Stores.Solve.{Replaced, Replacement, solve, apply, image, left_first}
use Rattle.kan_model.specs.Programs.Scope.{all_below, sides_below}
use Rattle.kan_model.proofs.Solving.SolveLaws.{solve_by-nothing}
use Rattle.kan_model.proofs.Solving.ReplacedLaws.{applied_twice}
use Rattle.kan_model.specs.Stores.Prims.{prim as primitive}
use Rattle.kan_model.specs.declared.prims.Asserted.{Asserted}
use Rattle.kan_model.specs.Stores.Kept.{is_kept, holds_with, holds_under}
use Rattle.kan_model.specs.Answers.Answer.{same_form, same_pair}
use Rattle.kan_plain.specs.Looking.{shallow_image}
use Rattle.kan_plain.proofs.EachLaws.{made_more}
use Rattle.kan_model.specs.Stores.Calls.{is_answer, replacement_of, IsFoundFor, WalksTo}
use Rattle.kan_solving.specs.Solving.{on_stack}
use Rattle.kan_model.proofs.Solving.FreshLaws.{equations-append}
use Rattle.kan_model.specs.Stores.Prims.{equation}
use Rattle.kan_solving.proofs.SolvingSteps.{map-reverse}

-- the equations of a list with one primitive more
pub equations-push : (ps : List (Primitive Tm)) (p : Primitive Tm) (listed : List Equation) (longer : List Equation) →
    listed ≡ equations ps → longer ≡ listed ++ equations (p ∷ []) → longer ≡ equations (ps ++ p ∷ [])
equations-push ps p listed longer so_far grown = grown ∙ ap (λ es. es ++ equations (p ∷ [])) so_far ∙ sym (equations-append ps (p ∷ []))

-- a reversed list is a stack with its first equation on top
pub stacked-reverse : (listed pending : List TermPair) (es : List Equation) → map equation listed ≡ es → pending ≡ reverse listed → on_stack pending ≡ es
stacked-reverse listed pending es so_far turned =
    ap on_stack turned ∙ ap reverse (map-reverse equation listed) ∙ reverse-reverse (map equation listed) ∙ so_far

and-split : (a b : Bool) → (a && b) ≡ true → (a ≡ true) × (b ≡ true)
and-split true true e = (refl, refl)
and-split true false e = cc
and-split false true e = cc
and-split false false e = cc

-- one primitive more, of a list of primitives
pub list_step : (prims : List Asserted) (i : ℕ) (p : Asserted) (listed longer : List Equation) →
    i < length prims → p ≡ get_or prims i p → listed ≡ equations (map primitive (take i prims)) → longer ≡ listed ++ equations (primitive p ∷ []) →
    longer ≡ equations (map primitive (take (i + 1) prims))
list_step prims i p listed longer below here so_far grown =
    equations-push (map primitive (take i prims)) (primitive p) listed longer so_far grown ∙ ap equations (sym (made_more primitive prims i p below here))

same_pair-same : (p : Replaced) → same_pair p p ≡ true
same_pair-same p = rw (eq-eqb p.var p.var refl, eq-term_eq p.by p.by refl) refl

same_form-same : (s : Replacement) → same_form s s ≡ true
same_form-same [] = refl
same_form-same (p ∷ ps) = rw (same_pair-same p, same_form-same ps) refl

-- an answer is the answer
pub answer_is : (s : Replacement) (r : Option Replacement) → Some s ≡ r → is_answer s r ≡ true
answer_is s r e = ap (is_answer s) (sym e) ∙ same_form-same s

same_pair-true : (p q : Replaced) → same_pair p q ≡ true → p ≡ q
same_pair-true p q e =
    let (v, b) = and-split (eqb p.var q.var) (term_eq p.by q.by) e in
    ap₂ (λ x t. record { var = x; by = t }) (eqb-true p.var q.var v) (term_eq-true p.by q.by b)

same_form-true : (s r : Replacement) → same_form s r ≡ true → s ≡ r
same_form-true [] [] e = refl
same_form-true [] (q ∷ qs) e = cc
same_form-true (p ∷ ps) [] e = cc
same_form-true (p ∷ ps) (q ∷ qs) e =
    let (first, rest) = and-split (same_pair p q) (same_form ps qs) e in
    ap₂ (λ x xs. x ∷ xs) (same_pair-true p q first) (same_form-true ps qs rest)

pub is_answer-true : (s : Replacement) (r : Option Replacement) → is_answer s r ≡ true → r ≡ Some s
is_answer-true s None e = cc
is_answer-true s (Some r) e = ap Some (sym (same_form-true s r e))

-- a term that a variable is replaced by is found for it
found_itself : (s : Replacement) (t : Tm) → apply s t ≡ t → IsFoundFor s t t
found_itself s (Tree.leaf v) e = refl
found_itself s (Tree.sym x) e = refl
found_itself s (Tree.str x) e = refl
found_itself s (Tree.num n) e = refl
found_itself s (Tree.truth b) e = refl
found_itself s Tree.nil e = refl
found_itself s (Tree.pair a b) e = e

-- what is seen of a term is walked to
pub walk_agrees : (ps : List (Primitive Tm)) (n : ℕ) (s : Replacement) (t r : Tm) → solve (equations ps) ≡ Some s → r ≡ shallow_image s t →
    WalksTo (replacement_of (record { prims = ps; counter = n })) t r
walk_agrees ps n s (Tree.leaf v) r solved is_seen = rw (solved, is_seen) (found_itself s (image s v) (applied_twice left_first (equations ps) s (Tree.leaf v) solved))
walk_agrees ps n s (Tree.sym x) r solved is_seen = is_seen
walk_agrees ps n s (Tree.str x) r solved is_seen = is_seen
walk_agrees ps n s (Tree.num x) r solved is_seen = is_seen
walk_agrees ps n s (Tree.truth x) r solved is_seen = is_seen
walk_agrees ps n s Tree.nil r solved is_seen = is_seen
walk_agrees ps n s (Tree.pair a b) r solved is_seen = is_seen

-- the counter may rise
all_below-more : (n k : ℕ) (t : Tm) → all_below n t ≡ true → all_below (n + k) t ≡ true
all_below-more n k (Tree.leaf v) e = lt-ltb v (n + k) (let below : v < n = ltb-true v n e in omega arith)
all_below-more n k (Tree.sym s) e = refl
all_below-more n k (Tree.str s) e = refl
all_below-more n k (Tree.num m) e = refl
all_below-more n k (Tree.truth b) e = refl
all_below-more n k Tree.nil e = refl
all_below-more n k (Tree.pair a b) e =
    let (l, r) = and-split (all_below n a) (all_below n b) e in rw (all_below-more n k a l, all_below-more n k b r) refl

sides_below-more : (n k : ℕ) (p : Primitive Tm) → sides_below n p ≡ true → sides_below (n + k) p ≡ true
sides_below-more n k (Primitive.same a b) e = let (l, r) = and-split (all_below n a) (all_below n b) e in rw (all_below-more n k a l, all_below-more n k b r) refl
sides_below-more n k (Primitive.differ a b) e = let (l, r) = and-split (all_below n a) (all_below n b) e in rw (all_below-more n k a l, all_below-more n k b r) refl
sides_below-more n k (Primitive.symbol a) e = all_below-more n k a e
sides_below-more n k (Primitive.number a) e = all_below-more n k a e
sides_below-more n k (Primitive.text a) e = all_below-more n k a e
sides_below-more n k (Primitive.absent tag a) e = all_below-more n k a e

pub counted_more : (n k : ℕ) (ps : List (Primitive Tm)) → list_all (sides_below n) ps ≡ true → list_all (sides_below (n + k)) ps ≡ true
counted_more n k [] e = refl
counted_more n k (p ∷ ps) e =
    let (first, rest) = and-split (sides_below n p) (list_all (sides_below n) ps) e in rw (sides_below-more n k p first, counted_more n k ps rest) refl

-- a test that is kept by equal primitives
pub moved_test : (test : List (Primitive Tm) → Bool) (old new : List (Primitive Tm)) → new ≡ old → test old ≡ true → test new ≡ true
moved_test test old new same e = ap test same ∙ e

-- the answer of equal primitives
pub moved_answer : (old new : List (Primitive Tm)) (s r : Replacement) → new ≡ old → r ≡ s → is_answer s (solve (equations old)) ≡ true → is_answer r (solve (equations new)) ≡ true
moved_answer old new s r same copy e = ap₂ (λ t ps. is_answer t (solve (equations ps))) copy same ∙ e

-- no equation has the answer that replaces nothing
pub nothing_answered : is_answer [] (solve []) ≡ true
nothing_answered = answer_is [] (solve []) (sym (solve_by-nothing left_first))

-- no primitive holds under it
pub nothing_kept : is_kept (record { prims = []; counter = 0 }) ≡ true
nothing_kept = ap (holds_with []) (solve_by-nothing left_first)

-- primitives with an answer are kept where they hold under it
pub kept_where : (ps : List (Primitive Tm)) (n : ℕ) (s : Replacement) (b : Bool) → Some s ≡ solve (equations ps) → b ≡ holds_under ps s → is_kept (record { prims = ps; counter = n }) ≡ b
kept_where ps n s b answered hold = sym (ap (holds_with ps) answered) ∙ sym hold

-- the answer of a store's equations
pub answer-is : (ps : List (Primitive Tm)) (n : ℕ) (s : Replacement) → solve (equations ps) ≡ Some s → replacement_of (record { prims = ps; counter = n }) ≡ s
answer-is ps n s solved = ap (λ r. unwrap_or r []) solved
