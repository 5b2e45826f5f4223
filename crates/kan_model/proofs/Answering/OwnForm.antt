-- A disequality in form is its own solved form.
use Rattle.std.proofs.Common.{◌≡◌, ℕ, ◌<◌, Bool, true, false, ◌&&◌, not, eqb, nat_lt, List, [], ◌∷◌, map, Some, sym, ap₂, subst, refl, arith, inl, inr, if◌then◌else◌}
use Rattle.std.specs.List.{list_all}
use Rattle.std.proofs.lemmas.Bool.{and_parts, ne_eqb, eq-eqb, eqb-true, or_cases, ltb-true, not-true, both_ways, false_from_ne_true, true≢false}
use Rattle.kan_terms.specs.Tree.{Tree, Tm, occurs, term_eq}
use Rattle.kan_terms.proofs.TreeLaws.{term_eq-true, fill-absent_leaf}
use Rattle.kan_model.specs.Stores.Store.{Equation}
use Rattle.kan_model.specs.Stores.Solve.{Work, work, work_apart, unless_inside, apply, replace, replace_sides, Solves, solve_by}
use Rattle.kan_model.specs.Stores.Unifiers.{replaces}
use Rattle.kan_model.specs.Answers.Answer.{NamedPair}
use Rattle.kan_model.specs.Programs.Scope.{all_below}
use Rattle.kan_model.specs.Answers.InForm.{ascends, replaces_lower, pair_in_form, is_replaced, name_before, is_filled, pair_equations, pair_replacement, FormIsSolved}
use Rattle.kan_model.proofs.Solving.SolveLaws.{solve_by-Solves, Solves-one_answer}
use Rattle.kan_model.proofs.Solving.ReplacedLaws.{apply-kept}
use Rattle.kan_model.proofs.ListLaws.{Each-like, Each-both, Each-from_list_all}
use Rattle.kan_model.specs.Each.{Each}

-- the work on a pair in form is the replacement of its name
abbrev AsPair : NamedPair → Equation
AsPair p = record { left = Tree.leaf p.name; right = p.by }

pair_apart : (x : ℕ) (t : Tm) → replaces_lower x t ≡ true → occurs x t ≡ false → work_apart nat_lt (Tree.leaf x) t ≡ Work.substitute x t
pair_apart x (Tree.leaf v) lower out = rw lower refl
pair_apart x (Tree.sym s) lower out = refl
pair_apart x (Tree.str s) lower out = refl
pair_apart x (Tree.num n) lower out = refl
pair_apart x (Tree.truth b) lower out = refl
pair_apart x Tree.nil lower out = refl
pair_apart x (Tree.pair a b) lower out = rw (out, unless_inside) refl

pair_work : (p : NamedPair) → replaces_lower p.name p.by ≡ true → occurs p.name p.by ≡ false → work nat_lt (AsPair p) ≡ Work.substitute p.name p.by
pair_work p lower out = by (term_eq (Tree.leaf p.name) p.by) refl
  where
    by : (c : Bool) → term_eq (Tree.leaf p.name) p.by ≡ c → (if c then Work.identical else work_apart nat_lt (Tree.leaf p.name) p.by) ≡ Work.substitute p.name p.by
    by true same = absurd (both_ways (occurs p.name p.by) out (subst (λ t. occurs p.name t ≡ true) (term_eq-true (Tree.leaf p.name) p.by same) (eq-eqb p.name p.name refl)))
    by false other = pair_apart p.name p.by lower out

-- a name that stands in none of the pairs is replaced in none
rest_kept : (x : ℕ) (t : Tm) (ps : List NamedPair) → Each (λ q. (eqb x q.name ≡ false) × (occurs x q.by ≡ false)) ps → map (replace_sides x t) (pair_equations ps) ≡ pair_equations ps
rest_kept x t [] h = refl
rest_kept x t (q ∷ ps) ((other, out), hs) = ap₂ (λ e es. e ∷ es) (same q other out) (rest_kept x t ps hs)
  where
    same : (q : NamedPair) → eqb x q.name ≡ false → occurs x q.by ≡ false → replace_sides x t (AsPair q) ≡ AsPair q
    same q other out =
        let left : replace x t (Tree.leaf q.name) ≡ Tree.leaf q.name = (rw other refl) in
        let right : replace x t q.by ≡ q.by = fill-absent_leaf x (λ v. if eqb x v then t else Tree.leaf v) (λ y e. rw e refl) q.by out in
        λ i. record { left = left i; right = right i }

-- what a form has, pair by pair
abbrev Apart : NamedPair → NamedPair → Type 0
Apart p q = (eqb p.name q.name ≡ false) × (occurs p.name q.by ≡ false) × (occurs q.name p.by ≡ false)

abbrev Formed : List NamedPair → Type 0
Formed [] = Unit {0}
Formed (p ∷ ps) = (replaces_lower p.name p.by ≡ true) × (occurs p.name p.by ≡ false) × Each (Apart p) ps × Formed ps

-- a name that is replaced behind a pair doesn't stand in its term
not_inside : (p : NamedPair) (ps : List NamedPair) → Each (Apart p) ps → (v : ℕ) → replaces (pair_replacement ps) v ≡ true → occurs v p.by ≡ false
not_inside p [] h v k = absurd (true≢false (sym k))
not_inside p (q ∷ ps) ((other, out, back), hs) v k = elim (or_cases (eqb q.name v) (replaces (pair_replacement ps) v) k) [
  | inl same ↦ subst (λ w. occurs w p.by ≡ false) (eqb-true q.name v same) back
  | inr later ↦ not_inside p ps hs v later
]

form_solves : (ps : List NamedPair) → Formed ps → Solves nat_lt (pair_equations ps) (Some (pair_replacement ps))
form_solves [] h = Solves.no_equation
form_solves (p ∷ ps) (lower, out, apart, hs) =
    let kept = rest_kept p.name p.by ps (Each-like (Apart p) (λ q. (eqb p.name q.name ≡ false) × (occurs p.name q.by ≡ false)) (λ q (a, b, c). (a, b)) ps apart) in
    let below = subst (λ es. Solves nat_lt es (Some (pair_replacement ps))) (sym kept) (form_solves ps hs) in
    let same : apply (pair_replacement ps) p.by ≡ p.by =
    apply-kept (pair_replacement ps) p.by (λ v inside. false_from_ne_true (replaces (pair_replacement ps) v) (λ k. both_ways (occurs v p.by) (not_inside p ps apart v k) inside)) in
    subst (λ t. Solves nat_lt (pair_equations (p ∷ ps)) (Some (record { var = p.name; by = t } ∷ pair_replacement ps))) same (Solves.replaced (pair_work p lower out) below)

-- names that ascend are all higher than the first
all_higher : (n : ℕ) (p : NamedPair) (ps : List NamedPair) → n < p.name → ascends name_before (p ∷ ps) ≡ true → Each (λ q. n < q.name) (p ∷ ps)
all_higher n p [] l h = (l, tt)
all_higher n p (q ∷ ps) l h =
    let (first, rest) = and_parts (name_before p q) (ascends name_before (q ∷ ps)) h in
    (l, all_higher n q ps (trans n p.name q.name l (ltb-true p.name q.name first)) rest)
  where
    trans : (a b c : ℕ) → a < b → b < c → a < c
    trans a b c l m = omega arith

later_higher : (p : NamedPair) (ps : List NamedPair) → ascends name_before (p ∷ ps) ≡ true → Each (λ q. p.name < q.name) ps
later_higher p [] h = tt
later_higher p (q ∷ ps) h =
    let (first, rest) = and_parts (name_before p q) (ascends name_before (q ∷ ps)) h in all_higher p.name q ps (ltb-true p.name q.name first) rest

ascends_on : (p : NamedPair) (ps : List NamedPair) → ascends name_before (p ∷ ps) ≡ true → ascends name_before ps ≡ true
ascends_on p [] h = refl
ascends_on p (q ∷ ps) h = (and_parts (name_before p q) (ascends name_before (q ∷ ps)) h).1

abbrev Out : NamedPair → NamedPair → Type 0
Out p q = occurs p.name q.by ≡ false

formed_from : (ps : List NamedPair) → Each (λ p. replaces_lower p.name p.by ≡ true) ps → Each (λ p. Each (Out p) ps) ps → ascends name_before ps ≡ true → Formed ps
formed_from [] h k a = tt
formed_from (p ∷ ps) (lower, hs) ((out, outs), ks) a =
    (lower, out, apart, formed_from ps hs (Each-like (λ q. Out q p × Each (Out q) ps) (λ q. Each (Out q) ps) (λ q (_, k). k) ps ks) (ascends_on p ps a))
  where
    differs : (m n : ℕ) → m < n → eqb m n ≡ false
    differs m n l = ne_eqb m n (λ e. omega arith)

    apart : Each (Apart p) ps
    apart =
        Each-like (λ q. (p.name < q.name) × (Out p q × (Out q p × Each (Out q) ps))) (Apart p) (λ q (l, (o, (back, _))). (differs p.name q.name l, o, back)) ps
        (Each-both (λ q. p.name < q.name) (λ q. Out p q × (Out q p × Each (Out q) ps)) ps (later_higher p ps a)
        (Each-both (Out p) (λ q. Out q p × Each (Out q) ps) ps outs ks))

pub form_is_solved : FormIsSolved
form_is_solved n ps h =
    let (rest, ascending) = and_parts (is_filled ps && list_all (pair_in_form n) ps && list_all (is_replaced ps) ps) (ascends name_before ps) h in
    let (first, replaced) = and_parts (is_filled ps && list_all (pair_in_form n) ps) (list_all (is_replaced ps) ps) rest in
    let (_, pairs) = and_parts (is_filled ps) (list_all (pair_in_form n) ps) first in
    let lower = Each-like (λ p. pair_in_form n p ≡ true) (λ p. replaces_lower p.name p.by ≡ true)
    (λ p k. (and_parts (nat_lt p.name n && all_below n p.by) (replaces_lower p.name p.by) k).1) ps (Each-from_list_all (pair_in_form n) ps pairs) in
    let outs = Each-like (λ p. is_replaced ps p ≡ true) (λ p. Each (Out p) ps)
    (λ p k. Each-like (λ r. not (occurs p.name r.by) ≡ true) (Out p) (λ r. not-true (occurs p.name r.by)) ps (Each-from_list_all (λ r. not (occurs p.name r.by)) ps k))
    ps (Each-from_list_all (is_replaced ps) ps replaced) in
    Solves-one_answer nat_lt (pair_equations ps) (solve_by nat_lt (pair_equations ps)) (Some (pair_replacement ps))
    (solve_by-Solves nat_lt (pair_equations ps)) (form_solves ps (formed_from ps lower outs ascending))
