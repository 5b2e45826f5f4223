-- A solved form in the order of its variables is determined by what it makes of them.
use Rattle.std.proofs.Common.{◌≡◌, ◌⊎◌, ℕ, ◌<◌, ◌≤◌, Bool, true, false, ◌&&◌, not, eqb, nat_lt, List, [], ◌∷◌, map, Option, Some, None, option_map, inl, inr, sym, ap, subst, refl, arith, ◌∙◌, if◌then◌else◌}
use Rattle.std.specs.List.{list_all}
use Rattle.std.proofs.lemmas.Bool.{eq-eqb, eqb-true, eqb-false, ne_eqb, ltb-true, ltb-false, cases_order}
use Rattle.kan_terms.specs.Tree.{Tree, Tm, leaves}
use Rattle.kan_model.specs.Stores.Store.{Equation}
use Rattle.kan_model.specs.Answers.Order.{put_in_order, in_order, stands_in}
use Rattle.kan_model.specs.Stores.Solve.{Replaced, Replacement, image, Solves, solve_by}
use Rattle.kan_model.specs.Stores.Composition.{apply_sides}
use Rattle.kan_model.specs.Answers.Answer.{rank, ranks_lower, in_rank}
use Rattle.kan_model.proofs.ListLaws.{EachTwo, Each-like, Each-put, Each-in_order}
use Rattle.kan_model.specs.Each.{Each}
use Rattle.kan_model.proofs.Solving.SolveLaws.{solve_by-Solves}
use Rattle.kan_model.proofs.Answering.SolvedForms.{Rises, Rising, Once, Solves-once, rank-one}
use Rattle.store_laws.specs.SolvedForms.{RanksApart, SameImages, OneFormInRank, DifferenceInRank, NamedInRank}
use Rattle.store_laws.proofs.OneForm.{answer_rises, one_named_form}
use Rattle.store_laws.proofs.Differences.{same_difference}

-- another variable than those of the pairs
abbrev Other : Replaced → Replaced → Type 0
Other p q = eqb p.var q.var ≡ false

-- sorting keeps what stands for each variable
image_put : (le : Replaced → Replaced → Bool) (p : Replaced) (s : Replacement) → Each (Other p) s → (v : ℕ) → image (put_in_order le p s) v ≡ image (p ∷ s) v
image_put le p [] h v = refl
image_put le p (q ∷ s) (other, hs) v = by (le p q) (image_put le p s hs v)
  where
    swapped : (b c : Bool) → eqb p.var v ≡ b → eqb q.var v ≡ c → (t : Tm) → t ≡ (if b then p.by else image s v) → (if c then q.by else t) ≡ (if b then p.by else (if c then q.by else image s v))
    swapped true true e f t same = absurd (eqb-false p.var q.var other (eqb-true p.var v e ∙ sym (eqb-true q.var v f)))
    swapped true false e f t same = same
    swapped false true e f t same = refl
    swapped false false e f t same = same

    by : (c : Bool) → image (put_in_order le p s) v ≡ image (p ∷ s) v → image (if c then p ∷ q ∷ s else q ∷ put_in_order le p s) v ≡ image (p ∷ q ∷ s) v
    by true ih = refl
    by false ih = swapped (eqb p.var v) (eqb q.var v) refl refl (image (put_in_order le p s) v) ih

pub image-in_order : (le : Replaced → Replaced → Bool) (s : Replacement) → Once s → (v : ℕ) → image (in_order le s) v ≡ image s v
image-in_order le [] once v = refl
image-in_order le (p ∷ s) (first, rest) v =
    image_put le p (in_order le s) (Each-in_order (Other p) le s first) v ∙ ap (λ t. if eqb p.var v then p.by else t) (image-in_order le s rest v)

module _ (r : ℕ → ℕ) (one : RanksApart r) where
  abbrev Before : Replaced → Replaced → Type 0
  Before p q = r p.var < r q.var

  abbrev not_behind : Replaced → Replaced → Bool
  not_behind p q = not (nat_lt (r q.var) (r p.var))

  strict_put : (p : Replaced) (s : Replacement) → Each (Other p) s → EachTwo Before s → EachTwo Before (put_in_order not_behind p s)
  strict_put p [] h k = (tt, tt)
  strict_put p (q ∷ s) (other, hs) (k, ks) = by (nat_lt (r q.var) (r p.var)) refl (strict_put p s hs ks)
    where
      apart : r p.var ≡ r q.var → ⊥
      apart e = eqb-false p.var q.var other (one p.var q.var e)

      below : (a b : ℕ) → a ≤ b → (a ≡ b → ⊥) → a < b
      below a b l n = omega arith

      trans : (a b c : ℕ) → a < b → b < c → a < c
      trans a b c l m = omega arith

      by : (c : Bool) → nat_lt (r q.var) (r p.var) ≡ c → EachTwo Before (put_in_order not_behind p s) →
          EachTwo Before (if not c then p ∷ q ∷ s else q ∷ put_in_order not_behind p s)
      by true e ih = (Each-put (Before q) not_behind p s (ltb-true (r q.var) (r p.var) e) k, ih)
      by false e ih =
          let first = below (r p.var) (r q.var) (ltb-false (r q.var) (r p.var) e) apart in
          ((first, Each-like (Before q) (Before p) (λ z l. trans (r p.var) (r q.var) (r z.var) first l) s k), (k, ks))

  strict-in_order : (s : Replacement) → Once s → EachTwo Before (in_order not_behind s)
  strict-in_order [] once = tt
  strict-in_order (p ∷ s) (first, rest) = strict_put p (in_order not_behind s) (Each-in_order (Other p) not_behind s first) (strict-in_order s rest)

  -- a variable before all pairs stands for itself
  image_before : (v : ℕ) (s : Replacement) → Each (λ q. r v < r q.var) s → image s v ≡ Tree.leaf v
  image_before v [] h = refl
  image_before v (q ∷ s) (first, rest) = rw (ne_eqb q.var v (λ e. differs (r v) (r q.var) first (ap r (sym e)))) (image_before v s rest)
    where
      differs : (a b : ℕ) → a < b → a ≡ b → ⊥
      differs a b l e = omega arith

  image_first : (p : Replaced) (s : Replacement) → image (p ∷ s) p.var ≡ p.by
  image_first p s = rw (eq-eqb p.var p.var refl) refl

  not_itself : (p : Replaced) → Rises r p.var p.by → p.by ≡ Tree.leaf p.var → ⊥
  not_itself p rises e = itself (r p.var) (rises p.var e)
    where
      itself : (a : ℕ) → a < a → ⊥
      itself a l = omega arith

  -- the first pair isn't before all pairs of the other list
  not_before : (p : Replaced) (s q : Replacement) → Rises r p.var p.by → Each (λ z. r p.var < r z.var) q → image (p ∷ s) p.var ≡ image q p.var → ⊥
  not_before p s q rises h e = not_itself p rises (sym (image_first p s) ∙ e ∙ image_before p.var q h)

  pub one_list : (s q : Replacement) → EachTwo Before s → EachTwo Before q → Rising r s → Rising r q → ((v : ℕ) → image s v ≡ image q v) → s ≡ q
  one_list [] [] h k m n same = refl
  one_list [] (b ∷ q) h k m (n, ns) same = absurd (not_before b q [] n tt (sym (same b.var)))
  one_list (a ∷ s) [] h k (m, ms) n same = absurd (not_before a s [] m tt (same a.var))
  one_list (a ∷ s) (b ∷ q) (h, hs) (k, ks) (m, ms) (n, ns) same = by (cases_order (r a.var) (r b.var)) (one_list s q hs ks ms ns)
    where
      trans : (a b c : ℕ) → a < b → b < c → a < c
      trans a b c l m = omega arith

      by : (r a.var ≡ r b.var) ⊎ ((r a.var < r b.var) ⊎ (r b.var < r a.var)) → (((v : ℕ) → image s v ≡ image q v) → s ≡ q) → a ∷ s ≡ b ∷ q
      by (inr (inl l)) ih = absurd (not_before a s (b ∷ q) m (l, Each-like (Before b) (Before a) (λ z g. trans (r a.var) (r b.var) (r z.var) l g) q k) (same a.var))
      by (inr (inr l)) ih = absurd (not_before b q (a ∷ s) n (l, Each-like (Before a) (Before b) (λ z g. trans (r b.var) (r a.var) (r z.var) l g) s h) (sym (same b.var)))
      by (inl e) ih = λ i. record { var = vars i; by = terms i } ∷ ih rest i
        where
          vars : a.var ≡ b.var
          vars = one a.var b.var e

          terms : a.by ≡ b.by
          terms = sym (image_first a s) ∙ same a.var ∙ ap (image (b ∷ q)) vars ∙ image_first b q

          rest : (v : ℕ) → image s v ≡ image q v
          rest v = under (eqb a.var v) refl
            where
              under : (c : Bool) → eqb a.var v ≡ c → image s v ≡ image q v
              under true f =
                  let here : a.var ≡ v = eqb-true a.var v f in
                  subst (λ w. image s w ≡ image q w) here (image_before a.var s h ∙ sym (subst (λ w. image q w ≡ Tree.leaf w) (sym vars) (image_before b.var q k)))
              under false f =
                  let left_rest : image (a ∷ s) v ≡ image s v = (rw f refl) in
                  let right_rest : image (b ∷ q) v ≡ image q v = (rw (subst (λ w. eqb w v ≡ false) vars f) refl) in
                  sym left_rest ∙ same v ∙ right_rest

  -- answers that make the same of each variable are the same list when they are in order
  pub sorted_alike : (s q : Replacement) → Once s → Once q → Rising r s → Rising r q → ((v : ℕ) → image s v ≡ image q v) → in_order not_behind s ≡ in_order not_behind q
  sorted_alike s q once twice rises rises_too same =
      one_list (in_order not_behind s) (in_order not_behind q) (strict-in_order s once) (strict-in_order q twice)
      (Each-in_order (λ p. Rises r p.var p.by) not_behind s rises) (Each-in_order (λ p. Rises r p.var p.by) not_behind q rises_too)
      (λ v. image-in_order not_behind s once v ∙ same v ∙ sym (image-in_order not_behind q twice v))

-- an answer has each variable once
answer_once : (left : ℕ → ℕ → Bool) (es : List Equation) (s : Replacement) → solve_by left es ≡ Some s → Once s
answer_once left es s h = by (solve_by left es) (solve_by-Solves left es) h
  where
    by : (q : Option Replacement) → Solves left es q → q ≡ Some s → Once s
    by None d h = cc
    by (Some s') d h = let same : s' ≡ s = cc in subst Once same (Solves-once left es (Some s') d)

pub sorted_answers : (vs : List ℕ) (es fs : List Equation) → SameImages (solve_by (ranks_lower vs) es) (solve_by (ranks_lower vs) fs) →
    option_map (in_rank vs) (solve_by (ranks_lower vs) es) ≡ option_map (in_rank vs) (solve_by (ranks_lower vs) fs)
sorted_answers vs es fs = by (solve_by (ranks_lower vs) es) refl (solve_by (ranks_lower vs) fs) refl
  where
    by : (p : Option Replacement) → solve_by (ranks_lower vs) es ≡ p → (q : Option Replacement) → solve_by (ranks_lower vs) fs ≡ q →
        SameImages p q → option_map (in_rank vs) p ≡ option_map (in_rank vs) q
    by None h None k same = refl
    by None h (Some q) k same = absurd same
    by (Some s) h None k same = absurd same
    by (Some s) h (Some q) k same =
        ap Some (sorted_alike (rank vs) (rank-one vs) s q (answer_once (ranks_lower vs) es s h) (answer_once (ranks_lower vs) fs q k)
        (answer_rises (rank vs) es s (rank-one vs) h) (answer_rises (rank vs) fs q (rank-one vs) k) same)

pub one_form_in_rank : OneFormInRank
one_form_in_rank vs es fs same = sorted_answers vs es fs (one_named_form vs es fs same)

pub difference_in_rank : DifferenceInRank
difference_in_rank vs st s e pairs h says = one_form_in_rank vs (map (apply_sides s) pairs) (map (apply_sides s) (e ∷ [])) (same_difference st s e pairs h says)

-- sorting keeps what is tested of all
module _ {X : Type 0} (p : X → Bool) (le : X → X → Bool) where
  swap_and : (a b c : Bool) → (b && (a && c)) ≡ (a && (b && c))
  swap_and true b c = refl
  swap_and false true c = refl
  swap_and false false c = refl

  all_put : (x : X) (xs : List X) → list_all p (put_in_order le x xs) ≡ list_all p (x ∷ xs)
  all_put x [] = refl
  all_put x (y ∷ ys) = by (le x y) (all_put x ys)
    where
      by : (c : Bool) → list_all p (put_in_order le x ys) ≡ list_all p (x ∷ ys) → list_all p (if c then x ∷ y ∷ ys else y ∷ put_in_order le x ys) ≡ list_all p (x ∷ y ∷ ys)
      by true ih = refl
      by false ih = ap (λ b. p y && b) ih ∙ swap_and (p x) (p y) (list_all p ys)

  pub all-in_order : (xs : List X) → list_all p (in_order le xs) ≡ list_all p xs
  all-in_order [] = refl
  all-in_order (x ∷ xs) = all_put x (in_order le xs) ∙ ap (λ b. p x && b) (all-in_order xs)

pub named_in_rank : NamedInRank
named_in_rank vs s = all-in_order (λ p. stands_in vs p.var && list_all (stands_in vs) (leaves p.by)) (λ p q. not (ranks_lower vs q.var p.var)) s
