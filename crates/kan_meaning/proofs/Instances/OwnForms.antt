-- A form that mentions an unnamed variable doesn't hold where unnamed variables have values of their own.
use Rattle.std.proofs.Common.{◌≡◌, ℕ, zero, suc, ◌+◌, ◌<◌, ◌≤◌, max, Bool, true, false, ◌&&◌, eqb, List, [], ◌∷◌, length, refl, sym, ap, ◌∙◌, arith, if◌then◌else◌}
use Rattle.std.specs.List.{list_all}
use Rattle.std.proofs.lemmas.Bool.{and_from, eq-eqb}
use Rattle.std.proofs.lemmas.List.Folds.{list_all-append}
use Rattle.kan_terms.specs.Tree.{Tree, Tm, Gd, fill, leaves}
use Rattle.kan_terms.specs.Valuations.{value_at}
use Rattle.kan_model.specs.Answers.Answer.{rank, all_named}
use Rattle.kan_model.specs.Answers.Order.{place_of, stands_in}
use Rattle.kan_model.specs.Stores.Solve.{Replaced, Replacement, image}
use Rattle.kan_model.specs.Stores.Unifiers.{Factors}
use Rattle.kan_model.specs.declared.prims.Kind.{Kind}
use Rattle.kan_model.specs.declared.prims.Kind.TheVariants.{Symbol, Number, Text}
use Rattle.kan_model.proofs.Answering.NameLaws.{place_below}
use Rattle.kan_model.proofs.Answering.SolvedForms.{Rises, Rising, Once}
use Rattle.kan_model.proofs.ListLaws.{Each-like, Each-both}
use Rattle.kan_model.specs.Each.{Each}
use Rattle.kan_meaning.proofs.Instances.NamedValues.{PairHolds, pair_named}
use Rattle.kan_meaning.proofs.Instances.OwnValues.{own_of, own, above_atoms}

-- where each variable is replaced once, its image is the term that replaces it
images_are : (g : Replacement) → Once g → Each (λ p. image g p.var ≡ p.by) g
images_are [] once = tt
images_are (p ∷ g) (first, rest) = (
  rw (eq-eqb p.var p.var refl) refl,
  Each-like (λ q. (eqb p.var q.var ≡ false) × (image g q.var ≡ q.by)) (λ q. image (p ∷ g) q.var ≡ q.by) (λ q (other, h). rw other h) g
      (Each-both (λ q. eqb p.var q.var ≡ false) (λ q. image g q.var ≡ q.by) g first (images_are g rest)),
)

-- so all its pairs hold of what factors through it
pub factors_hold : (f : ℕ → Gd) (g : Replacement) → Once g → Factors f g → Each (PairHolds f) g
factors_hold f g once factors = Each-like (λ p. image g p.var ≡ p.by) (PairHolds f) (λ p e. factors p.var ∙ ap (fill f) e) g (images_are g once)

-- a number above the atoms of values, and of the terms of a form
abbrev pub above_values : List Gd → ℕ
above_values [] = 0
above_values (w ∷ ws) = max (above_atoms w) (above_values ws)

pub value-above : (ws : List Gd) (i : ℕ) → above_atoms (value_at ws i) ≤ above_values ws
value-above [] i = omega arith
value-above (w ∷ ws) zero = omega arith
value-above (w ∷ ws) (suc i) = omega (arith, value-above ws i)

abbrev pub above_terms : Replacement → ℕ
above_terms [] = 0
above_terms (p ∷ g) = max (above_atoms p.by) (above_terms g)

own-above : (m : ℕ) (kind : Kind) → above_atoms (own_of m kind) ≡ 1 + m
own-above m Symbol = refl
own-above m Number = refl
own-above m Text = refl

own-no_pair : (m : ℕ) (kind : Kind) (a b : Gd) → own_of m kind ≡ Tree.pair a b → ⊥
own-no_pair m Symbol a b e = cc
own-no_pair m Number a b e = cc
own-no_pair m Text a b e = cc

-- the named variables' values, and a value of its own for each other variable
abbrev pub free_values : List ℕ → List Gd → ℕ → (ℕ → Kind) → ℕ → Gd
free_values vs ws n kinds v = if stands_in vs v then value_at ws (place_of vs v) else own n kinds v

module _ (vs : List ℕ) (ws : List Gd) (n : ℕ) (kinds : ℕ → Kind) where
  abbrev free : ℕ → Gd
  free = free_values vs ws n kinds

  pub named-free : (v : ℕ) → stands_in vs v ≡ true → free v ≡ value_at ws (place_of vs v)
  named-free v h = rw h refl

  pub own-free : (v : ℕ) → stands_in vs v ≡ false → free v ≡ own n kinds v
  own-free v h = rw h refl

  module _ (low : above_values ws ≤ n) where
    -- a term with a value of low atoms alone is over named variables
    low_named : (t : Tm) → above_atoms (fill free t) ≤ n → list_all (stands_in vs) (leaves t) ≡ true
    low_named (Tree.leaf v) h = by (stands_in vs v) refl
      where
        by : (c : Bool) → stands_in vs v ≡ c → (c && true) ≡ true
        by true e = refl
        by false e = absurd (omega (arith, h, ap above_atoms (own-free v e), own-above (n + v) (kinds v)))
    low_named (Tree.sym s) h = refl
    low_named (Tree.str s) h = refl
    low_named (Tree.num m) h = refl
    low_named (Tree.truth b) h = refl
    low_named Tree.nil h = refl
    low_named (Tree.pair a b) h =
        list_all-append (stands_in vs) (leaves a) (leaves b)
        ∙ and_from (list_all (stands_in vs) (leaves a)) (list_all (stands_in vs) (leaves b)) (low_named a (omega (arith, h))) (low_named b (omega (arith, h)))

    -- an unnamed variable has the value of no term of low atoms that may replace it
    unnamed_apart : (x : ℕ) (t : Tm) → stands_in vs x ≡ false → Rises (rank vs) x t → above_atoms t ≤ n → free x ≡ fill free t → ⊥
    unnamed_apart x (Tree.leaf z) out rises below same = by (stands_in vs z) refl
      where
        higher : rank vs x < rank vs z
        higher = rises z refl

        rank_is : rank vs x ≡ length vs + x
        rank_is = rw out refl

        by : (c : Bool) → stands_in vs z ≡ c → ⊥
        by true e =
            let place : rank vs z ≡ place_of vs z = rw e refl in
            omega (arith, higher, rank_is, place, place_below vs z e)
        by false e =
            let place : rank vs z ≡ length vs + z = rw e refl in
            omega (arith, higher, rank_is, place, ap above_atoms (own-free x out), own-above (n + x) (kinds x), ap above_atoms (own-free z e), own-above (n + z) (kinds z), ap above_atoms same)
    unnamed_apart x (Tree.sym s) out rises below same = omega (arith, below, ap above_atoms same, ap above_atoms (own-free x out), own-above (n + x) (kinds x))
    unnamed_apart x (Tree.str s) out rises below same = omega (arith, below, ap above_atoms same, ap above_atoms (own-free x out), own-above (n + x) (kinds x))
    unnamed_apart x (Tree.num m) out rises below same = omega (arith, below, ap above_atoms same, ap above_atoms (own-free x out), own-above (n + x) (kinds x))
    unnamed_apart x (Tree.truth b) out rises below same = omega (arith, below, ap above_atoms same, ap above_atoms (own-free x out), own-above (n + x) (kinds x))
    unnamed_apart x Tree.nil out rises below same = omega (arith, below, ap above_atoms same, ap above_atoms (own-free x out), own-above (n + x) (kinds x))
    unnamed_apart x (Tree.pair a b) out rises below same = own-no_pair (n + x) (kinds x) (fill free a) (fill free b) (sym (own-free x out) ∙ same)

    holds_named : (p : Replaced) → PairHolds free p → Rises (rank vs) p.var p.by → above_atoms p.by ≤ n → pair_named vs p ≡ true
    holds_named p holds rises below = by (stands_in vs p.var) refl
      where
        by : (c : Bool) → stands_in vs p.var ≡ c → pair_named vs p ≡ true
        by true e =
            and_from (stands_in vs p.var) (list_all (stands_in vs) (leaves p.by)) e
            (low_named p.by (omega (arith, low, ap above_atoms holds, ap above_atoms (named-free p.var e), value-above ws (place_of vs p.var))))
        by false e = absurd (unnamed_apart p.var p.by e rises below holds)

    -- a form whose pairs hold is over named variables
    pub holding_named : (g : Replacement) → Each (PairHolds free) g → Rising (rank vs) g → above_terms g ≤ n → all_named vs g ≡ true
    holding_named [] holds rising below = refl
    holding_named (p ∷ g) (h, hs) (r, rs) below =
        and_from (pair_named vs p) (all_named vs g) (holds_named p h r (omega (arith, below))) (holding_named g hs rs (omega (arith, below)))
