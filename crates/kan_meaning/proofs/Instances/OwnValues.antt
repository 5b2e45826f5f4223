-- Values of their own for variables: symbols, numbers or strings that stand in no term so far, from which the variables are read back.
use Rattle.std.proofs.Common.{◌≡◌, ℕ, zero, suc, ◌+◌, ◌-◌, ◌<◌, ◌≤◌, max, Bool, true, false, nat_lt, ℤ, pos, negsuc, List, [], ◌∷◌, ◌++◌, length, sym, ap, ap₂, refl, arith, ◌∙◌, if◌then◌else◌}
use Rattle.std.proofs.lemmas.Bool.{ltb-true, ltb-false, ne_eqb}
use Rattle.std.proofs.lemmas.List.{length_push}
use Rattle.std.proofs.lemmas.Option.{unwrap_or-slice_get}
use Rattle.std.proofs.Math.Seq.{get_or-append_seam}
use Rattle.kan_terms.specs.Tree.{Tree, Tm, Gd, fill, has_symbol}
use Rattle.kan_terms.specs.Valuations.{value_at}
use Rattle.kan_terms.proofs.ValuationLaws.{value_at-append}
use Rattle.kan_model.specs.declared.prims.Kind.{Kind}
use Rattle.kan_model.specs.declared.prims.Kind.TheVariants.{Symbol, Number, Text}

-- the symbol, number or string of a number
abbrev pub own_of : ℕ → Kind → Gd
own_of m Symbol = Tree.sym m
own_of m Number = Tree.num (pos m)
own_of m Text = Tree.str m

-- a value of its own for each variable, from a number on
abbrev pub own : ℕ → (ℕ → Kind) → ℕ → Gd
own n kinds v = own_of (n + v) (kinds v)

-- a number above those of a term's symbols, numbers and strings
abbrev pub above_number : ℤ → ℕ
above_number (pos m) = 1 + m
above_number (negsuc m) = 0

abbrev pub above_atoms : {V : Type 0} → Tree V → ℕ
above_atoms (Tree.leaf v) = 0
above_atoms (Tree.sym s) = 1 + s
above_atoms (Tree.str s) = 1 + s
above_atoms (Tree.num m) = above_number m
above_atoms (Tree.truth b) = 0
above_atoms Tree.nil = 0
above_atoms (Tree.pair a b) = max (above_atoms a) (above_atoms b)

-- the variable of a number from n on, and the atom itself of one below
abbrev back : ℕ → ℕ → Tm → Tm
back n m atom = if nat_lt m n then atom else Tree.leaf (m - n)

abbrev number_back : ℕ → ℤ → Tm
number_back n (pos m) = back n m (Tree.num (pos m))
number_back n (negsuc m) = Tree.num (negsuc m)

-- the term that was filled with values of their own
abbrev read_back : ℕ → Gd → Tm
read_back n (Tree.leaf none) = absurd none
read_back n (Tree.sym s) = back n s (Tree.sym s)
read_back n (Tree.str s) = back n s (Tree.str s)
read_back n (Tree.num m) = number_back n m
read_back n (Tree.truth b) = Tree.truth b
read_back n Tree.nil = Tree.nil
read_back n (Tree.pair a b) = Tree.pair (read_back n a) (read_back n b)

back_own : (n v : ℕ) (atom : Tm) → back n (n + v) atom ≡ Tree.leaf v
back_own n v atom = by (nat_lt (n + v) n) refl
  where
    by : (c : Bool) → nat_lt (n + v) n ≡ c → (if c then atom else Tree.leaf ((n + v) - n)) ≡ Tree.leaf v
    by true h = absurd (omega (arith, ltb-true (n + v) n h))
    by false h = ap Tree.leaf (omega arith)

back_low : (n m : ℕ) (atom : Tm) → 1 + m ≤ n → back n m atom ≡ atom
back_low n m atom low = by (nat_lt m n) refl
  where
    by : (c : Bool) → nat_lt m n ≡ c → (if c then atom else Tree.leaf (m - n)) ≡ atom
    by true h = refl
    by false h = absurd (omega (arith, low, ltb-false m n h))

variable_back : (n v : ℕ) (kind : Kind) → read_back n (own_of (n + v) kind) ≡ Tree.leaf v
variable_back n v Symbol = back_own n v (Tree.sym (n + v))
variable_back n v Number = back_own n v (Tree.num (pos (n + v)))
variable_back n v Text = back_own n v (Tree.str (n + v))

number_low : (n : ℕ) (m : ℤ) → above_number m ≤ n → number_back n m ≡ Tree.num m
number_low n (pos m) low = back_low n m (Tree.num (pos m)) low
number_low n (negsuc m) low = refl

read_own : (n : ℕ) (kinds : ℕ → Kind) (t : Tm) → above_atoms t ≤ n → read_back n (fill (own n kinds) t) ≡ t
read_own n kinds (Tree.leaf v) low = variable_back n v (kinds v)
read_own n kinds (Tree.sym s) low = back_low n s (Tree.sym s) low
read_own n kinds (Tree.str s) low = back_low n s (Tree.str s) low
read_own n kinds (Tree.num m) low = number_low n m low
read_own n kinds (Tree.truth b) low = refl
read_own n kinds Tree.nil low = refl
read_own n kinds (Tree.pair a b) low = ap₂ Tree.pair (read_own n kinds a (omega (arith, low))) (read_own n kinds b (omega (arith, low)))

-- terms that are the same with values of their own for variables are the same
pub separated : (n : ℕ) (kinds : ℕ → Kind) (a b : Tm) → above_atoms a ≤ n → above_atoms b ≤ n → fill (own n kinds) a ≡ fill (own n kinds) b → a ≡ b
separated n kinds a b low also same = sym (read_own n kinds a low) ∙ ap (read_back n) same ∙ read_own n kinds b also

-- no tag below stands in them
pub own_apart : (tag m : ℕ) (kind : Kind) → tag < m → has_symbol tag (own_of m kind) ≡ false
own_apart tag m Symbol low = ne_eqb tag m (λ same. absurd (omega (arith, low, same)))
own_apart tag m Number low = refl
own_apart tag m Text low = refl

-- the valuation of the first variables by a function
abbrev pub first_values : (ℕ → Gd) → ℕ → List Gd
first_values f zero = []
first_values f (suc n) = first_values f n ++ f n ∷ []

pub first-length : (f : ℕ → Gd) (n : ℕ) → length (first_values f n) ≡ n
first-length f zero = refl
first-length f (suc n) = omega (arith, length_push (first_values f n) (f n), first-length f n)

last_value : (us : List Gd) (g : Gd) → value_at (us ++ g ∷ []) (length us) ≡ g
last_value us g = unwrap_or-slice_get (us ++ g ∷ []) (length us) Tree.nil ∙ get_or-append_seam us g [] Tree.nil

pub first_at : (f : ℕ → Gd) (n x : ℕ) → x < n → value_at (first_values f n) x ≡ f x
first_at f zero x low = absurd (omega (arith, low))
first_at f (suc n) x low = by (nat_lt x n) refl (first_at f n x)
  where
    by : (c : Bool) → nat_lt x n ≡ c → (x < n → value_at (first_values f n) x ≡ f x) → value_at (first_values f n ++ f n ∷ []) x ≡ f x
    by true h before =
        let below : x < n = ltb-true x n h in
        value_at-append (first_values f n) (f n ∷ []) x (omega (arith, below, first-length f n)) ∙ before below
    by false h before =
        let here : x ≡ n = omega (arith, low, ltb-false x n h) in
        ap (value_at (first_values f n ++ f n ∷ [])) (here ∙ sym (first-length f n)) ∙ last_value (first_values f n) (f n) ∙ ap f (sym here)
