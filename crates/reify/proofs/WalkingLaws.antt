-- What the letters of a walked term are, and of the terms that wait on a stack.
use Rattle.std.proofs.Common.{◌≡◌, ◌<◌, true, false, List, [], ◌∷◌, ◌++◌, length, refl, sym, ◌∙◌, ap, append_assoc, append-nil, arith}
use Rattle.std.specs.Borrow.{Bor}
use Rattle.kan_terms.specs.Tree.{Tree, Tm}
use Rattle.kan_terms.specs.Terms.{tree}
use Rattle.kan_terms.specs.Waiting.{waiting_trees, parts_of}
use Rattle.kan_terms.specs.declared.terms.Term.{Term}
use Rattle.kan_model.specs.Stores.Solve.{Replacement, apply, image}
use Rattle.kan_model.specs.Stores.Calls.{WalksTo, IsFoundFor}
use Rattle.kan_model.specs.Terms.Letters.{spelling, letter_of}
use Rattle.kan_model.specs.declared.letters.Letter.{Letter}
use Rattle.reify.specs.Walking.{waiting_under, spelled_under, is_pair}

-- a term put on top is spelled first
waiting_under-push : (s : Replacement) (ts : List (Bor Term)) (t : Bor Term) → waiting_under s (ts ++ t ∷ []) ≡ spelling (apply s (tree t.now)) ++ waiting_under s ts
waiting_under-push s [] t = sym (append-nil (spelling (apply s (tree t.now))))
waiting_under-push s (u ∷ ts) t = rw (waiting_under-push s ts t) (append_assoc (spelling (apply s (tree t.now))) (waiting_under s ts) (spelling (apply s (tree u.now))))

-- the letters of some terms under a replacement, one after the other
abbrev all_under : Replacement → List Tm → List Letter
all_under s [] = []
all_under s (t ∷ ts) = spelling (apply s t) ++ all_under s ts

all_under-last : (s : Replacement) (ts : List Tm) (t : Tm) → all_under s (ts ++ t ∷ []) ≡ all_under s ts ++ spelling (apply s t)
all_under-last s [] t = append-nil (spelling (apply s t))
all_under-last s (u ∷ ts) t = ap (λ l. spelling (apply s u) ++ l) (all_under-last s ts t) ∙ sym (append_assoc (spelling (apply s u)) (all_under s ts) (spelling (apply s t)))

waiting-all_under : (s : Replacement) (ts : List (Bor Term)) → waiting_under s ts ≡ all_under s (waiting_trees ts)
waiting-all_under s [] = refl
waiting-all_under s (t ∷ ts) = ap (λ l. l ++ spelling (apply s (tree t.now))) (waiting-all_under s ts) ∙ sym (all_under-last s (waiting_trees ts) (tree t.now))

-- the parts of a term put on the stack, and its own letter, spell the term
pub parts_spelled : (s : Replacement) (old new : List (Bor Term)) (t : Tm) → waiting_trees new ≡ parts_of t ++ waiting_trees old →
    letter_of t ∷ waiting_under s new ≡ spelled_under s t ++ waiting_under s old
parts_spelled s old new t wait =
    ap (λ l. letter_of t ∷ l) (waiting-all_under s new ∙ ap (all_under s) wait) ∙ by t ∙ ap (λ l. spelled_under s t ++ l) (sym (waiting-all_under s old))
  where
    by : (u : Tm) → letter_of u ∷ all_under s (parts_of u ++ waiting_trees old) ≡ spelled_under s u ++ all_under s (waiting_trees old)
    by (Tree.leaf v) = refl
    by (Tree.sym x) = refl
    by (Tree.str x) = refl
    by (Tree.num n) = refl
    by (Tree.truth b) = refl
    by Tree.nil = refl
    by (Tree.pair a b) = ap (λ l. letter_of (Tree.pair a b) ∷ l) (sym (append_assoc (spelling (apply s a)) (spelling (apply s b)) (all_under s (waiting_trees old))))

-- what was found for an image spells it
found_spells : (s : Replacement) (u w : Tm) → IsFoundFor s u w → spelled_under s w ≡ spelling u
found_spells s (Tree.leaf x) w found = ap (spelled_under s) found
found_spells s (Tree.sym x) w found = ap (spelled_under s) found
found_spells s (Tree.str x) w found = ap (spelled_under s) found
found_spells s (Tree.num n) w found = ap (spelled_under s) found
found_spells s (Tree.truth b) w found = ap (spelled_under s) found
found_spells s Tree.nil w found = ap (spelled_under s) found
found_spells s (Tree.pair a b) (Tree.pair c d) found = ap spelling found
found_spells s (Tree.pair a b) (Tree.leaf x) found = absurd found
found_spells s (Tree.pair a b) (Tree.sym x) found = absurd found
found_spells s (Tree.pair a b) (Tree.str x) found = absurd found
found_spells s (Tree.pair a b) (Tree.num x) found = absurd found
found_spells s (Tree.pair a b) (Tree.truth x) found = absurd found
found_spells s (Tree.pair a b) Tree.nil found = absurd found

-- what a term is walked to spells the term under the answer
walked_spells : (s : Replacement) (t w : Tm) → WalksTo s t w → spelled_under s w ≡ spelling (apply s t)
walked_spells s (Tree.leaf v) w found = found_spells s (image s v) w found
walked_spells s (Tree.sym x) w found = ap (spelled_under s) found
walked_spells s (Tree.str x) w found = ap (spelled_under s) found
walked_spells s (Tree.num n) w found = ap (spelled_under s) found
walked_spells s (Tree.truth b) w found = ap (spelled_under s) found
walked_spells s Tree.nil w found = ap (spelled_under s) found
walked_spells s (Tree.pair a b) w found = ap (spelled_under s) found

-- a walked term's letter written, and its parts put on the stack
pub walked_step : (s : Replacement) (letters longer : List Letter) (x : Letter) (old rest new : List (Bor Term)) (t : Bor Term) (w : Tm) (whole : List Letter) →
    old ≡ rest ++ t ∷ [] → WalksTo s (tree t.now) w → x ≡ letter_of w → longer ≡ letters ++ x ∷ [] →
    letter_of w ∷ waiting_under s new ≡ spelled_under s w ++ waiting_under s rest →
    letters ++ waiting_under s old ≡ whole → longer ++ waiting_under s new ≡ whole
walked_step s letters longer x old rest new t w whole split walks first grown parts kept =
    ap (λ l. l ++ waiting_under s new) grown ∙ append_assoc letters (x ∷ []) (waiting_under s new) ∙ ap (λ y. letters ++ (y ∷ waiting_under s new)) first
    ∙ ap (λ l. letters ++ l) (parts ∙ ap (λ l. l ++ waiting_under s rest) (walked_spells s (tree t.now) w walks) ∙ sym (waiting_under-push s rest t))
    ∙ ap (λ l. letters ++ waiting_under s l) (sym split) ∙ kept

-- then fewer letters wait
pub walked_fewer : (s : Replacement) (old rest new : List (Bor Term)) (t : Bor Term) (w : Tm) →
    old ≡ rest ++ t ∷ [] → WalksTo s (tree t.now) w → letter_of w ∷ waiting_under s new ≡ spelled_under s w ++ waiting_under s rest →
    length (waiting_under s new) < length (waiting_under s old)
walked_fewer s old rest new t w split walks parts =
    let same : length (letter_of w ∷ waiting_under s new) ≡ length (waiting_under s old) =
    ap length (parts ∙ ap (λ l. l ++ waiting_under s rest) (walked_spells s (tree t.now) w walks) ∙ sym (waiting_under-push s rest t) ∙ ap (waiting_under s) (sym split)) in
    omega (arith, same)

-- what was found for an image is the image, where it is no pair
found_alone : (s : Replacement) (u w : Tm) → is_pair w ≡ false → IsFoundFor s u w → w ≡ u
found_alone s (Tree.leaf x) w single found = found
found_alone s (Tree.sym x) w single found = found
found_alone s (Tree.str x) w single found = found
found_alone s (Tree.num n) w single found = found
found_alone s (Tree.truth b) w single found = found
found_alone s Tree.nil w single found = found
found_alone s (Tree.pair a b) (Tree.pair c d) single found = let none : true ≡ false = single in cc
found_alone s (Tree.pair a b) (Tree.leaf x) single found = absurd found
found_alone s (Tree.pair a b) (Tree.sym x) single found = absurd found
found_alone s (Tree.pair a b) (Tree.str x) single found = absurd found
found_alone s (Tree.pair a b) (Tree.num x) single found = absurd found
found_alone s (Tree.pair a b) (Tree.truth x) single found = absurd found
found_alone s (Tree.pair a b) Tree.nil single found = absurd found

-- no pair is found equal to a term of parts
no_pair : (a b w : Tm) → is_pair w ≡ false → w ≡ Tree.pair a b → ⊥
no_pair a b w single same = let none : true ≡ false = sym (ap is_pair same) ∙ single in cc

-- what a term is walked to, where it is no pair, is the term under the answer
pub walked_alone : (s : Replacement) (t w : Tm) → is_pair w ≡ false → WalksTo s t w → w ≡ apply s t
walked_alone s (Tree.leaf v) w single found = found_alone s (image s v) w single found
walked_alone s (Tree.sym x) w single found = found
walked_alone s (Tree.str x) w single found = found
walked_alone s (Tree.num n) w single found = found
walked_alone s (Tree.truth b) w single found = found
walked_alone s Tree.nil w single found = found
walked_alone s (Tree.pair a b) w single found = absurd (no_pair a b w single found)
