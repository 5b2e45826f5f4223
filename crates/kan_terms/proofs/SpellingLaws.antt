-- The laws of spelling: it is one to one, and whether marks spell trees is found from left to right.
use Rattle.std.specs.Prelude.{◌≡◌, ℕ, suc, zero, ◌+◌, ◌-◌, ◌<◌, ◌≤◌, nat_eq, Bool, true, false, List, [], ◌∷◌, ◌++◌, length, refl, drop}
use Rattle.std.specs.Bool.{Decides}
use Rattle.std.proofs.Common.{sym, ◌∙◌, ap, arith, append_assoc, get_or, add-one}
use Rattle.std.proofs.lemmas.Bool.{ne_eqb}
use Rattle.std.proofs.Math.Seq.{drop-cons}
use Rattle.std.proofs.lemmas.List.{append-nil, length-append}
use Rattle.kan_terms.specs.Tree.{Tree, Gd, size, join_two}
use Rattle.kan_terms.specs.Spelling.{spelling, SpellsTree}
use Rattle.kan_terms.specs.Reading.{trees, tree_of, tree_of-spelling}
use Rattle.kan_terms.specs.declared.marks.Mark.{Mark}
use Rattle.kan_terms.specs.declared.marks.Mark.TheVariants.{Pair, Sym, Str, Num, Truth, Nil}

-- terms with the same marks are the same
pub spelling-same : (s t : Gd) → spelling s ≡ spelling t → s ≡ t
spelling-same s t e = sym (tree_of-spelling s) ∙ ap tree_of e ∙ tree_of-spelling t

-- marks that spell a tree spell the one that is read from them
pub spelling-tree_of : (marks : List Mark) → SpellsTree marks → spelling (tree_of marks) ≡ marks
spelling-tree_of marks spells =
    ap (λ l. spelling (tree_of l)) (sym spells.1) ∙ ap spelling (tree_of-spelling spells.0) ∙ spells.1

-- a term has as many marks as nodes
pub length-spelling : (t : Gd) → length (spelling t) ≡ size t
length-spelling (Tree.leaf none) = absurd none
length-spelling (Tree.sym s) = refl
length-spelling (Tree.str s) = refl
length-spelling (Tree.num n) = refl
length-spelling (Tree.truth b) = refl
length-spelling Tree.nil = refl
length-spelling (Tree.pair a b) = omega (arith, length-append (spelling a) (spelling b), length-spelling a, length-spelling b)

-- whether marks spell so many trees and no more
abbrev pub spells_many : ℕ → List Mark → Bool
spells_many zero [] = true
spells_many (suc n) [] = false
spells_many zero (mark ∷ more) = false
spells_many (suc n) (Pair ∷ more) = spells_many (suc (suc n)) more
spells_many (suc n) (Sym s ∷ more) = spells_many n more
spells_many (suc n) (Str s ∷ more) = spells_many n more
spells_many (suc n) (Num i ∷ more) = spells_many n more
spells_many (suc n) (Truth b ∷ more) = spells_many n more
spells_many (suc n) (Nil ∷ more) = spells_many n more

-- after the marks of a tree one tree less is wanted
spells_many-spelling : (t : Gd) (n : ℕ) (more : List Mark) → spells_many (suc n) (spelling t ++ more) ≡ spells_many n more
spells_many-spelling (Tree.leaf none) n more = absurd none
spells_many-spelling (Tree.sym s) n more = refl
spells_many-spelling (Tree.str s) n more = refl
spells_many-spelling (Tree.num i) n more = refl
spells_many-spelling (Tree.truth b) n more = refl
spells_many-spelling Tree.nil n more = refl
spells_many-spelling (Tree.pair a b) n more =
    ap (spells_many (suc (suc n))) (append_assoc (spelling a) (spelling b) more)
    ∙ spells_many-spelling a (suc n) (spelling b ++ more)
    ∙ spells_many-spelling b n more

-- the marks of trees, one after another
abbrev spellings : List Gd → List Mark
spellings [] = []
spellings (t ∷ more) = spelling t ++ spellings more

-- joining the first two trees puts the mark of a pair before their marks
joined-two : (ts : List Gd) (n : ℕ) → length ts ≡ suc (suc n) → (length (join_two ts) ≡ suc n) × (spellings (join_two ts) ≡ Pair ∷ spellings ts)
joined-two [] n e = absurd (omega arith)
joined-two (a ∷ []) n e = absurd (omega arith)
joined-two (a ∷ b ∷ more) n e = (omega arith, ap (λ l. Pair ∷ l) (append_assoc (spelling a) (spelling b) (spellings more)))

-- marks that pass the test spell just the trees that are read from them
trees-spells_many : (n : ℕ) (marks : List Mark) → spells_many n marks ≡ true → (length (trees marks) ≡ n) × (spellings (trees marks) ≡ marks)
trees-spells_many zero [] e = (refl, refl)
trees-spells_many (suc n) [] e = cc
trees-spells_many zero (mark ∷ more) e = cc
trees-spells_many (suc n) (Pair ∷ more) e =
    let rest = trees-spells_many (suc (suc n)) more e in
    let both = joined-two (trees more) n rest.0 in
    (both.0, both.1 ∙ ap (λ l. Pair ∷ l) rest.1)
trees-spells_many (suc n) (Sym s ∷ more) e = let rest = trees-spells_many n more e in (ap (λ k. suc k) rest.0, ap (λ l. Sym s ∷ l) rest.1)
trees-spells_many (suc n) (Str s ∷ more) e = let rest = trees-spells_many n more e in (ap (λ k. suc k) rest.0, ap (λ l. Str s ∷ l) rest.1)
trees-spells_many (suc n) (Num i ∷ more) e = let rest = trees-spells_many n more e in (ap (λ k. suc k) rest.0, ap (λ l. Num i ∷ l) rest.1)
trees-spells_many (suc n) (Truth b ∷ more) e = let rest = trees-spells_many n more e in (ap (λ k. suc k) rest.0, ap (λ l. Truth b ∷ l) rest.1)
trees-spells_many (suc n) (Nil ∷ more) e = let rest = trees-spells_many n more e in (ap (λ k. suc k) rest.0, ap (λ l. Nil ∷ l) rest.1)

one-tree : (ts : List Gd) (marks : List Mark) → length ts ≡ 1 → spellings ts ≡ marks → SpellsTree marks
one-tree [] marks one e = absurd (omega arith)
one-tree (t ∷ []) marks one e = (t, sym (append-nil (spelling t)) ∙ e)
one-tree (t ∷ u ∷ more) marks one e = absurd (omega arith)

-- marks spell one tree exactly where the test says so
pub Decides-spells_many : (marks : List Mark) → Decides (spells_many 1 marks) (SpellsTree marks)
Decides-spells_many marks = (
  (λ e. let read = trees-spells_many 1 marks e in one-tree (trees marks) marks read.0 read.1),
  (λ spells. ap (spells_many 1) (sym spells.1 ∙ sym (append-nil (spelling spells.0))) ∙ spells_many-spelling spells.0 0 []),
)

-- a mark that is no pair
abbrev pub is_pair : Mark → Bool
is_pair Pair = true
is_pair (Sym s) = false
is_pair (Str s) = false
is_pair (Num n) = false
is_pair (Truth b) = false
is_pair Nil = false

-- after a pair's mark one tree more is wanted, after any other one less
wanted-pair : (n : ℕ) (mark : Mark) (more : List Mark) → is_pair mark ≡ true → spells_many (suc n) (mark ∷ more) ≡ spells_many (suc (suc n)) more
wanted-pair n Pair more e = refl
wanted-pair n (Sym s) more e = cc
wanted-pair n (Str s) more e = cc
wanted-pair n (Num i) more e = cc
wanted-pair n (Truth b) more e = cc
wanted-pair n Nil more e = cc

wanted-other : (n : ℕ) (mark : Mark) (more : List Mark) → is_pair mark ≡ false → spells_many (suc n) (mark ∷ more) ≡ spells_many n more
wanted-other n Pair more e = cc
wanted-other n (Sym s) more e = refl
wanted-other n (Str s) more e = refl
wanted-other n (Num i) more e = refl
wanted-other n (Truth b) more e = refl
wanted-other n Nil more e = refl

-- the step of the loop at a pair
pub left-pair : (wanted i : ℕ) (marks : List Mark) (d : Mark) → 1 ≤ wanted → i < length marks → is_pair (get_or marks i d) ≡ true
    → spells_many (wanted + 1) (drop (i + 1) marks) ≡ spells_many wanted (drop i marks)
left-pair zero i marks d some within e = absurd (omega arith)
left-pair (suc n) i marks d some within e =
    rw (add-one (suc n), add-one i, drop-cons marks i d within) (sym (wanted-pair n (get_or marks i d) (drop (suc i) marks) e))

-- the step of the loop at any other mark
pub left-other : (wanted i : ℕ) (marks : List Mark) (d : Mark) → 1 ≤ wanted → i < length marks → is_pair (get_or marks i d) ≡ false
    → spells_many (wanted - 1) (drop (i + 1) marks) ≡ spells_many wanted (drop i marks)
left-other zero i marks d some within e = absurd (omega arith)
left-other (suc n) i marks d some within e =
    let less : suc n - 1 ≡ n = omega arith in
    rw (less, add-one i, drop-cons marks i d within) (sym (wanted-other n (get_or marks i d) (drop (suc i) marks) e))

-- where no tree is wanted and marks are left, they spell no tree
pub none-wanted : (i : ℕ) (marks : List Mark) → i < length marks → spells_many 0 (drop i marks) ≡ spells_many 1 marks → spells_many 1 marks ≡ false
none-wanted zero [] within e = absurd (omega arith)
none-wanted zero (mark ∷ more) within e = sym e
none-wanted (suc i) [] within e = absurd (omega arith)
none-wanted (suc i) (mark ∷ more) within e = sym e ∙ later i more (omega arith)
  where
    later : (i : ℕ) (more : List Mark) → i < length more → spells_many 0 (drop i more) ≡ false
    later i [] within = absurd (omega arith)
    later zero (mark ∷ more) within = refl
    later (suc i) (mark ∷ more) within = later i more (omega arith)

-- where no mark is left, the marks spell a tree exactly where no tree is wanted
pub none-left : (wanted : ℕ) → spells_many wanted [] ≡ nat_eq wanted 0
none-left zero = refl
none-left (suc n) = sym (ne_eqb (suc n) 0 (λ e. omega arith))
