-- Letters of the terms that wait on a stack, and terms from their letters.
use Rattle.std.proofs.Common.{◌≡◌, ℕ, List, [], ◌∷◌, ◌++◌, length, ◌<◌, refl, sym, ◌∙◌, ap, ap₂, append_assoc, append-nil, Option, Some, None, is_some, IsSome, IfOk, Result, Ok, Err, subst, arith, Bool, true, false}
use Rattle.std.specs.Prelude.{eqb, ◌||◌, IsTrue}
use Rattle.std.specs.List.{list_any, flat_map}
use Rattle.std.specs.Option.{option_to_list}
use Rattle.std.proofs.lemmas.Bool.{true≢false}
use Rattle.std.proofs.lemmas.List.Folds.{list_any-append}
use Rattle.std.proofs.lemmas.Grind.{flat_map-append}
use Rattle.kan_terms.specs.Tree.{occurs, term_eq}
use Rattle.kan_terms.proofs.TreeLaws.{term_eq-true, eq-term_eq}
use Rattle.kan_model.specs.Stores.Solve.{Replacement, image, apply}
use Rattle.std.specs.Borrow.{Bor}
use Rattle.kan_terms.specs.Tree.{Tree, Tm}
use Rattle.kan_terms.specs.Terms.{tree}
use Rattle.kan_terms.specs.Waiting.{waiting_trees, parts_of}
use Rattle.kan_terms.specs.declared.terms.Term.{Term}
use Rattle.kan_model.specs.declared.letters.Letter.{Letter}
use Rattle.kan_model.specs.declared.letters.Letter.TheVariants.{Pair}
use Rattle.kan_model.specs.Terms.Letters.{letter_of, spelling, waiting_spelling, only_one, term_of, stack_terms, IsAtomOf, join_two, put_letter, put_letter_on, built_from, is_letter_of, splice}

-- a term put on top is spelled first
pub waiting-push : (ts : List (Bor Term)) (t : Bor Term) → waiting_spelling (ts ++ t ∷ []) ≡ spelling (tree t.now) ++ waiting_spelling ts
waiting-push [] t = sym (append-nil (spelling (tree t.now)))
waiting-push (u ∷ ts) t = rw (waiting-push ts t) (append_assoc (spelling (tree t.now)) (waiting_spelling ts) (spelling (tree u.now)))

-- a letter written, and the parts of its term put on the stack
pub written_step : (letters longer : List Letter) (x : Letter) (old rest new : List (Bor Term)) (t : Bor Term) (whole : List Letter) →
    x ≡ letter_of (tree t.now) → longer ≡ letters ++ x ∷ [] → old ≡ rest ++ t ∷ [] → letters ++ waiting_spelling old ≡ whole →
    letter_of (tree t.now) ∷ waiting_spelling new ≡ spelling (tree t.now) ++ waiting_spelling rest → longer ++ waiting_spelling new ≡ whole
written_step letters longer x old rest new t whole first grown split kept parts =
    ap (λ w. w ++ waiting_spelling new) grown ∙ append_assoc letters (x ∷ []) (waiting_spelling new) ∙ ap (λ y. letters ++ (y ∷ waiting_spelling new)) first
    ∙ ap (λ w. letters ++ w) (parts ∙ sym (waiting-push rest t)) ∙ ap (λ w. letters ++ waiting_spelling w) (sym split) ∙ kept

-- then fewer letters wait
pub fewer_wait : (old rest new : List (Bor Term)) (t : Bor Term) →
    old ≡ rest ++ t ∷ [] → letter_of (tree t.now) ∷ waiting_spelling new ≡ spelling (tree t.now) ++ waiting_spelling rest → length (waiting_spelling new) < length (waiting_spelling old)
fewer_wait old rest new t split parts =
    let same : length (letter_of (tree t.now) ∷ waiting_spelling new) ≡ length (waiting_spelling old) = ap length (parts ∙ sym (waiting-push rest t) ∙ ap waiting_spelling (sym split)) in
    omega (arith, same)

-- the letters of some terms, one after the other
abbrev spelled_all : List Tm → List Letter
spelled_all [] = []
spelled_all (t ∷ ts) = spelling t ++ spelled_all ts

spelled_all-last : (ts : List Tm) (t : Tm) → spelled_all (ts ++ t ∷ []) ≡ spelled_all ts ++ spelling t
spelled_all-last [] t = append-nil (spelling t)
spelled_all-last (u ∷ ts) t = ap (λ l. spelling u ++ l) (spelled_all-last ts t) ∙ sym (append_assoc (spelling u) (spelled_all ts) (spelling t))

waiting-spelled_all : (ts : List (Bor Term)) → waiting_spelling ts ≡ spelled_all (waiting_trees ts)
waiting-spelled_all [] = refl
waiting-spelled_all (t ∷ ts) = ap (λ l. l ++ spelling (tree t.now)) (waiting-spelled_all ts) ∙ sym (spelled_all-last (waiting_trees ts) (tree t.now))

-- the parts of a term put on the stack, and its own letter, spell the term
pub parts_spelled : (old new : List (Bor Term)) (t : Tm) → waiting_trees new ≡ parts_of t ++ waiting_trees old →
    letter_of t ∷ waiting_spelling new ≡ spelling t ++ waiting_spelling old
parts_spelled old new t wait =
    ap (λ l. letter_of t ∷ l) (waiting-spelled_all new ∙ ap spelled_all wait) ∙ by t ∙ ap (λ l. spelling t ++ l) (sym (waiting-spelled_all old))
  where
    by : (u : Tm) → letter_of u ∷ spelled_all (parts_of u ++ waiting_trees old) ≡ spelling u ++ spelled_all (waiting_trees old)
    by (Tree.leaf v) = refl
    by (Tree.sym s) = refl
    by (Tree.str s) = refl
    by (Tree.num n) = refl
    by (Tree.truth b) = refl
    by Tree.nil = refl
    by (Tree.pair a b) = ap (λ l. letter_of (Tree.pair a b) ∷ l) (sym (append_assoc (spelling a) (spelling b) (spelled_all (waiting_trees old))))

-- the top of a stack comes first
pub stack-push : (ts : List Term) (t : Term) → stack_terms (ts ++ t ∷ []) ≡ tree t ∷ stack_terms ts
stack-push [] t = refl
stack-push (u ∷ ts) t = rw (stack-push ts t) refl

-- letters in front of terms that may be missing
abbrev pub built_on : List Letter → Option (List Tm) → Option (List Tm)
built_on xs None = None
built_on xs (Some ts) = built_from xs ts

built_on-put : (x : Letter) (xs : List Letter) (r : Option (List Tm)) → put_letter_on x (built_on xs r) ≡ built_on (x ∷ xs) r
built_on-put x xs None = refl
built_on-put x xs (Some ts) = refl

-- the letters at the end go first
pub built_from-append : (xs ys : List Letter) (ts : List Tm) → built_from (xs ++ ys) ts ≡ built_on xs (built_from ys ts)
built_from-append [] ys ts = go (built_from ys ts)
  where
    go : (r : Option (List Tm)) → r ≡ built_on [] r
    go None = refl
    go (Some us) = refl
built_from-append (x ∷ xs) ys ts = ap (put_letter_on x) (built_from-append xs ys ts) ∙ built_on-put x xs (built_from ys ts)

-- the letters of a term build it
pub built_from-spelling : (t : Tm) (ts : List Tm) → built_from (spelling t) ts ≡ Some (t ∷ ts)
built_from-spelling (Tree.leaf v) ts = refl
built_from-spelling (Tree.sym s) ts = refl
built_from-spelling (Tree.str s) ts = refl
built_from-spelling (Tree.num n) ts = refl
built_from-spelling (Tree.truth b) ts = refl
built_from-spelling Tree.nil ts = refl
built_from-spelling (Tree.pair a b) ts =
    ap (put_letter_on Pair) (built_from-append (spelling a) (spelling b) ts ∙ ap (built_on (spelling a)) (built_from-spelling b ts) ∙ built_from-spelling a (b ∷ ts))

-- terms with the same letters are the same
pub spelling-same : (s t : Tm) → spelling s ≡ spelling t → s ≡ t
spelling-same s t e =
    let same : Some (s ∷ []) ≡ Some (t ∷ []) = sym (built_from-spelling s []) ∙ ap (λ xs. built_from xs []) e ∙ built_from-spelling t [] in cc

-- the last letter taken, and its term put on the stack
pub built_step : (letters rest : List Letter) (x : Letter) (old new : List Tm) (whole : Option (List Tm)) →
    letters ≡ rest ++ x ∷ [] → built_from letters old ≡ whole → put_letter x old ≡ Some new → built_from rest new ≡ whole
built_step letters rest x old new whole split kept put =
    sym (ap (built_on rest) put) ∙ sym (built_from-append rest (x ∷ []) old) ∙ ap (λ xs. built_from xs old) (sym split) ∙ kept

-- the last letter fits, where the letters spell one term
pub letter_fits : (letters rest whole : List Letter) (x : Letter) (old : List Tm) →
    letters ≡ rest ++ x ∷ [] → built_from letters old ≡ built_from whole [] → IsSome (term_of whole) → IsSome (put_letter x old)
letter_fits letters rest whole x old split kept spells = by (put_letter x old) refl
  where
    by : (r : Option (List Tm)) → put_letter x old ≡ r → IsSome r
    by None e =
        let none : built_from whole [] ≡ None = sym kept ∙ ap (λ xs. built_from xs old) split ∙ built_from-append rest (x ∷ []) old ∙ ap (built_on rest) e in
        subst IsSome (ap only_one none) spells
    by (Some ts) e = refl

-- the two terms on top made a pair
pub joins_top : (old mid low new : List Term) (a b t : Term) →
    old ≡ mid ++ a ∷ [] → mid ≡ low ++ b ∷ [] → new ≡ low ++ t ∷ [] → tree t ≡ Tree.pair (tree a) (tree b) →
    join_two (stack_terms old) ≡ Some (stack_terms new)
joins_top old mid low new a b t first second put pair = rw (first, stack-push, second, stack-push, put, stack-push, pair) refl

-- an atom put on the stack
pub puts_atom : (old new : List Term) (x : Letter) (t : Term) →
    new ≡ old ++ t ∷ [] → IsAtomOf x (Some (tree t)) → put_letter x (stack_terms old) ≡ Some (stack_terms new)
puts_atom old new x t put is_atom = rw (put, stack-push) (is_atom (stack_terms old))

-- the item that is taken off a list was its last one
pub last_off : {A : Type 0} (r : Option A) (x : A) (old new : List A) → r ≡ Some x → old ≡ new ++ option_to_list r → old ≡ new ++ x ∷ []
last_off r x old new e h = h ∙ ap (λ o. new ++ option_to_list o) e

pub last_is : (old rest : List Term) (t : Term) → old ≡ rest ++ t ∷ [] → IsSome (only_one (Some (stack_terms old))) → only_one (Some (stack_terms old)) ≡ Some (tree t)
last_is old rest t split one = by (stack_terms rest) (ap only_one (ap Some (ap stack_terms split ∙ stack-push rest t)))
  where
    by : (ts : List Tm) → only_one (Some (stack_terms old)) ≡ only_one (Some (tree t ∷ ts)) → only_one (Some (stack_terms old)) ≡ Some (tree t)
    by [] e = e
    by (u ∷ ts) e = absurd (none (subst IsSome e one))
      where
        none : IsSome {T = Tm} None → ⊥
        none one = true≢false (sym one)

pub built_last : (letters whole : List Letter) (old rest : List Term) (t : Term) →
    letters ≡ [] → built_from letters (stack_terms old) ≡ built_from whole [] → IsSome (term_of whole) → old ≡ rest ++ t ∷ [] → term_of whole ≡ Some (tree t)
built_last letters whole old rest t none kept spells split =
    let same : term_of whole ≡ only_one (Some (stack_terms old)) = ap only_one (sym kept ∙ ap (λ xs. built_from xs (stack_terms old)) none) in
    same ∙ last_is old rest t split (subst IsSome same spells)

-- two tests that say the same
pub same_tests : (s t : Tm) (r : Bool) → (IsTrue r → spelling s ≡ spelling t) → (spelling s ≡ spelling t → IsTrue r) → r ≡ term_eq s t
same_tests s t true same rest = sym (eq-term_eq s t (spelling-same s t (same refl)))
same_tests s t false same rest = go (term_eq s t) (λ e. rest (ap spelling (term_eq-true s t e)) ∙ sym e)
  where
    go : (b : Bool) → (b ≡ true → false ≡ b) → false ≡ b
    go true f = f refl
    go false f = refl

or_false : (b : Bool) → (b || false) ≡ b
or_false true = refl
or_false false = refl

-- a variable stands in a term where its letter is among the term's letters
pub occurs-letters : (x : ℕ) (t : Tm) → list_any (is_letter_of x) (spelling t) ≡ occurs x t
occurs-letters x (Tree.leaf v) = or_false (eqb x v)
occurs-letters x (Tree.sym s) = refl
occurs-letters x (Tree.str s) = refl
occurs-letters x (Tree.num n) = refl
occurs-letters x (Tree.truth b) = refl
occurs-letters x Tree.nil = refl
occurs-letters x (Tree.pair a b) =
    list_any-append (is_letter_of x) (spelling a) (spelling b) ∙ ap₂ (λ l r. l || r) (occurs-letters x a) (occurs-letters x b)

-- letters spliced into a term's letters spell the term under the replacement
pub spelling-apply : (s : Replacement) (t : Tm) → flat_map (splice s) (spelling t) ≡ spelling (apply s t)
spelling-apply s (Tree.leaf v) = append-nil (spelling (image s v))
spelling-apply s (Tree.sym x) = refl
spelling-apply s (Tree.str x) = refl
spelling-apply s (Tree.num n) = refl
spelling-apply s (Tree.truth b) = refl
spelling-apply s Tree.nil = refl
spelling-apply s (Tree.pair a b) =
    ap (λ w. Pair ∷ w) (flat_map-append (splice s) (spelling a) (spelling b) ∙ ap₂ (λ l r. l ++ r) (spelling-apply s a) (spelling-apply s b))

-- the letters of a term spell it
pub term_of-spelling : (t : Tm) → term_of (spelling t) ≡ Some t
term_of-spelling t = ap only_one (built_from-spelling t [])

pub spells_one : (t : Tm) (letters : List Letter) → letters ≡ spelling t → IsSome (term_of letters)
spells_one t letters e = ap is_some (ap term_of e ∙ term_of-spelling t)

pub spelled_is : (t u : Tm) (letters : List Letter) → letters ≡ spelling t → term_of letters ≡ Some u → u ≡ t
spelled_is t u letters e made = let same : Some u ≡ Some t = sym made ∙ ap term_of e ∙ term_of-spelling t in cc

pub spelled_ok : {E : Type 0} (r : Result Term E) (t : Tm) (letters : List Letter) → letters ≡ spelling t →
    IfOk r (λ made. term_of letters ≡ Some (tree made)) → IfOk r (λ made. tree made ≡ t)
spelled_ok (Ok u) t letters e h = spelled_is t (tree u) letters e h
spelled_ok (Err m) t letters e h = tt

-- spliced letters spell the term under the replacement
pub applied_spells : (s : Replacement) (t : Tm) (letters made : List Letter) → letters ≡ spelling t → made ≡ flat_map (splice s) letters → made ≡ spelling (apply s t)
applied_spells s t letters made l m = m ∙ ap (flat_map (splice s)) l ∙ spelling-apply s t
