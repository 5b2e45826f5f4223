-- The marks of values.
use Rattle.std.proofs.Common.{◌≡◌, ℕ, ◌<◌, List, [], ◌∷◌, ◌++◌, length, refl, sym, ap, ◌∙◌, arith, append_assoc, append-nil}
use Rattle.std.specs.Prelude.{Result, Ok, Err, OnOk}
use Rattle.std.proofs.lemmas.List.{length-append}
use Rattle.kan_terms.specs.Tree.{Tree, Gd}
use Rattle.kan_terms.specs.Spelling.{spelling}
use Rattle.kan_terms.specs.declared.marks.Mark.{Mark}
use Rattle.kan_terms.specs.declared.marks.Mark.TheVariants.{Pair}
use Rattle.kan_terms.proofs.SpellingLaws.{length-spelling}
use Rattle.kan_terms.proofs.TreeLaws.{size-positive}
use Rattle.ground_meaning.specs.Values.{waiting_marks, Puts}

-- a term's marks are put whole
pub whole_put : (f : ℕ → Gd) (u : Gd) (old new : List Mark) (waiting : List ℕ) → new ≡ old ++ spelling u → Puts f u old new waiting waiting
whole_put f u old new waiting e = (
  ap (λ l. l ++ waiting_marks f waiting) e ∙ append_assoc old (spelling u) (waiting_marks f waiting),
  omega (arith, ap length e, length-append old (spelling u), length-spelling u, size-positive u),
)

pub piece_put : {A E : Type 0} (r : Result A E) (f : ℕ → Gd) (u : Gd) (old new : List Mark) (waiting : List ℕ) → OnOk r (new ≡ old ++ spelling u) → OnOk r (Puts f u old new waiting waiting)
piece_put (Ok x) f u old new waiting h = whole_put f u old new waiting h
piece_put (Err e) f u old new waiting h = h

-- a term on top of a stack is spelled first
pub waiting-push : (f : ℕ → Gd) (waiting : List ℕ) (at : ℕ) → waiting_marks f (waiting ++ at ∷ []) ≡ spelling (f at) ++ waiting_marks f waiting
waiting-push f [] at = sym (append-nil (spelling (f at)))
waiting-push f (w ∷ waiting) at = ap (λ l. l ++ spelling (f w)) (waiting-push f waiting at) ∙ append_assoc (spelling (f at)) (waiting_marks f waiting) (spelling (f w))

-- the mark of a pair is put, and its parts wait
pub pair_put : (f : ℕ → Gd) (a b : ℕ) (old new : List Mark) (waiting middle more : List ℕ) → new ≡ old ++ Pair ∷ [] → middle ≡ waiting ++ b ∷ [] → more ≡ middle ++ a ∷ [] →
    Puts f (Tree.pair (f a) (f b)) old new waiting more
pair_put f a b old new waiting middle more e first second = (
  ap (λ l. l ++ waiting_marks f more) e ∙ append_assoc old (Pair ∷ []) (waiting_marks f more)
      ∙ ap (λ l. old ++ (Pair ∷ l)) (ap (waiting_marks f) second ∙ waiting-push f middle a ∙ ap (λ l. spelling (f a) ++ l) (ap (waiting_marks f) first ∙ waiting-push f waiting b)
      ∙ sym (append_assoc (spelling (f a)) (spelling (f b)) (waiting_marks f waiting))),
  omega (arith, ap length e, length-append old (Pair ∷ [])),
)

-- a template is taken from the stack, and put
pub put_keeps : (f : ℕ → Gd) (at : ℕ) (u : Gd) (old new whole : List Mark) (before rest after : List ℕ) → before ≡ rest ++ at ∷ [] → f at ≡ u → Puts f u old new rest after →
    old ++ waiting_marks f before ≡ whole → new ++ waiting_marks f after ≡ whole
put_keeps f at u old new whole before rest after popped is (puts, longer) kept =
    puts ∙ ap (λ v. old ++ (spelling v ++ waiting_marks f rest)) (sym is) ∙ ap (λ l. old ++ l) (sym (waiting-push f rest at) ∙ ap (waiting_marks f) (sym popped)) ∙ kept

-- fewer marks wait then
pub put_fewer : (f : ℕ → Gd) (at : ℕ) (u : Gd) (old new : List Mark) (before rest after : List ℕ) → before ≡ rest ++ at ∷ [] → f at ≡ u → Puts f u old new rest after →
    length (waiting_marks f after) < length (waiting_marks f before)
put_fewer f at u old new before rest after popped is (puts, longer) =
    let same = put_keeps f at u old new (old ++ waiting_marks f before) before rest after popped is (puts, longer) refl in
    omega (arith, longer, ap length same, length-append new (waiting_marks f after), length-append old (waiting_marks f before))
