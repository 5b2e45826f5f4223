-- Each mark changes how many trees are wanted, and the test of all marks stays the same.
use Rattle.std.proofs.Common.{◌≡◌, ℕ, Bool, false, nat_eq, arith, get_or, ap, sym, ◌∙◌, inl, inr, ◌⊎◌}
use Rattle.std.proofs.lemmas.Bool.{true≢false}
use Rattle.kan_terms.specs.declared.marks.Mark.TheVariants.{Pair, Sym, Str, Num, Truth, Nil}
use Rattle.kan_terms.specs.declared.marks.Mark.{Mark}
use Rattle.std.specs.Prelude.{ℤ}
use Rattle.std.proofs.Math.ListN.{drop_of_length-le}
use Rattle.kan_terms.proofs.SpellingLaws.{is_pair, spells_many, Decides-spells_many, left-pair, left-other, none-wanted, none-left}
use Rattle.kan_terms.proofs.marks.spells_tree.Goals as goal
use Rattle.kan_terms.proofs.marks.spells_tree.Goals.{in-Pair, in-Sym}

-- a mark of the other five kinds is no pair
no_pair : (mark : Mark) → ((s : ℕ) × (mark ≡ Sym s)) ⊎ (((s : ℕ) × (mark ≡ Str s)) ⊎ (((n : ℤ) × (mark ≡ Num n)) ⊎ (((b : Bool) × (mark ≡ Truth b)) ⊎ (mark ≡ Nil)))) → is_pair mark ≡ false
no_pair mark (inl h) = ap is_pair h.1
no_pair mark (inr (inl h)) = ap is_pair h.1
no_pair mark (inr (inr (inl h))) = ap is_pair h.1
no_pair mark (inr (inr (inr (inl h)))) = ap is_pair h.1
no_pair mark (inr (inr (inr (inr h)))) = ap is_pair h

pub returns-then-wanted-eq0 : goal.returns-then-wanted-eq0
returns-then-wanted-eq0 c =
    let marks = c.args.marks.now in
    let none : spells_many 1 marks ≡ false =
    none-wanted c.loop-mark.mark-index marks c.loop-mark-test.true (rw (← c.if-wanted-eq0.true) c.loop-mark.invariant.left) in
    (λ e. absurd (true≢false (sym e)), λ spells. sym none ∙ (Decides-spells_many marks).1 spells)

pub loop-mark-preserved : goal.loop-mark-preserved
loop-mark-preserved c =
    let marks = c.args.marks.now in
    let at = c.loop-mark.mark-index in
    elim c.match-mark.branch [
      | in-Pair w ↦ record {
        small = omega arith;
        left = rw w.wanted-is (left-pair c.loop-mark.wanted at marks Pair (omega arith) c.loop-mark-test.true (ap is_pair w.in-Pair.is) ∙ c.loop-mark.invariant.left);
      }
      | in-Sym w ↦ (
          let other : is_pair (get_or marks at Pair) ≡ false = no_pair (get_or marks at Pair) w.in-Sym.is in
          record {
            small = omega arith;
            left = rw w.wanted-is (left-other c.loop-mark.wanted at marks Pair (omega arith) c.loop-mark-test.true other ∙ c.loop-mark.invariant.left);
          })
    ]

pub returns : goal.returns
returns c =
    let marks = c.args.marks.now in
    let test : nat_eq c.loop-mark.wanted 0 ≡ spells_many 1 marks =
    sym (none-left c.loop-mark.wanted)
    ∙ ap (spells_many c.loop-mark.wanted) (sym (drop_of_length-le marks c.loop-mark-test.false))
    ∙ c.loop-mark.invariant.left in
    let decides = Decides-spells_many marks in
    (λ e. decides.0 (sym test ∙ e), λ spells. test ∙ decides.1 spells)
