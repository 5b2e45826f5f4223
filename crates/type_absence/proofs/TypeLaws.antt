-- Types have exactly the solutions of what was added to them.
use Rattle.std.proofs.Common.{◌≡◌, ◌↔◌, ℕ, Bool, true, false, eqb, Option, Some, None, sym, ap, subst, refl, ◌∙◌, if◌then◌else◌}
use Rattle.std.proofs.lemmas.Bool.{eq-eqb, eqb-true, both_ways, true≢false}
use Rattle.kan_terms.specs.Tree.{Tree, Tm, Gd, fill}
use Rattle.kan_model.specs.Stores.Kept.{may_be}
use Rattle.kan_model.specs.declared.prims.Kind.{Kind}
use Rattle.kan_model.specs.declared.prims.Kind.TheVariants.{Symbol, Number, Text}
use Rattle.unify_core.specs.Walking.{walk}
use Rattle.unify_core.proofs.CycleLaws.{grown}
use Rattle.unify_core.proofs.SolutionLaws.{fill-walk}
use Rattle.type_absence.specs.Types.{Types, same_kind, no_other, may_have, with_type, GivesTypes, MovesTypes, is_of, Typed}
use Rattle.type_absence.specs.Laws.{Makes, TypesSolve}

-- the type of a ground term
abbrev kind_of : Gd → Option Kind
kind_of (Tree.sym s) = Some Symbol
kind_of (Tree.num n) = Some Number
kind_of (Tree.str s) = Some Text
kind_of g = None

kind_from : (kind : Kind) (g : Gd) → is_of kind g ≡ true → kind_of g ≡ Some kind
kind_from kind (Tree.leaf v) e = absurd v
kind_from Symbol (Tree.sym s) e = refl
kind_from Symbol (Tree.str s) e = cc
kind_from Symbol (Tree.num n) e = cc
kind_from Symbol (Tree.truth b) e = cc
kind_from Symbol Tree.nil e = cc
kind_from Symbol (Tree.pair a b) e = cc
kind_from Number (Tree.sym s) e = cc
kind_from Number (Tree.str s) e = cc
kind_from Number (Tree.num n) e = refl
kind_from Number (Tree.truth b) e = cc
kind_from Number Tree.nil e = cc
kind_from Number (Tree.pair a b) e = cc
kind_from Text (Tree.sym s) e = cc
kind_from Text (Tree.str s) e = refl
kind_from Text (Tree.num n) e = cc
kind_from Text (Tree.truth b) e = cc
kind_from Text Tree.nil e = cc
kind_from Text (Tree.pair a b) e = cc

kind_itself : (kind : Kind) → same_kind kind kind ≡ true
kind_itself Symbol = refl
kind_itself Number = refl
kind_itself Text = refl

kind_same : (one other : Kind) → same_kind one other ≡ true → one ≡ other
kind_same Symbol Symbol e = refl
kind_same Number Number e = refl
kind_same Text Text e = refl
kind_same Symbol Number e = cc
kind_same Symbol Text e = cc
kind_same Number Symbol e = cc
kind_same Number Text e = cc
kind_same Text Symbol e = cc
kind_same Text Number e = cc

-- a ground term is of one type
one_kind : (one other : Kind) (g : Gd) → is_of one g ≡ true → is_of other g ≡ true → same_kind one other ≡ true
one_kind one other g e d =
    let both : Some one ≡ Some other = sym (kind_from one g e) ∙ kind_from other g d in
    let same : one ≡ other = cc in ap (same_kind one) (sym same) ∙ kind_itself one

-- an atom or a pair may have a type where its values are of it
of_atom : (kind : Kind) (f : ℕ → Gd) (t : Tm) → ((v : ℕ) → t ≡ Tree.leaf v → ⊥) → may_be kind t ≡ is_of kind (fill f t)
of_atom kind f (Tree.leaf v) other = absurd (other v refl)
of_atom Symbol f (Tree.sym s) other = refl
of_atom Symbol f (Tree.str s) other = refl
of_atom Symbol f (Tree.num n) other = refl
of_atom Symbol f (Tree.truth b) other = refl
of_atom Symbol f Tree.nil other = refl
of_atom Symbol f (Tree.pair a b) other = refl
of_atom Number f (Tree.sym s) other = refl
of_atom Number f (Tree.str s) other = refl
of_atom Number f (Tree.num n) other = refl
of_atom Number f (Tree.truth b) other = refl
of_atom Number f Tree.nil other = refl
of_atom Number f (Tree.pair a b) other = refl
of_atom Text f (Tree.sym s) other = refl
of_atom Text f (Tree.str s) other = refl
of_atom Text f (Tree.num n) other = refl
of_atom Text f (Tree.truth b) other = refl
of_atom Text f Tree.nil other = refl
of_atom Text f (Tree.pair a b) other = refl

-- a variable with another type can't have this one
leaf_refused : (f : ℕ → Gd) (kind : Kind) (v : ℕ) (known : Option Kind) → no_other kind known ≡ false → ((k : Kind) → known ≡ Some k → is_of k (f v) ≡ true) → is_of kind (f v) ≡ true → ⊥
leaf_refused f kind v None other_kind typed e = true≢false other_kind
leaf_refused f kind v (Some k) other_kind typed e = both_ways (same_kind kind k) other_kind (one_kind kind k (f v) e (typed k refl))

refused : (f : ℕ → Gd) (old : Types) (kind : Kind) (w : Tm) → may_have old kind w ≡ false → Typed f old → is_of kind (fill f w) ≡ true → ⊥
refused f old kind (Tree.leaf v) other_kind typed e = leaf_refused f kind v (old v) other_kind (typed v) e
refused f old kind (Tree.sym s) other_kind typed e = both_ways (may_be kind (Tree.sym s)) other_kind (of_atom kind f (Tree.sym s) (λ v d. cc) ∙ e)
refused f old kind (Tree.str s) other_kind typed e = both_ways (may_be kind (Tree.str s)) other_kind (of_atom kind f (Tree.str s) (λ v d. cc) ∙ e)
refused f old kind (Tree.num n) other_kind typed e = both_ways (may_be kind (Tree.num n)) other_kind (of_atom kind f (Tree.num n) (λ v d. cc) ∙ e)
refused f old kind (Tree.truth b) other_kind typed e = both_ways (may_be kind (Tree.truth b)) other_kind (of_atom kind f (Tree.truth b) (λ v d. cc) ∙ e)
refused f old kind Tree.nil other_kind typed e = both_ways (may_be kind Tree.nil) other_kind (of_atom kind f Tree.nil (λ v d. cc) ∙ e)
refused f old kind (Tree.pair a b) other_kind typed e = both_ways (may_be kind (Tree.pair a b)) other_kind (of_atom kind f (Tree.pair a b) (λ v d. cc) ∙ e)

-- a variable with no other type gets this one
module _ (f : ℕ → Gd) (old new : Types) (kind : Kind) (v : ℕ) (fits : no_other kind (old v) ≡ true) (same : (x : ℕ) → new x ≡ (if eqb x v then Some kind else old x)) where
  at_it : (x : ℕ) → eqb x v ≡ true → new x ≡ Some kind
  at_it x e = same x ∙ ap (λ c. if c then Some kind else old x) e

  elsewhere : (x : ℕ) → eqb x v ≡ false → new x ≡ old x
  elsewhere x e = same x ∙ ap (λ c. if c then Some kind else old x) e

  known_same : (known : Option Kind) (k : Kind) → no_other kind known ≡ true → known ≡ Some k → kind ≡ k
  known_same None k h e = cc
  known_same (Some j) k h e = let same_j : kind ≡ j = kind_same kind j h in cc

  to_old : Typed f new → Typed f old
  to_old typed x k e = by (eqb x v) refl
    where
      by : (c : Bool) → eqb x v ≡ c → is_of k (f x) ≡ true
      by true here =
          let known : old v ≡ Some k = ap old (sym (eqb-true x v here)) ∙ e in
          subst (λ j. is_of j (f x) ≡ true) (known_same (old v) k fits known) (typed x kind (at_it x here))
      by false there = typed x k (elsewhere x there ∙ e)

  to_new : Typed f old → is_of kind (f v) ≡ true → Typed f new
  to_new typed own x k e = by (eqb x v) refl
    where
      by : (c : Bool) → eqb x v ≡ c → is_of k (f x) ≡ true
      by true here =
          let both : Some kind ≡ Some k = sym (at_it x here) ∙ e in
          let same_k : kind ≡ k = cc in
          subst (λ j. is_of j (f x) ≡ true) same_k (subst (λ y. is_of kind (f y) ≡ true) (sym (eqb-true x v here)) own)
      by false there = typed x k (sym (elsewhere x there) ∙ e)

  leaf_given : Typed f new ↔ (Typed f old × (is_of kind (f v) ≡ true))
  leaf_given = (λ typed. (to_old typed, typed v kind (at_it v (eq-eqb v v refl))), λ (typed, own). to_new typed own)

-- where nothing changed, what holds by itself may be asked for too
stays : (f : ℕ → Gd) (old new : Types) (P : Type 0) → P → ((x : ℕ) → new x ≡ old x) → Typed f new ↔ (Typed f old × P)
stays f old new P p same = ((λ typed. ((λ x k e. typed x k (same x ∙ e)), p)), (λ (typed, q). (λ x k e. typed x k (sym (same x) ∙ e))))

given : (f : ℕ → Gd) (old new : Types) (kind : Kind) (w : Tm) → may_have old kind w ≡ true → ((x : ℕ) → new x ≡ with_type old kind w x) →
    Typed f new ↔ (Typed f old × (is_of kind (fill f w) ≡ true))
given f old new kind (Tree.leaf v) may same = leaf_given f old new kind v may same
given f old new kind (Tree.sym s) may same = stays f old new _ (sym (of_atom kind f (Tree.sym s) (λ v d. cc)) ∙ may) same
given f old new kind (Tree.str s) may same = stays f old new _ (sym (of_atom kind f (Tree.str s) (λ v d. cc)) ∙ may) same
given f old new kind (Tree.num n) may same = stays f old new _ (sym (of_atom kind f (Tree.num n) (λ v d. cc)) ∙ may) same
given f old new kind (Tree.truth b) may same = stays f old new _ (sym (of_atom kind f (Tree.truth b) (λ v d. cc)) ∙ may) same
given f old new kind Tree.nil may same = stays f old new _ (sym (of_atom kind f Tree.nil (λ v d. cc)) ∙ may) same
given f old new kind (Tree.pair a b) may same = stays f old new _ (sym (of_atom kind f (Tree.pair a b) (λ v d. cc)) ∙ may) same

made : (f : ℕ → Gd) (old : Types) (kind : Kind) (w : Tm) (new : Option Types) → GivesTypes old kind w new → Makes (Typed f) (Typed f old × (is_of kind (fill f w) ≡ true)) new
made f old kind w None other_kind = λ (typed, e). refused f old kind w other_kind typed e
made f old kind w (Some new) (may, same) = given f old new kind w may same

-- what follows from the rest need not be asked for
pub makes_by_itself : {X : Type 0} (S : X → Type 0) (P Q : Type 0) (new : Option X) → (P → Q) → Makes S (P × Q) new → Makes S P new
makes_by_itself S P Q None itself none = λ p. none (p, itself p)
makes_by_itself S P Q (Some new) itself both = ((λ s. (both.0 s).0), (λ p. both.1 (p, itself p)))

carried : (f : ℕ → Gd) (old : Types) (v : ℕ) (w : Tm) (known : Option Kind) (new : Option Types) → fill f w ≡ f v → old v ≡ known → MovesTypes old known w new → Makes (Typed f) (Typed f old) new
carried f old v w (Some kind) new value is moves =
    makes_by_itself (Typed f) (Typed f old) (is_of kind (fill f w) ≡ true) new (λ typed. ap (is_of kind) value ∙ typed v kind is) (made f old kind w new moves)
carried f old v w None None value is moves = absurd moves
carried f old v w None (Some new) value is same = ((λ typed x k e. typed x k (same x ∙ e)), (λ typed x k e. typed x k (sym (same x) ∙ e)))

pub types_solve : TypesSolve
types_solve = record {
  added = λ bound f old kind t new h solves gives.
      subst (λ g. Makes (Typed f) (Typed f old × (is_of kind g ≡ true)) new) (fill-walk f bound (grown bound h) solves t) (made f old kind (walk bound t) new gives);
  moved = λ bound f old v t new h solves value moves.
      carried f old v (walk bound t) (old v) new (fill-walk f bound (grown bound h) solves t ∙ sym value) refl moves;
}
