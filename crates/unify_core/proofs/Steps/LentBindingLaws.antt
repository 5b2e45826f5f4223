-- Bindings with lent ones in front of them.
use Rattle.std.proofs.Common.{◌≡◌, ◌≢◌, ℕ, ◌+◌, ◌-◌, ◌<◌, ◌≤◌, List, [], ◌∷◌, ◌++◌, take, length, get_or, sym, ap, subst, refl, ◌∙◌, arith}
use Rattle.std.proofs.lemmas.Bool.{eq-eqb, ne_eqb}
use Rattle.std.proofs.lemmas.List.{take_more}
use Rattle.std.proofs.Math.Seq.{take-length}
use Rattle.std.specs.Prelude.{Some}
use Rattle.kan_terms.specs.Terms.{tree}
use Rattle.kan_terms.specs.Bound.{bound_to}
use Rattle.unify_core.specs.declared.walking.LentBinding.{LentBinding}
use Rattle.unify_core.specs.LentBindings.{lent_pair, with_lent}
use Rattle.unify_core.specs.Walking.{Pairs}
use Rattle.unify_core.proofs.GrowthLaws.{bound-newest, bound-older}

-- the last one stands in front
pub with_lent-push : (lent : List LentBinding) (one : LentBinding) (bound : Pairs) → with_lent (lent ++ one ∷ []) bound ≡ lent_pair one ∷ with_lent lent bound
with_lent-push [] one bound = refl
with_lent-push (first ∷ more) one bound = with_lent-push more one (lent_pair first ∷ bound)

-- bindings with the lent ones up to an index
abbrev pub up_to : ℕ → List LentBinding → Pairs → Pairs
up_to left lent bound = with_lent (take left lent) bound

up_to-more : (lent : List LentBinding) (i : ℕ) (one : LentBinding) (bound : Pairs) → i < length lent → one ≡ get_or lent i one → up_to (i + 1) lent bound ≡ lent_pair one ∷ up_to i lent bound
up_to-more lent i one bound below here =
    ap (λ ls. with_lent ls bound) (take_more lent i one below ∙ ap (λ l. take i lent ++ l ∷ []) (sym here)) ∙ with_lent-push (take i lent) one bound

pub up_to-all : (lent : List LentBinding) (bound : Pairs) → up_to (length lent) lent bound ≡ with_lent lent bound
up_to-all lent bound = ap (λ ls. with_lent ls bound) (take-length lent)

-- those before the last one, and it
from_end : (P : ℕ → Type 0) (left : ℕ) → 0 < left → P (left - 1 + 1) → P left
from_end P left some h = let same : left - 1 + 1 ≡ left = omega arith in subst P same h

-- the last one that is left binds the variable
pub lent_here : (lent : List LentBinding) (left x : ℕ) (one : LentBinding) (bound : Pairs) → 0 < left → left ≤ length lent → one ≡ get_or lent (left - 1) one → one.var ≡ x →
    Some (tree one.term.now) ≡ bound_to x (up_to left lent bound)
lent_here lent left x one bound some within here same =
    from_end (λ n. Some (tree one.term.now) ≡ bound_to x (up_to n lent bound)) left some
    (sym (bound-newest (lent_pair one) (up_to (left - 1) lent bound) x (eq-eqb x one.var (sym same))) ∙ ap (bound_to x) (sym (up_to-more lent (left - 1) one bound (omega arith) here)))

-- the last one that is left binds another variable
pub lent_further : (lent : List LentBinding) (left x : ℕ) (one : LentBinding) (bound : Pairs) → 0 < left → left ≤ length lent → one ≡ get_or lent (left - 1) one → one.var ≢ x →
    bound_to x (up_to (left - 1) lent bound) ≡ bound_to x (up_to left lent bound)
lent_further lent left x one bound some within here other =
    from_end (λ n. bound_to x (up_to (left - 1) lent bound) ≡ bound_to x (up_to n lent bound)) left some
    (sym (bound-older (lent_pair one) (up_to (left - 1) lent bound) x (ne_eqb x one.var (λ e. other (sym e)))) ∙ ap (bound_to x) (sym (up_to-more lent (left - 1) one bound (omega arith) here)))
