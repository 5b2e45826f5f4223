-- Each call keeps the parts of a store in step, or the longer store isn't kept.
use Rattle.std.proofs.Common.{◌≡◌, ℕ, Bool, true, false, [], Option, Some, None, sym, ap, subst, refl, ◌∙◌}
use Rattle.std.proofs.Math.Logic.{∥∥₁_elim}
use Rattle.std.specs.Coded.{Coded-set, coded_bool}
use Rattle.kan_terms.specs.Tree.{Tm}
use Rattle.kan_model.specs.Programs.Goals.{Primitive}
use Rattle.kan_model.specs.Stores.Store.{Store, bare, with_prim, with_fresh}
use Rattle.kan_model.specs.Stores.Solve.{apply, left_first}
use Rattle.kan_model.proofs.Solving.SolveLaws.{solve_by-nothing}
use Rattle.unify_core.specs.Walking.{full}
use Rattle.unify_core.proofs.CycleLaws.{no_cycle_empty}
use Rattle.std.proofs.lemmas.Bool.{true≢false}
use Rattle.diseq.specs.Disequalities.{Brought}
use Rattle.diseq.specs.Among.{Among}
use Rattle.diseq.specs.Kept.{Disequalities}
use Rattle.kan_model.specs.Stores.Kept.{is_kept}
use Rattle.kan_model.specs.declared.prims.Kind.{Kind}
use Rattle.type_absence.specs.Tags.{is_listed}
use Rattle.diseq.specs.Laws.{BringingGoesOn}
use Rattle.kan_store.specs.InStep.{InStep}
use Rattle.kan_store.specs.Parts.{Parts, AreInStep, KnownToMake, SameParts, Equated, Typing, Keeping, Differing}
use Rattle.kan_store.proofs.KeptParts.{typing}
use Rattle.kan_store.proofs.Asserting.{same_none, same_types_fail, same_tags_fail, same_differs_fail, same_added, typing_added, typing_fails, absent_added, absent_fails, differ_added, differ_fails}

-- a test that is known behind a truncation is known
pub test-known : (a b : Bool) → ∥ a ≡ b ∥₁ → a ≡ b
test-known a b h = ∥∥₁_elim h (Coded-set coded_bool a b) (λ e. e)

-- what a call makes: nothing where the longer store isn't kept, and else parts in step with it
abbrev pub Makes : Store → Option Parts → Type 0
Makes st None = is_kept st ≡ false
Makes st (Some parts) = AreInStep parts st

pub known-to : (st : Store) (r : Option Parts) → ∥ Makes st r ∥₁ → KnownToMake st r
known-to st None h = test-known (is_kept st) false h
known-to st (Some parts) h = h

module _ (laws : BringingGoesOn) (old : Parts) (st : Store) (step : AreInStep old st) where
  pub equated_makes : (a b : Tm) (r : Option Parts) → Equated old a b r → Makes (with_prim st (Primitive.same a b)) r
  equated_makes a b r (Equated.no_unifier unify) = same_none old.bound old.types old.tags old.lists st step laws a b unify
  equated_makes a b r (Equated.no_type {added = added} {bound = bound} unify put none moves) = same_types_fail old.bound old.types old.tags old.lists st step laws a b added bound unify put none moves
  equated_makes a b r (Equated.no_absence {added = added} {bound = bound} unify put none moves) = same_tags_fail old.bound old.types old.tags old.lists st step laws a b added bound unify put none moves
  equated_makes a b r (Equated.no_difference {added = added} {bound = bound} unify put none same) = same_differs_fail old.bound old.types old.tags old.lists st step laws a b added bound unify put none same
  equated_makes a b r (Equated.equated {added = added} {new = new} unify put none types tags apart stay watched) =
      same_added old.bound old.types old.tags old.lists st step laws a b added new.bound unify put none new.types new.tags new.lists types tags apart stay watched

  pub typing_makes : (kind : Kind) (t : Tm) (r : Option Parts) → Typing old kind t r → Makes (with_prim st (typing kind t)) r
  typing_makes kind t r (Typing.not_typed gives) = typing_fails old.bound old.types old.tags old.lists st step kind t gives
  typing_makes kind t r (Typing.typed {types = types} gives) = typing_added old.bound old.types old.tags old.lists st step kind t types gives

  pub keeping_makes : (tag : ℕ) (t : Tm) (r : Option Parts) → Keeping old tag t r → Makes (with_prim st (Primitive.absent tag t)) r
  keeping_makes tag t r (Keeping.not_kept gives) = absent_fails old.bound old.types old.tags old.lists st step tag t gives
  keeping_makes tag t r (Keeping.kept {tags = tags} gives) = absent_added old.bound old.types old.tags old.lists st step tag t tags gives

  pub differing_makes : (a b : Tm) (r : Option Parts) → Differing old a b r → Makes (with_prim st (Primitive.differ a b)) r
  differing_makes a b r (Differing.identical same) = differ_fails old.bound old.types old.tags old.lists st step laws a b same
  differing_makes a b r (Differing.differs {lists = lists} apart brought watched) = differ_added old.bound old.types old.tags old.lists st step laws a b lists apart brought watched

-- disequalities with the same assertions, of which each variable watches the same
same_disequalities : (old new : Disequalities) → new.asserted ≡ old.asserted → ((v : ℕ) → new.watching v ≡ old.watching v) → new ≡ old
same_disequalities old new asserted watching = λ i. record { asserted = asserted i; watching = λ v. watching v i }

-- parts that say the same are in step with the same stores
pub same_in_step : (old new : Parts) (st : Store) → SameParts old new → AreInStep old st → AreInStep new st
same_in_step old new st same step = subst (λ l. InStep new.bound new.types new.tags l st) (sym (same_disequalities old.lists new.lists same.asserted same.watching)) (subst (λ b. InStep b new.types new.tags old.lists st) (sym same.bound) (record {
  answer = step.answer;
  no_cycle = step.no_cycle;
  solved = step.solved;
  fulls = step.fulls;
  typed = λ v free k. (λ has. (step.typed v free k).0 (sym (same.types v) ∙ has), λ has. same.types v ∙ (step.typed v free k).1 has);
  tagged = λ v free tag. (λ listed. (step.tagged v free tag).0 (subst (λ ts. is_listed tag ts ≡ true) (same.tags v) listed), λ has. subst (λ ts. is_listed tag ts ≡ true) (sym (same.tags v)) ((step.tagged v free tag).1 has));
  differ = step.differ;
  watched = step.watched;
  allowed = step.allowed;
}))

-- a counter that is higher changes nothing
pub fresh_in_step : (parts : Parts) (st : Store) (k : ℕ) → AreInStep parts st → AreInStep parts (with_fresh st k)
fresh_in_step parts st k step = record {
  answer = step.answer;
  no_cycle = step.no_cycle;
  solved = step.solved;
  fulls = step.fulls;
  typed = step.typed;
  tagged = step.tagged;
  differ = step.differ;
  watched = step.watched;
  allowed = step.allowed;
}

-- nothing is in step with the store in which nothing was asserted
pub empty_in_step : (parts : Parts) → parts.bound ≡ [] → ((v : ℕ) → parts.types v ≡ None) → ((v : ℕ) → parts.tags v ≡ []) → parts.lists.asserted ≡ [] → ((v : ℕ) → parts.lists.watching v ≡ []) → AreInStep parts (bare 0)
empty_in_step parts bound types tags lists watching = record {
  answer = [];
  no_cycle = no_cycle_empty parts.bound bound;
  solved = solve_by-nothing left_first;
  fulls = λ t. subst (λ b. full b t ≡ apply [] t) (sym bound) refl;
  typed = λ v free k. (λ has. (let none : None ≡ Some k = sym (types v) ∙ has in cc), λ has. absurd (true≢false (sym has)));
  tagged = λ v free tag. (λ listed. absurd (true≢false (sym listed ∙ ap (is_listed tag) (tags v))), λ has. absurd (true≢false (sym has)));
  differ = subst (λ l. Brought parts.bound [] l) (sym lists) Brought.none_left;
  watched = ∣ record {
    kept = λ es a. absurd (subst (Among es) lists a);
    waits = λ fs a. absurd a;
    stands = λ v fs a. absurd (subst (Among fs) (watching v) a);
  } ∣₁;
  allowed = refl;
}
