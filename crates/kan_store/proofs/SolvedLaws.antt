-- The steps of asserting an equation, put together.
use Rattle.std.proofs.Common.{◌≡◌, ℕ, Bool, true, false, ◌&&◌, List, [], ◌∷◌, ◌↔◌, Option, Some, None, sym, ap, subst, refl, ◌∙◌}
use Rattle.std.specs.List.{list_all, list_any}
use Rattle.std.proofs.Math.Logic.{∥∥₁_map}
use Rattle.std.proofs.lemmas.Bool.{and_from, false_from_ne_true}
use Rattle.kan_terms.specs.Tree.{Tm}
use Rattle.unify_core.specs.Cycles.{HasNoCycle}
use Rattle.unify_core.specs.Walking.{Pairs, walk, full}
use Rattle.unify_core.specs.Solutions.{AddedTo, equation}
use Rattle.unify_core.specs.Unifying.{Unifying}
use Rattle.type_absence.specs.Types.{Types, GivesTypes, made_if}
use Rattle.type_absence.specs.Absent.{TagsOf, GivesTag}
use Rattle.kan_model.specs.declared.prims.Kind.{Kind}
use Rattle.diseq.specs.Among.{Among}
use Rattle.diseq.specs.Disequalities.{is_identical}
use Rattle.diseq.specs.Kept.{AreWatched, Disequalities}
use Rattle.kan_store.specs.Moving.{TypesMove, TagsMove, binds_variable}
use Rattle.kan_store.specs.Parts.{Parts, Equated, BroughtUp, Carried, Typing, Keeping}

-- added pairs bind variables
pub added_bind : (older : Pairs) (added : List (Tm × Tm)) (new : Pairs) → AddedTo older added new → list_all binds_variable added ≡ true
added_bind older [] new put = refl
added_bind older (p ∷ added) new (x, is, free, walks, put) =
    and_from (binds_variable p) (list_all binds_variable added) (ap (λ t. binds_variable (t, p.1)) is) (added_bind ((x, p.1) ∷ older) added new put)

-- none identical, where something was found
pub none_identical : {X : Type 0} (found : Option X) (x : X) (b : Bool) → found ≡ Some x → ((found ≡ None) ↔ (b ≡ true)) → b ≡ false
none_identical found x b is exact = false_from_ne_true b (λ h. (let bad : Some x ≡ None = sym is ∙ exact.1 h in cc))

-- no disequality is watched under all bindings
pub nothing_brought : (older bound : Pairs) (lists : Disequalities) → lists.asserted ≡ [] → AreWatched older lists.asserted lists.watching → BroughtUp bound lists (Some lists)
nothing_brought older bound lists none watched = (
  ap (list_any (is_identical bound)) none,
  refl,
  ∥∥₁_map watched (λ kept. record {
    kept = λ es a. absurd (subst (Among es) none a);
    waits = λ fs a. absurd a;
    stands = λ v fs a. (let it = kept.stands v fs a in absurd (subst (Among it.es) none it.among));
  }),
)

-- what stands on variables went over, and then disequalities are brought up
pub rechecked : (old new : Parts) (added : List (Tm × Tm)) (fits : Bool) → new.bound ≡ old.bound → TypesMove old.bound old.types added (Some new.types) →
    TagsMove old.bound old.tags added (Some new.tags) → BroughtUp old.bound old.lists (made_if fits new.lists) → Carried old added (made_if fits new)
rechecked old new added true bound types tags brought = Carried.carried bound types tags brought
rechecked old new added false bound types tags brought = Carried.one_same brought

module _ (old : Parts) (a b : Tm) (added : List (Tm × Tm)) (new : Pairs) (unify : Unifying old.bound (equation a b ∷ []) (Some added)) (put : AddedTo old.bound added new) (none : HasNoCycle new) where
  pub carried_equates : (r : Option Parts) → Carried (record old { bound = new }) added r → Equated old a b r
  carried_equates r (Carried.types_clash h) = Equated.no_type unify put none h
  carried_equates r (Carried.tags_clash h) = Equated.no_absence unify put none h
  carried_equates r (Carried.one_same h) = Equated.no_difference unify put none h
  carried_equates r (Carried.carried {new = parts} bound types tags (apart, stay, watched)) =
      Equated.equated unify (subst (λ n. AddedTo old.bound added n) (sym bound) put) (subst HasNoCycle (sym bound) none)
      (subst (λ n. TypesMove n old.types added (Some parts.types)) (sym bound) types) (subst (λ n. TagsMove n old.tags added (Some parts.tags)) (sym bound) tags)
      (subst (λ n. list_any (is_identical n) old.lists.asserted ≡ false) (sym bound) apart) stay
      (subst (λ n. AreWatched n parts.lists.asserted parts.lists.watching) (sym bound) watched)

-- a type or an absence was put, or couldn't be
pub typing_puts : (old : Parts) (kind : Kind) (t : Tm) (types : Types) (fits : Bool) → GivesTypes old.types kind (walk old.bound t) (made_if fits types) → Typing old kind t (made_if fits (record old { types = types }))
typing_puts old kind t types true gives = Typing.typed gives
typing_puts old kind t types false gives = Typing.not_typed gives

pub keeping_puts : (old : Parts) (tag : ℕ) (t : Tm) (tags : TagsOf) (fits : Bool) → GivesTag old.tags tag (full old.bound t) (made_if fits tags) → Keeping old tag t (made_if fits (record old { tags = tags }))
keeping_puts old tag t tags true gives = Keeping.kept gives
keeping_puts old tag t tags false gives = Keeping.not_kept gives

-- a test and nothing else
pub only_true : (b : Bool) → (b && true) ≡ true → b ≡ true
only_true true h = refl
only_true false h = h

pub only_false : (b : Bool) → (b && true) ≡ false → b ≡ false
only_false true h = h
only_false false h = refl
