-- Absences have exactly the solutions of what was added to them.
use Rattle.std.proofs.Common.{◌≡◌, ◌↔◌, ℕ, Bool, true, false, ◌||◌, List, [], ◌∷◌, Option, Some, None, inl, inr, sym, ap, subst, refl, ◌∙◌, arith, if◌then◌else◌}
use Rattle.std.specs.Prelude.{Contains}
use Rattle.std.proofs.lemmas.Bool.{both_ways, false_from_ne_true}
use Rattle.kan_terms.specs.Tree.{Tm, Gd, fill, occurs, has_symbol}
use Rattle.kan_terms.proofs.TreeLaws.{has_symbol-fill, fill-has_symbol, leaves-has_symbol, leaves-occurs, occurs-leaves}
use Rattle.unify_core.specs.Walking.{full}
use Rattle.unify_core.proofs.SolutionLaws.{fill-full}
use Rattle.type_absence.specs.Tags.{with_tags, has_any}
use Rattle.type_absence.specs.Absent.{TagsOf, GivesTag, GivesTags, Free}
use Rattle.type_absence.specs.Laws.{Makes, AbsencesSolve}
use Rattle.type_absence.proofs.TagLaws.{items_kept, items_put, items_cases, one_item, any_at, any_one}
use Rattle.type_absence.proofs.TypeLaws.{makes_by_itself}

-- none of some tags stands in a ground term
abbrev NoneIn : List ℕ → Gd → Type 0
NoneIn more g = (tag : ℕ) → Contains more tag → has_symbol tag g ≡ false

module _ (f : ℕ → Gd) (old new : TagsOf) (more : List ℕ) (u : Tm) (none : has_any more u ≡ false) (same : (v : ℕ) → new v ≡ (if occurs v u then with_tags more (old v) else old v)) where
  inside : (v : ℕ) → occurs v u ≡ true → new v ≡ with_tags more (old v)
  inside v e = same v ∙ ap (λ c. if c then with_tags more (old v) else old v) e

  outside : (v : ℕ) → occurs v u ≡ false → new v ≡ old v
  outside v e = same v ∙ ap (λ c. if c then with_tags more (old v) else old v) e

  to_old : Free f new → Free f old
  to_old free v tag h = by (occurs v u) refl
    where
      by : (c : Bool) → occurs v u ≡ c → has_symbol tag (f v) ≡ false
      by true e = free v tag (subst (λ l. Contains l tag) (sym (inside v e)) (items_kept more tag (old v) h))
      by false e = free v tag (subst (λ l. Contains l tag) (sym (outside v e)) h)

  to_term : Free f new → NoneIn more (fill f u)
  to_term free tag h =
      false_from_ne_true (has_symbol tag (fill f u)) (λ e. elim (has_symbol-fill tag f u e) [
        | inl own ↦ both_ways (has_any more u) none (any_at more tag u h own)
        | inr (v, here, there) ↦
            both_ways (has_symbol tag (f v)) (free v tag (subst (λ l. Contains l tag) (sym (inside v (leaves-occurs v u here))) (items_put more tag (old v) h))) there
      ])

  to_new : Free f old → NoneIn more (fill f u) → Free f new
  to_new free out v tag h = by (occurs v u) refl
    where
      by : (c : Bool) → occurs v u ≡ c → has_symbol tag (f v) ≡ false
      by true e =
          elim (items_cases more tag (old v) (subst (λ l. Contains l tag) (inside v e) h)) [
            | inl put ↦ false_from_ne_true (has_symbol tag (f v)) (λ there. both_ways (has_symbol tag (fill f u)) (out tag put) (leaves-has_symbol tag f u v (occurs-leaves v u e) there))
            | inr before ↦ free v tag before
          ]
      by false e = free v tag (subst (λ l. Contains l tag) (outside v e) h)

  given : Free f new ↔ (Free f old × NoneIn more (fill f u))
  given = ((λ free. (to_old free, to_term free)), (λ (free, out). to_new free out))

made : (f : ℕ → Gd) (old : TagsOf) (more : List ℕ) (u : Tm) (new : Option TagsOf) → GivesTags old more u new → Makes (Free f) (Free f old × NoneIn more (fill f u)) new
made f old more u None any = λ (free, out). (let (tag, h, e) = any_one more u any in both_ways (has_symbol tag (fill f u)) (out tag h) (fill-has_symbol tag f u e))
made f old more u (Some new) (none, same) = given f old new more u none same

-- one tag is a list of one
or_nothing : (a : Bool) → (a || false) ≡ a
or_nothing true = refl
or_nothing false = refl

pub as_list : (old : TagsOf) (tag : ℕ) (u : Tm) (new : Option TagsOf) → GivesTag old tag u new → GivesTags old (tag ∷ []) u new
as_list old tag u None any = or_nothing (has_symbol tag u) ∙ any
as_list old tag u (Some new) (none, same) = (or_nothing (has_symbol tag u) ∙ none, same)

-- what is asked for may be said in other words
makes_likewise : {X : Type 0} (S : X → Type 0) (P Q : Type 0) (new : Option X) → (P → Q) → (Q → P) → Makes S P new → Makes S Q new
makes_likewise S P Q None to from none = λ q. none (from q)
makes_likewise S P Q (Some new) to from both = ((λ s. to (both.0 s)), (λ q. both.1 (from q)))

one_made : (f : ℕ → Gd) (old : TagsOf) (tag : ℕ) (u : Tm) (new : Option TagsOf) → GivesTag old tag u new → Makes (Free f) (Free f old × (has_symbol tag (fill f u) ≡ false)) new
one_made f old tag u new gives =
    makes_likewise (Free f) (Free f old × NoneIn (tag ∷ []) (fill f u)) (Free f old × (has_symbol tag (fill f u) ≡ false)) new
    (λ (free, out). (free, out tag (0, omega arith, refl)))
    (λ (free, out). (free, λ x h. subst (λ y. has_symbol y (fill f u) ≡ false) (one_item tag x h) out))
    (made f old (tag ∷ []) u new (as_list old tag u new gives))

pub absences_solve : AbsencesSolve
absences_solve = record {
  added = λ bound f old tag t new solves gives.
      subst (λ g. Makes (Free f) (Free f old × (has_symbol tag g ≡ false)) new) (fill-full f bound solves t) (one_made f old tag (full bound t) new gives);
  moved = λ bound f old v t new solves value gives.
      makes_by_itself (Free f) (Free f old) (NoneIn (old v) (fill f (full bound t))) new
      (λ free tag h. ap (has_symbol tag) (fill-full f bound solves t ∙ sym value) ∙ free v tag h)
      (made f old (old v) (full bound t) new gives);
}
