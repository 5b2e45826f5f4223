-- Tags are put one after the other, and each stands once.
use Rattle.std.proofs.Common.{◌≡◌, ◌↔◌, ℕ, Bool, true, false, ◌||◌, not, eqb, List, [], ◌∷◌, ◌++◌, Option, Some, None, sym, ap, refl, ◌∙◌, if◌then◌else◌}
use Rattle.std.proofs.lemmas.Bool.{and_from, and_parts, or_parts, or_from, or_left, not-true, not_from_false}
use Rattle.kan_terms.specs.Tree.{Tm, occurs, has_symbol}
use Rattle.unify_core.proofs.GrowthLaws.{eqb-turn}
use Rattle.type_absence.specs.Tags.{is_listed, with_tag, with_tags, has_any, is_once}
use Rattle.type_absence.specs.Absent.{TagsOf, GivesTag, GivesTags}
use Rattle.type_absence.specs.Laws.{OneByOne}
use Rattle.type_absence.proofs.TagLaws.{listed-append}

-- both branches of a test are the same
same_both : {X : Type 0} (c : Bool) (x : X) → (if c then x else x) ≡ x
same_both true x = refl
same_both false x = refl

-- a list with a new tag at its end
once_push : (tag : ℕ) (tags : List ℕ) → is_listed tag tags ≡ false → is_once tags ≡ true → is_once (tags ++ tag ∷ []) ≡ true
once_push tag [] new once = refl
once_push tag (x ∷ tags) new once =
    let (other, apart) = or_parts (eqb x tag) (is_listed tag tags) new in
    let (out, rest) = and_parts (not (is_listed x tags)) (is_once tags) once in
    and_from (not (is_listed x (tags ++ tag ∷ []))) (is_once (tags ++ tag ∷ []))
    (not_from_false (is_listed x (tags ++ tag ∷ []))
    (listed-append x tags (tag ∷ []) ∙ or_from (is_listed x tags) (eqb tag x || false) (not-true (is_listed x tags) out) (or_from (eqb tag x) false (eqb-turn tag x ∙ other) refl)))
    (once_push tag tags apart rest)

once_with : (tag : ℕ) (tags : List ℕ) → is_once tags ≡ true → is_once (with_tag tag tags) ≡ true
once_with tag tags once = by (is_listed tag tags) refl
  where
    by : (c : Bool) → is_listed tag tags ≡ c → is_once (if c then tags else tags ++ tag ∷ []) ≡ true
    by true listed = once
    by false new = once_push tag tags new once

once_all : (more tags : List ℕ) → is_once tags ≡ true → is_once (with_tags more tags) ≡ true
once_all [] tags once = once
once_all (tag ∷ more) tags once = once_all more (with_tag tag tags) (once_with tag tags once)

-- what the others put on what the first one put
put_next : (old next : TagsOf) (tag : ℕ) (more : List ℕ) (c : Bool) (v : ℕ) → next v ≡ (if c then with_tag tag (old v) else old v) →
    (if c then with_tags more (next v) else next v) ≡ (if c then with_tags more (with_tag tag (old v)) else old v)
put_next old next tag more true v same = ap (with_tags more) same
put_next old next tag more false v same = same

others : (old next : TagsOf) (tag : ℕ) (more : List ℕ) (t : Tm) (new : Option TagsOf) → GivesTag old tag t (Some next) → GivesTags next more t new ↔ GivesTags old (tag ∷ more) t new
others old next tag more t None (out, same) =
    ((λ any. ap (λ c. c || has_any more t) out ∙ any), (λ any. sym (ap (λ c. c || has_any more t) out) ∙ any))
others old next tag more t (Some new) (out, same) = (
  (λ (none, put). (ap (λ c. c || has_any more t) out ∙ none, (λ v. put v ∙ put_next old next tag more (occurs v t) v (same v)))),
  (λ (none, put). (sym (ap (λ c. c || has_any more t) out) ∙ none, (λ v. put v ∙ sym (put_next old next tag more (occurs v t) v (same v))))),
)

pub one_by_one : OneByOne
one_by_one = record {
  no_tag = λ old new t. ((λ (none, same) v. same v ∙ same_both (occurs v t) (old v)), (λ same. (refl, (λ v. same v ∙ sym (same_both (occurs v t) (old v))))));
  first_refused = λ old tag more t any. or_left (has_symbol tag t) (has_any more t) any;
  then_others = others;
  stays_once = once_all;
}
