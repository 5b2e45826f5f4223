-- What a variable stands for decides its types and its tags.
use Rattle.std.proofs.Common.{◌≡◌, ℕ, Bool, true, false, List, [], ◌∷◌, refl, sym, ◌∙◌, ap, ap₂, subst, eqb, Option, Some, None}
use Rattle.std.specs.Prelude.{◌&&◌, ◌||◌, unwrap_or, if◌then◌else◌}
use Rattle.std.specs.List.{list_any, flat_map}
use Rattle.std.specs.Borrow.{Bor}
use Rattle.std.proofs.lemmas.Bool.{eqb-true, eq-eqb}
use Rattle.std.proofs.lemmas.List.Folds.{list_any-append, list_any_at}
use Rattle.std.proofs.lemmas.Map.Views.{Contains-from_any}
use Rattle.kan_terms.specs.Tree.{Tree, Tm, occurs, ground_eq}
use Rattle.kan_terms.specs.Terms.{tree}
use Rattle.kan_terms.specs.Valuations.{value}
use Rattle.kan_terms.specs.declared.terms.Term.{Term}
use Rattle.kan_model.specs.Programs.Goals.{Primitive}
use Rattle.kan_model.specs.Stores.Store.{Store, Equation}
use Rattle.kan_model.specs.Stores.Solve.{Replacement, apply}
use Rattle.kan_model.specs.Stores.Kept.{may_be}
use Rattle.kan_model.specs.Stores.Calls.{replacement_of, AreTags, AreDifferences, SaysTheSame, differences}
use Rattle.kan_model.specs.Answers.Answer.{has_absence, keeps_out}
use Rattle.kan_model.specs.declared.prims.Kind.{Kind}
use Rattle.kan_model.specs.declared.prims.Kind.TheVariants.{Symbol, Number, Text}
use Rattle.kan_solving.specs.Solving.{IsImage}
use Rattle.kan_plain.specs.Looking.{shallow_image, tag_at, difference_at}

-- a variable that was looked up is seen
pub looked_up : (s : Replacement) (v : ℕ) (t r : Bor Term) (found : Option (Bor Term)) →
    tree t.now ≡ Tree.leaf v → IsImage s v found → r ≡ unwrap_or found t → tree r.now ≡ shallow_image s (tree t.now)
looked_up s v t r None is_var image_is given = rw (given, is_var) (sym image_is)
looked_up s v t r (Some u) is_var image_is given = rw (given, is_var) (sym image_is)

-- a term may be of a type where its shallow image may be
pub type_seen : (kind : Kind) (s : Replacement) (t : Tm) → may_be kind (shallow_image s t) ≡ may_be kind (apply s t)
type_seen kind s (Tree.leaf w) = refl
type_seen kind s (Tree.sym x) = refl
type_seen kind s (Tree.str x) = refl
type_seen kind s (Tree.num x) = refl
type_seen kind s (Tree.truth x) = refl
type_seen kind s Tree.nil = refl
type_seen Symbol s (Tree.pair a b) = refl
type_seen Number s (Tree.pair a b) = refl
type_seen Text s (Tree.pair a b) = refl

-- a listed tag is one that is kept out
tag_kept_out : (s : Replacement) (tag v : ℕ) (p : Primitive Tm) → list_any (eqb tag) (tag_at s v p) ≡ keeps_out s tag v p
tag_kept_out s tag v (Primitive.same a b) = refl
tag_kept_out s tag v (Primitive.differ a b) = refl
tag_kept_out s tag v (Primitive.symbol a) = refl
tag_kept_out s tag v (Primitive.number a) = refl
tag_kept_out s tag v (Primitive.text a) = refl
tag_kept_out s tag v (Primitive.absent t a) = by (eqb tag t) (occurs v (apply s a)) refl
  where
    by : (e o : Bool) → eqb tag t ≡ e → list_any (eqb tag) (if o then t ∷ [] else []) ≡ (eqb tag t && o)
    by true true same = rw same refl
    by true false same = rw same refl
    by false true same = rw same refl
    by false false same = rw same refl

tags_kept_out : (s : Replacement) (tag v : ℕ) (ps : List (Primitive Tm)) → list_any (eqb tag) (flat_map (tag_at s v) ps) ≡ has_absence s ps tag v
tags_kept_out s tag v [] = refl
tags_kept_out s tag v (p ∷ ps) =
    list_any-append (eqb tag) (tag_at s v p) (flat_map (tag_at s v) ps) ∙ ap₂ (λ a b. a || b) (tag_kept_out s tag v p) (tags_kept_out s tag v ps)

-- the listed tags are those that are kept out
pub are_tags : (st : Store) (v : ℕ) (s : Replacement) (tags : List ℕ) → replacement_of st ≡ s → tags ≡ flat_map (tag_at s v) st.prims → AreTags st v tags
are_tags st v s tags is_answer listed tag =
    let same : list_any (eqb tag) tags ≡ has_absence (replacement_of st) st.prims tag v =
    ap (list_any (eqb tag)) listed ∙ tags_kept_out s tag v st.prims ∙ ap (λ r. has_absence r st.prims tag v) (sym is_answer) in (
      λ there. sym same ∙ list_any_at (eqb tag) tags there.0 tag there.1 (eq-eqb tag _ (sym there.2)),
      λ kept. Contains-from_any eqb-true tag tags (same ∙ kept),
    )

and_true : (b : Bool) → (b && true) ≡ b
and_true true = refl
and_true false = refl

-- the sides of a disequality say what it says
sides_say : (st : Store) (e : Equation) → SaysTheSame st e (e ∷ [])
sides_say st e us hold = and_true (ground_eq (value us e.left) (value us e.right))

-- the listed sides are those of the disequalities
sides_differ : (st : Store) (ps : List (Primitive Tm)) → AreDifferences st (differences ps) (flat_map difference_at ps)
sides_differ st [] = AreDifferences.no_more
sides_differ st (Primitive.same a b ∷ ps) = sides_differ st ps
sides_differ st (Primitive.differ a b ∷ ps) = AreDifferences.listed (sides_say st (record { left = a; right = b })) (sides_differ st ps)
sides_differ st (Primitive.symbol a ∷ ps) = sides_differ st ps
sides_differ st (Primitive.number a ∷ ps) = sides_differ st ps
sides_differ st (Primitive.text a ∷ ps) = sides_differ st ps
sides_differ st (Primitive.absent tag a ∷ ps) = sides_differ st ps

pub are_differences : (st : Store) (lists : List (List Equation)) → lists ≡ flat_map difference_at st.prims → AreDifferences st (differences st.prims) lists
are_differences st lists listed = subst (AreDifferences st (differences st.prims)) (sym listed) (sides_differ st st.prims)
