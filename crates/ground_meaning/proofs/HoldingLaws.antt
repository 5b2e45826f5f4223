-- What the marks of a ground term tell of it.
use Rattle.std.proofs.Common.{◌≡◌, ◌↔◌, ℕ, Bool, true, false, ◌||◌, List, refl, sym, ap, ap₂, ◌∙◌}
use Rattle.std.specs.Prelude.{IsTrue}
use Rattle.std.specs.List.{list_any}
use Rattle.std.proofs.lemmas.Bool.{both_ways, false_from_ne_true}
use Rattle.std.proofs.lemmas.List.Folds.{list_any-append}
use Rattle.kan_terms.specs.Tree.{Tree, Gd, has_symbol, ground_eq}
use Rattle.kan_terms.specs.Spelling.{spelling}
use Rattle.kan_terms.specs.declared.marks.Mark.{Mark}
use Rattle.kan_terms.specs.declared.marks.Mark.TheVariants.{Sym}
use Rattle.kan_terms.proofs.SpellingLaws.{spelling-same}
use Rattle.kan_terms.proofs.TreeLaws.{Decides-ground_eq}
use Rattle.ground_meaning.specs.Values.{is_tag}

-- terms are the same where their marks are
pub same_spelled : (same : Bool) (xs ys : List Mark) (a b : Gd) → xs ≡ spelling a → ys ≡ spelling b → IsTrue same ↔ (xs ≡ ys) → same ≡ ground_eq a b
same_spelled true xs ys a b left right told = sym ((Decides-ground_eq a b).1 (spelling-same a b (sym left ∙ told.0 refl ∙ right)))
same_spelled false xs ys a b left right told =
    sym (false_from_ne_true (ground_eq a b) (λ e. both_ways false refl (told.1 (left ∙ ap spelling ((Decides-ground_eq a b).0 e) ∙ sym right))))

tag_spelled : (tag : ℕ) (g : Gd) → list_any (is_tag tag) (spelling g) ≡ has_symbol tag g
tag_spelled tag (Tree.leaf none) = absurd none
tag_spelled tag (Tree.sym s) = or_none (is_tag tag (Sym s))
  where
    or_none : (b : Bool) → (b || false) ≡ b
    or_none true = refl
    or_none false = refl
tag_spelled tag (Tree.str s) = refl
tag_spelled tag (Tree.num n) = refl
tag_spelled tag (Tree.truth b) = refl
tag_spelled tag Tree.nil = refl
tag_spelled tag (Tree.pair a b) = list_any-append (is_tag tag) (spelling a) (spelling b) ∙ ap₂ (λ x y. x || y) (tag_spelled tag a) (tag_spelled tag b)

pub tag_found : (tag : ℕ) (xs : List Mark) (g : Gd) → xs ≡ spelling g → list_any (is_tag tag) xs ≡ has_symbol tag g
tag_found tag xs g is = ap (list_any (is_tag tag)) is ∙ tag_spelled tag g
