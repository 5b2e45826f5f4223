-- Whether a symbol stands in a term, as its letters tell it.
use Rattle.std.proofs.Common.{◌≡◌, ℕ, Bool, true, false, refl, sym, ◌∙◌, ap₂, eqb}
use Rattle.std.specs.Prelude.{◌||◌}
use Rattle.std.specs.List.{list_any}
use Rattle.std.proofs.lemmas.List.Folds.{list_any-append}
use Rattle.kan_terms.specs.Tree.{Tree, Tm, has_symbol}
use Rattle.kan_model.specs.Terms.Letters.{spelling}
use Rattle.kan_plain.specs.Looking.{is_symbol_of}

or_false : (b : Bool) → (b || false) ≡ b
or_false true = refl
or_false false = refl

-- a symbol stands in a term where its letter is among the term's letters
pub symbol-letters : (tag : ℕ) (t : Tm) → list_any (is_symbol_of tag) (spelling t) ≡ has_symbol tag t
symbol-letters tag (Tree.leaf v) = refl
symbol-letters tag (Tree.sym s) = or_false (eqb tag s)
symbol-letters tag (Tree.str s) = refl
symbol-letters tag (Tree.num n) = refl
symbol-letters tag (Tree.truth b) = refl
symbol-letters tag Tree.nil = refl
symbol-letters tag (Tree.pair a b) =
    list_any-append (is_symbol_of tag) (spelling a) (spelling b) ∙ ap₂ (λ l r. l || r) (symbol-letters tag a) (symbol-letters tag b)
