-- Ground terms are of one type alone, and variables of a term that lies below a number do so too.
use Rattle.std.proofs.Common.{◌≡◌, ℕ, ◌<◌, true, Some, inl, inr, sym, subst}
use Rattle.std.proofs.lemmas.Bool.{and_parts, or_cases, ltb-true, eqb-true}
use Rattle.kan_terms.specs.Tree.{Tree, Tm, Gd, occurs}
use Rattle.kan_model.specs.Meaning.Holds.{is_symbol, is_number, is_string}
use Rattle.kan_model.specs.Programs.Scope.{all_below}
use Rattle.kan_model.specs.declared.prims.Kind.TheVariants.{Symbol, Number, Text}
use Rattle.pull_bounds.proofs.KeptStores.{one_type}

-- a ground term is of one type alone
pub symbol_or_number : (g : Gd) → is_symbol g ≡ true → is_number g ≡ true → ⊥
symbol_or_number g e d = let same : Some Symbol ≡ Some Number = one_type Symbol Number g e d in cc

pub symbol_or_string : (g : Gd) → is_symbol g ≡ true → is_string g ≡ true → ⊥
symbol_or_string g e d = let same : Some Symbol ≡ Some Text = one_type Symbol Text g e d in cc

pub string_or_number : (g : Gd) → is_string g ≡ true → is_number g ≡ true → ⊥
string_or_number g e d = let same : Some Text ≡ Some Number = one_type Text Number g e d in cc

-- a variable in a term whose variables lie below a number does so itself
pub below_occurs : (n v : ℕ) (t : Tm) → all_below n t ≡ true → occurs v t ≡ true → v < n
below_occurs n v (Tree.leaf w) h e = subst (λ x. x < n) (sym (eqb-true v w e)) (ltb-true w n h)
below_occurs n v (Tree.sym s) h e = cc
below_occurs n v (Tree.str s) h e = cc
below_occurs n v (Tree.num m) h e = cc
below_occurs n v (Tree.truth b) h e = cc
below_occurs n v Tree.nil h e = cc
below_occurs n v (Tree.pair a b) h e =
    let (first, rest) = and_parts (all_below n a) (all_below n b) h in
    elim (or_cases (occurs v a) (occurs v b) e) [ inl here ↦ below_occurs n v a first here | inr there ↦ below_occurs n v b rest there ]
