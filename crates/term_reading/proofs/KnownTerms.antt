-- Terms over a table that goes on from another one.
use Rattle.std.proofs.Common.{◌≡◌, ℕ, ◌+◌, ◌<◌, Bool, true, List, [], ◌∷◌, ◌++◌, length, refl, ap, ap₂, ◌∙◌, arith}
use Rattle.std.specs.Prelude.{◌&&◌, nat_lt}
use Rattle.std.specs.List.{list_all}
use Rattle.std.proofs.lemmas.Bool.{and_parts}
use Rattle.std.proofs.lemmas.Bool.Decides.{nat_tests}
use Rattle.std.proofs.lemmas.List.{length-append}
use Rattle.std.proofs.lemmas.List.Folds.{list_all-append}
use Rattle.kan_terms.specs.Table.{Table}
use Rattle.kan_grammar.specs.Texts.TextNames.{GoesOn}
use Rattle.reify.specs.declared.shaping.Shape.{Shape}
use Rattle.reify.specs.declared.shaping.Shape.TheVariants.{Pair, Name, Sym, Str, Num, Truth, Nil}
use Rattle.term_reading.specs.Words.{is_known}

-- what stands in a table stands in one that goes on from it
pub further : (texts more longer : List (List ℕ)) (s : ℕ) → longer ≡ texts ++ more → nat_lt s (length texts) ≡ true → nat_lt s (length longer) ≡ true
further texts more longer s is low =
    let many : length longer ≡ length texts + length more = ap length is ∙ length-append texts more in
    let below : s < length longer = let l : s < length texts = grind (arith, nat_tests) in omega (arith, many, l) in
    grind (arith, nat_tests)

pub known_further : (old new : Table) → GoesOn old new → (x : Shape) → is_known old x ≡ true → is_known new x ≡ true
known_further old new goes (Sym s) h = further old.symbols goes.symbols.0 new.symbols s goes.symbols.1 h
known_further old new goes (Str s) h = further old.strings goes.strings.0 new.strings s goes.strings.1 h
known_further old new goes Pair h = refl
known_further old new goes (Name n) h = refl
known_further old new goes (Num z) h = h
known_further old new goes (Truth b) h = refl
known_further old new goes Nil h = refl

pub all_further : {X : Type 0} (p q : X → Bool) → ((x : X) → p x ≡ true → q x ≡ true) → (xs : List X) → list_all p xs ≡ true → list_all q xs ≡ true
all_further p q so [] h = refl
all_further p q so (x ∷ xs) h = let parts = and_parts (p x) (list_all p xs) h in ap₂ (λ a b. a && b) (so x parts.0) (all_further p q so xs parts.1)

pub terms_further : (old new : Table) → GoesOn old new → (xs : List Shape) → list_all (is_known old) xs ≡ true → list_all (is_known new) xs ≡ true
terms_further old new goes xs h = all_further (is_known old) (is_known new) (known_further old new goes) xs h

-- one more
pub one_known : {X : Type 0} (p : X → Bool) (made grown : List X) (x : X) → grown ≡ made ++ x ∷ [] → list_all p made ≡ true → p x ≡ true → list_all p grown ≡ true
one_known p made grown x is all one = ap (list_all p) is ∙ list_all-append p made (x ∷ []) ∙ ap₂ (λ a b. a && b) all (ap (λ b. b && true) one)
