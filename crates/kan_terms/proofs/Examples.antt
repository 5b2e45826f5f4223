-- The definitions, computed on examples.
use Rattle.std.specs.Prelude.{◌≡◌, true, false, [], ◌∷◌, Some, codes, refl}
use Rattle.kan_terms.specs.Tree.{Tree, Tm, Gd, leaves, has_symbol, ground_eq, occurs, size}
use Rattle.kan_terms.specs.Greatest.{greatest_in}
use Rattle.kan_terms.specs.Valuations.{value}
use Rattle.kan_terms.specs.Bound.{bound_to}
use Rattle.kan_terms.specs.Table.{number_of, with_text, no_names, with_symbol, with_string, is_string_text}
use Rattle.kan_terms.specs.Spelling.{spelling}
use Rattle.kan_terms.specs.Reading.{tree_of}
use Rattle.kan_terms.specs.declared.marks.Mark.TheVariants.{Pair, Sym, Nil}

-- the pair of the variables 0 and 1
abbrev two : Tm
two = Tree.pair (Tree.leaf 0) (Tree.leaf 1)

-- the list of the symbol 7 alone
abbrev alone : Gd
alone = Tree.pair (Tree.sym 7) Tree.nil

example-leaves : leaves two ≡ 0 ∷ 1 ∷ []
example-leaves = refl

example-occurs : occurs 2 two ≡ false
example-occurs = refl

example-size : size two ≡ 3
example-size = refl

-- variable 1 has no ground term, so it has nil
example-value : value (alone ∷ []) two ≡ Tree.pair alone Tree.nil
example-value = refl

example-spelling : spelling alone ≡ Pair ∷ Sym 7 ∷ Nil ∷ []
example-spelling = refl

example-tree_of : tree_of (Pair ∷ Sym 7 ∷ Nil ∷ []) ≡ alone
example-tree_of = refl

example-number_of : number_of (codes "cat" ∷ codes "dog" ∷ []) (codes "dog") ≡ Some 1
example-number_of = refl

example-with_text : with_text (codes "cat" ∷ []) (codes "dog") ≡ codes "cat" ∷ codes "dog" ∷ []
example-with_text = refl

-- the newest pair counts
example-bound_to : bound_to 3 ((3, Tree.nil) ∷ (3, two) ∷ []) ≡ Some Tree.nil
example-bound_to = refl

-- a string isn't the symbol of the same text, whatever their numbers
example-string : ground_eq (Tree.str 7) (Tree.sym 7) ≡ false
example-string = refl

example-string_tag : has_symbol {V = ⊥} 7 (Tree.pair (Tree.str 7) Tree.nil) ≡ false
example-string_tag = refl

-- one text as a symbol and as a string
example-tables : with_string (with_symbol no_names (codes "cat")) (codes "cat") ≡ record { symbols = codes "cat" ∷ []; strings = codes "cat" ∷ [] }
example-tables = refl

-- a line feed may stand in a string, a null character may not
example-allowed : is_string_text (codes "é\n") ≡ true
example-allowed = refl

example-refused : is_string_text (0 ∷ []) ≡ false
example-refused = refl

example-greatest : greatest_in two ≡ Some 1
example-greatest = refl
