-- The text of terms, where leaves have a text and a table has the texts of symbols and strings.
use Rattle.std.specs.Prelude.{ℕ, Bool, true, false, eqb, List, [], ◌∷◌, ◌++◌, unwrap_or, codes}
use Rattle.std.specs.Prelude.{if◌then◌else◌}
use Rattle.std.specs.List.{flat_map}
use Rattle.kan_terms.specs.Tree.{Tree, Tm}
use Rattle.kan_terms.specs.Table.{Table, name_of}
use Rattle.kan_model.specs.Answers.Decimals.{decimal_text, number_text}

abbrev pub symbol_text : Table → ℕ → List ℕ
symbol_text table s = unwrap_or (name_of table.symbols s) []

-- a byte inside a string: five have a spelling of two
abbrev pub string_byte_text : ℕ → List ℕ
string_byte_text b =
    if eqb b 34
    then codes "\\\"" else (if eqb b 92 then codes "\\\\" else (if eqb b 10 then codes "\\n"
    else (if eqb b 9 then codes "\\t" else (if eqb b 13 then codes "\\r" else b ∷ []))))

-- a text as a string is printed: between quotation marks
abbrev pub in_quotes : List ℕ → List ℕ
in_quotes text = 34 ∷ flat_map string_byte_text text ++ 34 ∷ []

abbrev pub string_text : Table → ℕ → List ℕ
string_text table s = in_quotes (unwrap_or (name_of table.strings s) [])

abbrev pub truth_text : Bool → List ℕ
truth_text true = codes "#t"
truth_text false = codes "#f"

-- a name is printed as its number behind an underscore
abbrev pub name_text : ℕ → List ℕ
name_text i = 95 ∷ decimal_text i

abbrev mutual
  -- a tree is printed as its constant, its leaf, or its elements in parentheses
  pub print : {V : Type 0} → (V → List ℕ) → Table → Tree V → List ℕ
  print leaf_text table (Tree.leaf v) = leaf_text v
  print leaf_text table (Tree.sym s) = symbol_text table s
  print leaf_text table (Tree.str s) = string_text table s
  print leaf_text table (Tree.num n) = number_text n
  print leaf_text table (Tree.truth b) = truth_text b
  print leaf_text table Tree.nil = codes "()"
  print leaf_text table (Tree.pair a b) =
      40 ∷ print leaf_text table a ++ print_rest leaf_text table b ++ 41 ∷ []

  -- what follows an element: nothing, a space and the next element, or a dot and the last part
  pub print_rest : {V : Type 0} → (V → List ℕ) → Table → Tree V → List ℕ
  print_rest leaf_text table (Tree.leaf v) = codes " . " ++ leaf_text v
  print_rest leaf_text table (Tree.sym s) = codes " . " ++ symbol_text table s
  print_rest leaf_text table (Tree.str s) = codes " . " ++ string_text table s
  print_rest leaf_text table (Tree.num n) = codes " . " ++ number_text n
  print_rest leaf_text table (Tree.truth b) = codes " . " ++ truth_text b
  print_rest leaf_text table Tree.nil = []
  print_rest leaf_text table (Tree.pair a b) =
      32 ∷ print leaf_text table a ++ print_rest leaf_text table b

-- the text of a term over names
abbrev pub term_text : Table → Tm → List ℕ
term_text = print name_text

-- texts with a space between each two
abbrev pub with_spaces : List (List ℕ) → List ℕ
with_spaces [] = []
with_spaces (t ∷ []) = t
with_spaces (t ∷ u ∷ us) = t ++ 32 ∷ with_spaces (u ∷ us)
