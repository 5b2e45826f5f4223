-- Data as trees of pairs, where each part has its offset, and symbols and strings are numbers of a
-- table of names.
use Rattle.std.specs.Prelude.{ℕ, ℤ, Bool, List, [], ◌∷◌, Option, Some, None, is_some, length}
use Rattle.std.specs.Prelude.{unwrap_or, option_map}
use Rattle.kan_terms.specs.Tree.{Tree}
use Rattle.kan_terms.specs.Table.{Table, number_of}
use Rattle.kan_grammar.specs.Data.Words.{Atom, symbol, string, number, truth, out_of_range}
use Rattle.kan_grammar.specs.Data.Words.{reserved}
use Rattle.kan_grammar.specs.Data.Written.{Written, Within, single, list, prefixed, close, dotted}
use Rattle.kan_grammar.specs.Data.Written.{element}
use Rattle.kan_grammar.specs.Data.Printed.{prefix_name}

-- a datum read as pairs; each pair of a list, and its end, has the list's offset
pub data Sited : Type 0 where
  name : ℕ → ℕ → Sited
  text : ℕ → ℕ → Sited
  num : ℕ → ℤ → Sited
  bool : ℕ → Bool → Sited
  nil : ℕ → Sited
  pair : ℕ → Sited → Sited → Sited

-- the offset of a datum
abbrev pub site : Sited → ℕ
site (Sited.name at s) = at
site (Sited.text at s) = at
site (Sited.num at n) = at
site (Sited.bool at b) = at
site (Sited.nil at) = at
site (Sited.pair at a d) = at

-- the number of a symbol, and of a string; one that the table lacks has none of its numbers
abbrev pub symbol_number : Table → List ℕ → ℕ
symbol_number table s = unwrap_or (number_of table.symbols s) (length table.symbols)

abbrev pub string_number : Table → List ℕ → ℕ
string_number table s = unwrap_or (number_of table.strings s) (length table.strings)

-- an atom at an offset; those that no datum may be stand for nothing
abbrev pub atom_with_site : Table → ℕ → Atom → Sited
atom_with_site table at (symbol s) = Sited.name at (symbol_number table s)
atom_with_site table at (string s) = Sited.text at (string_number table s)
atom_with_site table at (number n) = Sited.num at n
atom_with_site table at (truth b) = Sited.bool at b
atom_with_site table at out_of_range = Sited.nil at
atom_with_site table at reserved = Sited.nil at

-- a datum as it is written; a prefixed one is a list of two, which begins at the prefix, as the
-- symbol does that the prefix stands for
abbrev mutual
  pub with_sites : Table → Written → Sited
  with_sites table (single at a) = atom_with_site table at a
  with_sites table (list at s inner) = within_sites table at inner
  with_sites table (prefixed at p d) =
      Sited.pair at (Sited.name at (symbol_number table (prefix_name p)))
      (Sited.pair at (with_sites table d) (Sited.nil at))

  pub within_sites : Table → ℕ → Within → Sited
  within_sites table at (close end) = Sited.nil at
  within_sites table at (dotted point d end) = with_sites table d
  within_sites table at (element d inner) =
      Sited.pair at (with_sites table d) (within_sites table at inner)

-- the datum as a constant: all its symbols and strings stand for themselves
abbrev pub constant : {V : Type 0} → Sited → Tree V
constant (Sited.name at s) = Tree.sym s
constant (Sited.text at s) = Tree.str s
constant (Sited.num at n) = Tree.num n
constant (Sited.bool at b) = Tree.truth b
constant (Sited.nil at) = Tree.nil
constant (Sited.pair at a d) = Tree.pair (constant a) (constant d)

-- the elements of a proper list
abbrev pub elements : Sited → Option (List Sited)
elements (Sited.nil at) = Some []
elements (Sited.pair at a d) = option_map (λ rest. a ∷ rest) (elements d)
elements (Sited.name at s) = None
elements (Sited.text at s) = None
elements (Sited.num at n) = None
elements (Sited.bool at b) = None

-- a proper list
abbrev pub is_proper : Sited → Bool
is_proper d = is_some (elements d)

-- how many elements a proper list has
abbrev pub count : Sited → Option ℕ
count d = option_map length (elements d)

-- the first part of a pair
abbrev pub first : Sited → Sited
first (Sited.pair at a d) = a
first d = d

-- the part of a pair after its first
abbrev pub rest : Sited → Sited
rest (Sited.pair at a d) = d
rest d = d
