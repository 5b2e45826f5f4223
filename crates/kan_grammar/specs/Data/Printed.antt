-- What data mean, read as pairs, and the texts that printing gives.
use Rattle.std.specs.Prelude.{ℕ, List, []}
use Rattle.kan_terms.specs.Tree.{Tree, leaf, num, truth, nil, pair}
use Rattle.kan_model.specs.Answers.Text.{print, in_quotes}
use Rattle.kan_terms.specs.Table.{no_names}
use Rattle.kan_grammar.specs.Data.Words.{Atom, symbol, string, number, truth as truth_value}
use Rattle.kan_grammar.specs.Data.Words.{out_of_range, reserved, Prefix, quote, quasiquote, unquote}
use Rattle.kan_grammar.specs.Data.Written.{Written, Within, single, list, prefixed, close, dotted}
use Rattle.kan_grammar.specs.Data.Written.{element}
use lib.Chars.{codes}

-- a symbol by its name, or a string by the text that it means
pub data Label : Type 0 where
  name : List ℕ → Label
  text : List ℕ → Label

-- a tree whose symbols and strings are still their bytes, as leaves
abbrev pub Named : Type 0
Named = Tree Label

-- an atom; those that no datum may be have no name
abbrev pub atom_tree : Atom → Named
atom_tree (symbol s) = leaf (Label.name s)
atom_tree (string s) = leaf (Label.text s)
atom_tree (number n) = num n
atom_tree (truth_value b) = truth b
atom_tree out_of_range = leaf (Label.name [])
atom_tree reserved = leaf (Label.name [])

-- the symbol that a prefix stands for
abbrev pub prefix_name : Prefix → List ℕ
prefix_name quote = codes "quote"
prefix_name quasiquote = codes "quasiquote"
prefix_name unquote = codes "unquote"

-- a datum read as pairs: a list is a pair for each element before the empty list, or before the
-- datum after the dot, and a prefixed datum a list of two
abbrev mutual
  pub pairs : Written → Named
  pairs (single at a) = atom_tree a
  pairs (list at s inner) = pairs_within inner
  pairs (prefixed at p d) = pair (leaf (Label.name (prefix_name p))) (pair (pairs d) nil)

  pub pairs_within : Within → Named
  pairs_within (close at) = nil
  pairs_within (dotted at d end) = pairs d
  pairs_within (element d inner) = pair (pairs d) (pairs_within inner)

-- the text of a label: a string stands in quotation marks
abbrev pub label_text : Label → List ℕ
label_text (Label.name s) = s
label_text (Label.text s) = in_quotes s

-- the text of a datum's tree, whose leaves are its symbols and strings and which has no others
abbrev pub named_text : Named → List ℕ
named_text t = print label_text no_names t

-- the text of a datum
abbrev pub datum_text : Written → List ℕ
datum_text d = named_text (pairs d)
