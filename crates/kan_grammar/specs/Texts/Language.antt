-- The names of the language.
use Rattle.std.specs.Prelude.{ℕ, Bool, true, false, List, [], ◌∷◌, if◌then◌else◌, bytes_eq}
use Rattle.kan_model.specs.Answers.Text.{symbol_text}
use Rattle.kan_terms.specs.Table.{Table}
use Rattle.kan_grammar.specs.Texts.Sited.{Sited}
use lib.Chars.{codes}

-- a symbol is one of these names, or another
pub data Word : Type 0 where
  defrel : Word
  run : Word
  run_all : Word
  succeed : Word
  fail : Word
  same : Word
  differ : Word
  symbolo : Word
  numbero : Word
  stringo : Word
  absento : Word
  fresh : Word
  conde : Word
  conj : Word
  disj : Word
  conj_two : Word
  disj_two : Word
  quote : Word
  quasiquote : Word
  unquote : Word
  cons : Word
  list : Word
  other : Word

-- a name of the language and its spelling
pub data Spelled : Type 0 where
  spelled : Word → List ℕ → Spelled

-- the names that begin top forms
abbrev pub form_names : List Spelled
form_names =
    spelled Word.defrel (codes "defrel") ∷ spelled Word.run (codes "run")
    ∷ spelled Word.run_all (codes "run*") ∷ []

-- the names that are goals or begin them
abbrev pub goal_names : List Spelled
goal_names =
    spelled Word.succeed (codes "succeed") ∷ spelled Word.fail (codes "fail")
    ∷ spelled Word.fresh (codes "fresh")
    ∷ spelled Word.conde (codes "conde") ∷ spelled Word.conj (codes "conj")
    ∷ spelled Word.disj (codes "disj")
    ∷ spelled Word.conj_two (codes "conj2") ∷ spelled Word.disj_two (codes "disj2") ∷ []

-- the names that begin constraints
abbrev pub constraint_names : List Spelled
constraint_names =
    spelled Word.same (codes "==") ∷ spelled Word.differ (codes "=/=")
    ∷ spelled Word.symbolo (codes "symbolo")
    ∷ spelled Word.numbero (codes "numbero") ∷ spelled Word.stringo (codes "stringo")
    ∷ spelled Word.absento (codes "absento") ∷ []

-- the names that begin terms and parts of templates
abbrev pub term_names : List Spelled
term_names =
    spelled Word.quote (codes "quote") ∷ spelled Word.quasiquote (codes "quasiquote")
    ∷ spelled Word.unquote (codes "unquote")
    ∷ spelled Word.cons (codes "cons") ∷ spelled Word.list (codes "list") ∷ []

-- the name among these that a text is, or else another word
abbrev pub word_among : List Spelled → Word → List ℕ → Word
word_among [] otherwise text = otherwise
word_among (spelled w spelling ∷ more) otherwise text =
    if bytes_eq text spelling then w else word_among more otherwise text

-- the name of the language that a text is
abbrev pub text_word : List ℕ → Word
text_word text =
    word_among form_names
    (word_among goal_names
    (word_among constraint_names (word_among term_names Word.other text) text) text) text

-- the name of the language that a symbol is
unfoldable pub word : Table → ℕ → Word
word table s = text_word (symbol_text table s)

-- the same of a datum, which is one only where it is a symbol
abbrev pub head_word : Table → Sited → Word
head_word table (Sited.name at s) = word table s
head_word table d = Word.other

-- a symbol is no name of the language
abbrev pub is_other : Word → Bool
is_other Word.other = true
is_other w = false
