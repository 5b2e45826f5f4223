-- Terms as they are written: trees whose leaves are uses of variables, and spots of bad shape.
use Rattle.std.specs.Prelude.{ℕ, true, false}
use Rattle.kan_terms.specs.Tree.{Tree}
use Rattle.kan_terms.specs.Table.{Table}
use Rattle.kan_grammar.specs.Texts.Sited.{Sited, constant, is_proper}
use Rattle.kan_grammar.specs.Texts.Language.{Word, head_word}

-- at an offset a variable is used, or a part has a bad shape
pub data Use : Type 0 where
  variable : ℕ → ℕ → Use
  misshapen : ℕ → Use

-- a term as it is written
abbrev pub TermForm : Type 0
TermForm = Tree Use

-- a term of bad shape
abbrev pub bad_term : ℕ → TermForm
bad_term at = Tree.leaf (Use.misshapen at)

-- what is quoted: one part, which stands for itself
abbrev pub quote_form : ℕ → Sited → TermForm
quote_form at (Sited.pair _ d (Sited.nil _)) = constant d
quote_form at _ = bad_term at

-- a symbol is a variable, another atom is itself, and a list is what its head says of the parts
-- after it. A template is a constant but for the terms that are unquoted in it; no other pair of it
-- begins with unquote, and none with quasiquote
abbrev mutual
  pub term_form : Table → Sited → TermForm
  term_form t (Sited.name at s) = Tree.leaf (Use.variable at s)
  term_form t (Sited.text at s) = Tree.str s
  term_form t (Sited.num at n) = Tree.num n
  term_form t (Sited.bool at b) = Tree.truth b
  term_form t (Sited.nil at) = Tree.nil
  term_form t (Sited.pair at head parts) = elim (head_word t head) [
    | Word.quote ↦ quote_form at parts
    | Word.cons ↦ cons_form t at parts
    | Word.list ↦ elim (is_proper parts) [ true ↦ list_form t parts | false ↦ bad_term at ]
    | Word.quasiquote ↦ quasiquote_form t at parts
    | _ ↦ bad_term at
  ]

  -- a pair of two terms
  pub cons_form : Table → ℕ → Sited → TermForm
  cons_form t at (Sited.pair _ a (Sited.pair _ d (Sited.nil _))) =
      Tree.pair (term_form t a) (term_form t d)
  cons_form t at _ = bad_term at

  -- a list of terms
  pub list_form : Table → Sited → TermForm
  list_form t (Sited.pair _ a parts) = Tree.pair (term_form t a) (list_form t parts)
  list_form t _ = Tree.nil

  -- one part, which is a template
  pub quasiquote_form : Table → ℕ → Sited → TermForm
  quasiquote_form t at (Sited.pair _ d (Sited.nil _)) = template_form t d
  quasiquote_form t at _ = bad_term at

  pub template_form : Table → Sited → TermForm
  template_form t (Sited.name at s) = Tree.sym s
  template_form t (Sited.text at s) = Tree.str s
  template_form t (Sited.num at n) = Tree.num n
  template_form t (Sited.bool at b) = Tree.truth b
  template_form t (Sited.nil at) = Tree.nil
  template_form t (Sited.pair at a d) = elim (head_word t a) [
    | Word.unquote ↦ unquote_form t at d
    | Word.quasiquote ↦ bad_term at
    | _ ↦ Tree.pair (template_form t a) (template_form t d)
  ]

  -- one part, which is a term
  pub unquote_form : Table → ℕ → Sited → TermForm
  unquote_form t at (Sited.pair _ u (Sited.nil _)) = term_form t u
  unquote_form t at _ = bad_term at
