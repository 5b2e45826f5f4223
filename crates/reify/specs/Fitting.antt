-- Whether the equation of a solved form fits a store's types and absences.
use Rattle.std.specs.Prelude.{ℕ, Bool, true, false, ◌&&◌, not, eqb, Option, Some, None}
use Rattle.std.specs.Prelude.{if◌then◌else◌}
use Rattle.std.specs.List.{list_all}
use Rattle.kan_terms.specs.Tree.{Tree, Tm, has_symbol}
use Rattle.kan_terms.specs.Terms.{tree}
use Rattle.kan_model.specs.Stores.Store.{Store}
use Rattle.kan_model.specs.Stores.Solve as model
use Rattle.kan_model.specs.Stores.Kept.{may_be, is_variable}
use Rattle.kan_model.specs.Stores.Calls.{replacement_of, kind_at, IsFree}
use Rattle.kan_model.specs.Answers.Answer.{has_absence, tags_of}
use Rattle.kan_model.specs.declared.prims.Kind.{Kind}
use Rattle.kan_model.specs.declared.letters.Letter.{Letter}
use Rattle.kan_model.specs.declared.letters.Letter.TheVariants.{Sym}
use Rattle.kan_solving.specs.declared.solving.Replaced.{Replaced}
use Rattle.reify.specs.Typing.{kind_test}

-- a type, where there is one, allows a term
abbrev pub kind_allows : Option Kind → Tm → Bool
kind_allows None t = true
kind_allows (Some kind) t = may_be kind t

-- there aren't two types
abbrev pub kinds_agree : Option Kind → Option Kind → Bool
kinds_agree None other = true
kinds_agree (Some kind) None = true
kinds_agree (Some kind) (Some other) = kind_test kind (Some other)

-- a replaced variable isn't of another type, if it is replaced by x
abbrev pub agrees_at : Store → Option Kind → ℕ → model.Replaced → Bool
agrees_at st kind x q = if is_variable x q.by then kinds_agree kind (kind_at st q.var) else true

-- the type of a replaced variable fits a term: a variable, and all others that it replaces, aren't
-- of another type, and the type allows all else
abbrev pub type_fits : Store → model.Replacement → Option Kind → Tm → Bool
type_fits st form kind (Tree.leaf x) =
    kinds_agree kind (kind_at st x) && list_all (agrees_at st kind x) form
type_fits st form kind t = kind_allows kind t

-- that of a pair of a form
abbrev pub types_fit : Store → model.Replacement → model.Replaced → Bool
types_fit st form p = type_fits st form (kind_at st p.var) p.by

-- no tag of a replaced variable stands in what replaces it
abbrev pub tags_fit : Store → model.Replaced → Bool
tags_fit st p =
    list_all
    (λ tag. not (has_absence (replacement_of st) st.prims tag p.var && has_symbol tag p.by))
    (tags_of st.prims)

-- types and tags of a pair fit
abbrev pub fits_at : Store → model.Replacement → model.Replaced → Bool
fits_at st form p = types_fit st form p && tags_fit st p

-- the equation of a form fits
abbrev pub fits : Store → model.Replacement → Bool
fits st form = list_all (fits_at st form) form

-- a variable stands for itself, if a term is one
abbrev pub IsFreeLeaf : Store → Tm → Type 0
IsFreeLeaf st (Tree.leaf x) = IsFree st x
IsFreeLeaf st t = Unit {0}

-- a pair of a form is over variables that stand for themselves
abbrev pub IsOver : Store → Replaced → Type 0
IsOver st p = IsFree st p.var × IsFreeLeaf st (tree p.by)

-- the letter is this symbol
abbrev pub is_symbol_letter : ℕ → Letter → Bool
is_symbol_letter tag (Sym s) = eqb tag s
is_symbol_letter tag _ = false
