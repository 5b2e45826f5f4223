-- The answer of a store: the query's term with its variables named, and what is left of the
-- constraints.
use Rattle.std.specs.Prelude.{◌≡◌, ℕ, suc, ◌+◌, Bool, true, false, ◌&&◌, not, nat_lt, eqb, List}
use Rattle.std.specs.Prelude.{[], ◌∷◌, ◌++◌, length, map, filter, Option, Some, None, if◌then◌else◌}
use Rattle.std.specs.List.{list_all, list_any}
use Rattle.kan_terms.specs.Tree.{Tree, Tm, fill, leaves, occurs, term_eq}
use Rattle.kan_terms.specs.Table.{Table}
use Rattle.kan_model.specs.Programs.Goals.{Primitive}
use Rattle.kan_model.specs.Stores.Store.{Store}
use Rattle.kan_model.specs.Stores.Solve.{Replaced, Replacement, apply, solve_by}
use Rattle.kan_model.specs.Stores.Kept.{is_kept, has_type}
use Rattle.kan_model.specs.declared.prims.Kind.TheVariants.{Number, Text}
use Rattle.kan_model.specs.Answers.Order.{bytes_le, in_order, each_once, place_of, stands_in}
use Rattle.kan_model.specs.Answers.Text.{symbol_text}

-- a pair of a disequality over names: a name, and the term that would make it false
pub record NamedPair : Type 0 where
  pub name : ℕ
  pub by : Tm

-- the names in which a tag must not stand
pub record Absence : Type 0 where
  pub tag : ℕ
  pub names : List ℕ

pub record Answer : Type 0 where
  pub term : Tm
  pub disequalities : List (List NamedPair)
  pub numbers : List ℕ
  pub symbols : List ℕ
  pub strings : List ℕ
  pub absences : List Absence

-- the variables that have names, in the order of their names: that of their first occurrence in the
-- term
abbrev pub named_variables : Tm → List ℕ
named_variables t = each_once eqb (leaves t)

-- a term with its variables named
abbrev pub in_names : List ℕ → Tm → Tm
in_names vs = fill (λ v. Tree.leaf (place_of vs v))

-- variables in order: the named ones by their names, and behind them all others
abbrev pub rank : List ℕ → ℕ → ℕ
rank vs v = if stands_in vs v then place_of vs v else length vs + v

abbrev pub ranks_lower : List ℕ → ℕ → ℕ → Bool
ranks_lower vs x y = nat_lt (rank vs x) (rank vs y)

-- the solved form of a disequality: what would make its sides identical, of two variables the lower
-- one replaced
abbrev pub solved_form : List ℕ → Replacement → Tm → Tm → Option Replacement
solved_form vs s a b =
    solve_by (ranks_lower vs) (record { left = apply s a; right = apply s b } ∷ [])

-- a form in the order of the replaced variables
abbrev pub in_rank : List ℕ → Replacement → Replacement
in_rank vs = in_order (λ p q. not (ranks_lower vs q.var p.var))

-- the form mentions named variables alone
abbrev pub all_named : List ℕ → Replacement → Bool
all_named vs = list_all (λ p. stands_in vs p.var && list_all (stands_in vs) (leaves p.by))

-- the primitives that aren't disequalities
abbrev pub is_no_difference : Primitive Tm → Bool
is_no_difference (Primitive.differ a b) = false
is_no_difference _ = true

-- the two sides can be equal in the store, disequalities aside
abbrev pub can_be_equal : Store → Tm → Tm → Bool
can_be_equal st a b =
    is_kept (record {
      prims = filter is_no_difference st.prims ++ Primitive.same a b ∷ [];
      counter = st.counter;
    })

-- a form that may be written: it is over names, and its equation isn't excluded by the rest of the
-- store
abbrev pub if_written : Bool → Replacement → List Replacement → List Replacement
if_written true form forms = form ∷ forms
if_written false form forms = forms

abbrev pub and_form : List ℕ → Store → Tm → Tm → Option Replacement → List Replacement →
    List Replacement
and_form vs st a b None forms = forms
and_form vs st a b (Some form) forms =
    if_written (all_named vs form && can_be_equal st a b) (in_rank vs form) forms

-- the forms of a store's disequalities, without those that can't be false any more, that mention
-- others than names, or that the rest excludes
abbrev pub forms_of : List ℕ → Store → Replacement → List (Primitive Tm) → List Replacement
forms_of vs st s [] = []
forms_of vs st s (Primitive.differ a b ∷ ps) =
    and_form vs st a b (solved_form vs s a b) (forms_of vs st s ps)
forms_of vs st s (p ∷ ps) = forms_of vs st s ps

-- the first disequality implies the second: where the second is false, the first one is
abbrev pub implies : Replacement → Replacement → Bool
implies form other = list_all (λ p. term_eq (apply other (Tree.leaf p.var)) (apply other p.by)) form

-- another form implies this one and isn't implied by it
abbrev pub is_weaker : List Replacement → Replacement → Bool
is_weaker forms form = list_any (λ other. implies other form && not (implies form other)) forms

abbrev pub same_pair : Replaced → Replaced → Bool
same_pair p q = eqb p.var q.var && term_eq p.by q.by

abbrev pub same_form : Replacement → Replacement → Bool
same_form [] [] = true
same_form (p ∷ ps) (q ∷ qs) = same_pair p q && same_form ps qs
same_form _ _ = false

-- the strongest forms, each once
abbrev pub strongest : List Replacement → List Replacement
strongest forms = each_once same_form (filter (λ form. not (is_weaker forms form)) forms)

abbrev pub form_in_names : List ℕ → Replacement → List NamedPair
form_in_names vs = map (λ p. record { name = place_of vs p.var; by = in_names vs p.by })

-- the names of the variables that pass a test
abbrev pub names_where : (ℕ → Bool) → ℕ → List ℕ → List ℕ
names_where test n [] = []
names_where test n (v ∷ vs) =
    if test v then n ∷ names_where test (suc n) vs else names_where test (suc n) vs

-- a primitive keeps a tag out of a variable under the answer
abbrev pub keeps_out : Replacement → ℕ → ℕ → Primitive Tm → Bool
keeps_out s tag v (Primitive.absent t a) = eqb tag t && occurs v (apply s a)
keeps_out s tag v _ = false

abbrev pub has_absence : Replacement → List (Primitive Tm) → ℕ → ℕ → Bool
has_absence s ps tag v = list_any (keeps_out s tag v) ps

abbrev pub tags_of : List (Primitive Tm) → List ℕ
tags_of [] = []
tags_of (Primitive.absent tag a ∷ ps) = tag ∷ tags_of ps
tags_of (p ∷ ps) = tags_of ps

-- all tags whose absence a store asks for have names in a table
abbrev pub HasNames : Table → Store → Type 0
HasNames table st = list_all (λ tag. nat_lt tag (length table.symbols)) (tags_of st.prims) ≡ true

-- a variable may have a tag in it: it is no number and no string
abbrev pub may_have_tag : Replacement → List (Primitive Tm) → ℕ → Bool
may_have_tag s ps v = not (has_type Number s ps v) && not (has_type Text s ps v)

-- a tag with the names in which it must not stand, but for those in which it can't
abbrev pub absence_of : List ℕ → Replacement → List (Primitive Tm) → ℕ → Absence
absence_of vs s ps tag =
    record {
      tag = tag;
      names = names_where (λ v. has_absence s ps tag v && may_have_tag s ps v) 0 vs;
    }

abbrev pub has_names : Absence → Bool
has_names a = nat_lt 0 (length a.names)

abbrev pub tag_le : Table → Absence → Absence → Bool
tag_le table a b = bytes_le (symbol_text table a.tag) (symbol_text table b.tag)

abbrev pub absences_of : Table → List ℕ → Replacement → List (Primitive Tm) → List Absence
absences_of table vs s ps =
    in_order (tag_le table)
    (filter has_names (map (absence_of vs s ps) (each_once eqb (tags_of ps))))
