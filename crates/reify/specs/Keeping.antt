-- The forms that are written for the disequalities of a store.
use Rattle.std.specs.Prelude.{ℕ, Bool, true, ◌&&◌, List, [], ◌∷◌, ◌++◌, Option, Some, None, map}
use Rattle.std.specs.Prelude.{if◌then◌else◌}
use Rattle.std.specs.Global.{Vec}
use Rattle.std.specs.List.{list_all}
use Rattle.std.specs.Option.{option_to_list}
use Rattle.kan_terms.specs.Tree.{leaves}
use Rattle.kan_model.specs.Stores.Store.{Store, Equation}
use Rattle.kan_model.specs.Stores.Solve as model
use Rattle.kan_model.specs.Stores.Composition.{apply_sides}
use Rattle.kan_model.specs.Stores.Calls.{replacement_of}
use Rattle.kan_model.specs.Answers.Order.{stands_in}
use Rattle.kan_model.specs.Answers.Answer.{all_named, in_rank, ranks_lower}
use Rattle.kan_model.specs.declared.letters.Letter.{Letter}
use Rattle.kan_model.specs.declared.letters.Letter.TheVariants.{Var}
use Rattle.kan_solving.specs.declared.solving.Replaced.{Replaced}
use Rattle.kan_solving.specs.Solving.{replaced_by}
use Rattle.reify.specs.Fitting.{fits}

-- the form that a list of the code is
abbrev pub form_of : Vec Replaced → model.Replacement
form_of form = map replaced_by form.items

-- a letter isn't one of an unnamed variable
abbrev pub letter_named : List ℕ → Letter → Bool
letter_named vs (Var v) = stands_in vs v
letter_named vs _ = true

-- a pair of a form is over named variables
abbrev pub is_named : List ℕ → model.Replaced → Bool
is_named vs p = stands_in vs p.var && list_all (stands_in vs) (leaves p.by)

-- a form in order, where it may be written
abbrev pub form_kept : List ℕ → Store → model.Replacement → Option model.Replacement
form_kept vs st form = if all_named vs form && fits st form then Some (in_rank vs form) else None

-- that of what the solver answers
abbrev pub answer_kept : List ℕ → Store → Option model.Replacement → Option model.Replacement
answer_kept vs st None = None
answer_kept vs st (Some form) = form_kept vs st form

-- the forms of lists of equations
abbrev pub forms_meant : List ℕ → Store → List (List Equation) → List model.Replacement
forms_meant vs st [] = []
forms_meant vs st (es ∷ lists) =
    option_to_list
    (answer_kept vs st (model.solve_by (ranks_lower vs) (map (apply_sides (replacement_of st)) es)))
    ++ forms_meant vs st lists
