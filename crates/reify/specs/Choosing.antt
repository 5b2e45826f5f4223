-- Which forms are written.
use Rattle.std.specs.Prelude.{Bool, ◌&&◌, not, List}
use Rattle.std.specs.List.{list_any}
use Rattle.kan_terms.specs.Tree.{Tree, term_eq}
use Rattle.kan_model.specs.Stores.Solve.{Replaced, Replacement, apply}
use Rattle.kan_model.specs.Answers.Answer.{implies, same_form}

-- a form makes both sides of a pair identical
abbrev pub made_equal : Replacement → Replaced → Bool
made_equal form p = term_eq (apply form (Tree.leaf p.var)) (apply form p.by)

-- another form implies this one and isn't implied by it
abbrev pub is_stronger : Replacement → Replacement → Bool
is_stronger form other = implies other form && not (implies form other)

-- no form is the same
abbrev pub is_new : List Replacement → Replacement → Bool
is_new forms form = not (list_any (λ other. same_form other form) forms)
