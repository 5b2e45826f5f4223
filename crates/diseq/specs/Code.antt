-- How disequalities are stored where only clauses read them.
use Rattle.std.specs.Prelude.{List, refl}
use Rattle.std.specs.Coded.{Coded, code_by, coded_list}
use Rattle.kan_terms.specs.Tree.{Tm}
use Rattle.kan_terms.specs.TermCode.{sides_code}
use Rattle.kan_model.specs.Stores.Store.{Equation}
use Rattle.diseq.specs.Disequalities.{Disequality}

-- an equation is stored as its two sides
abbrev pub equation_code : Coded Equation
equation_code =
    code_by (Tm × Tm) sides_code (λ e. (e.left, e.right))
    (λ sides. record { left = sides.0; right = sides.1 }) (λ e. refl)

-- disequalities are stored as lists of equations
abbrev pub diseqs_code : Coded (List Disequality)
diseqs_code = coded_list (coded_list equation_code)
