-- The names of an answer: those of its term, from 0 on, and no others in its constraints.
use Rattle.std.specs.Prelude.{ℕ, Bool, ◌&&◌, nat_lt, List}
use Rattle.std.specs.List.{list_all}
use Rattle.kan_model.specs.Programs.Scope.{all_below}
use Rattle.kan_model.specs.Answers.Answer as model
use Rattle.kan_model.specs.Answers.Answer.{named_variables}
use Rattle.kan_model.specs.Answers.InForm.{counts_up, name_count}
use Rattle.reify.specs.declared.answers.Absence.{Absence}

-- a tag with its names
abbrev pub absence : Absence → model.Absence
absence kept = record { tag = kept.tag; names = kept.names.items }

-- a pair, and a list of names, over the first n names
abbrev pub pair_below : ℕ → model.NamedPair → Bool
pair_below n p = nat_lt p.name n && all_below n p.by

abbrev pub names_below : ℕ → List ℕ → Bool
names_below n = list_all (λ v. nat_lt v n)

-- constraints over the first n names
abbrev pub constraints_below : ℕ → model.Answer → Bool
constraints_below n a =
    list_all (list_all (pair_below n)) a.disequalities && names_below n a.numbers
    && names_below n a.symbols && names_below n a.strings
    && list_all (λ kept. names_below n kept.names) a.absences

-- the names of the term come in order, and the constraints have no others
abbrev pub is_over_names : model.Answer → Bool
is_over_names a = counts_up 0 (named_variables a.term) && constraints_below (name_count a) a
