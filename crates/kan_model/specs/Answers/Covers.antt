-- Instances of an answer: the ground terms that it covers.
use Rattle.std.specs.Prelude.{◌≡◌, Bool, true, ◌&&◌, not, List}
use Rattle.std.specs.List.{list_all}
use Rattle.kan_terms.specs.Tree.{Gd, has_symbol, ground_eq}
use Rattle.kan_terms.specs.Valuations.{value_at, value}
use Rattle.kan_model.specs.Meaning.Holds.{is_symbol, is_number, is_string}
use Rattle.kan_model.specs.Answers.Answer.{NamedPair, Absence, Answer}

-- a pair's name has the value of its term
abbrev pub pair_met : List Gd → NamedPair → Bool
pair_met us p = ground_eq (value_at us p.name) (value us p.by)

-- a disequality is met where some pair isn't
abbrev pub difference_met : List Gd → List NamedPair → Bool
difference_met us ps = not (list_all (pair_met us) ps)

abbrev pub absence_met : List Gd → Absence → Bool
absence_met us a = list_all (λ n. not (has_symbol a.tag (value_at us n))) a.names

-- ground terms for the names of an answer meet its constraints
abbrev pub meets : List Gd → Answer → Bool
meets us a =
    list_all (difference_met us) a.disequalities
    && list_all (λ n. is_number (value_at us n)) a.numbers
    && list_all (λ n. is_symbol (value_at us n)) a.symbols
    && list_all (λ n. is_string (value_at us n)) a.strings
    && list_all (absence_met us) a.absences

-- the answer covers a ground term: ground terms for its names make its term that one, and meet its
-- constraints
abbrev pub Covers : Answer → Gd → Type 0
Covers a u = (us : List Gd) × (value us a.term ≡ u) × (meets us a ≡ true)
