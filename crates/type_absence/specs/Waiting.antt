-- The steps of putting tags on the variables of a term.
use Rattle.std.specs.Prelude.{◌≡◌, ℕ, Bool, true, false, eqb, List, if◌then◌else◌}
use Rattle.kan_terms.specs.Tree.{Tree, Tm, occurs}
use Rattle.type_absence.specs.Tags.{is_listed, with_tags, has_any}
use Rattle.type_absence.specs.Absent.{TagsOf}

-- a term is one of the symbols
abbrev pub names_one : List ℕ → Tm → Bool
names_one symbols (Tree.sym s) = is_listed s symbols
names_one symbols t = false

-- a variable gets tags, and no other term does
abbrev pub put_on : List ℕ → Tm → TagsOf → TagsOf
put_on more (Tree.leaf x) old = λ v. if eqb v x then with_tags more (old v) else old v
put_on more t old = old

-- one of the tags stands in a term, or all variables of the term got them
abbrev pub Tagged : TagsOf → List ℕ → Tm → Bool → TagsOf → Type 0
Tagged old more t true new = has_any more t ≡ true
Tagged old more t false new =
    (has_any more t ≡ false)
    × ((v : ℕ) → new v ≡ (if occurs v t then with_tags more (old v) else old v))
