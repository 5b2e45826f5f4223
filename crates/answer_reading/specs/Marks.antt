-- The marks of ground terms, and the ground terms of names as lists of marks.
use Rattle.std.specs.Prelude.{ℕ, zero, suc, Bool, true, false, ◌&&◌, not, eqb, if◌then◌else◌, List}
use Rattle.std.specs.Prelude.{[], ◌∷◌, ◌++◌, length, map, take, slice_get, unwrap_or}
use Rattle.std.specs.List.{flat_map, list_all, list_any}
use Rattle.std.specs.Ordering.{int_eq}
use Rattle.std.specs.Borrow.{Bor}
use Rattle.kan_terms.specs.Tree.{bool_eq}
use Rattle.kan_terms.specs.declared.marks.Mark.{Mark}
use Rattle.kan_terms.specs.declared.marks.Mark.TheVariants as marks
use Rattle.kan_model.specs.declared.prims.Kind.{Kind}
use Rattle.kan_model.specs.declared.prims.Kind.TheVariants as kinds
use Rattle.reify.specs.declared.shaping.Shape.{Shape}
use Rattle.reify.specs.declared.shaping.Shape.TheVariants as shapes
use Rattle.reify.specs.Shapes.{spelling}
use Rattle.kan_model.specs.Answers.Answer as model

-- how many whole terms are wanted after a mark, where so many were after it
abbrev pub wanted_after : Mark → ℕ → ℕ
wanted_after marks.Pair n = suc (suc n)
wanted_after (marks.Sym s) n = n
wanted_after (marks.Str s) n = n
wanted_after (marks.Num z) n = n
wanted_after (marks.Truth b) n = n
wanted_after marks.Nil n = n

-- how many marks spell so many whole terms
abbrev pub whole_length : ℕ → List Mark → ℕ
whole_length zero ms = 0
whole_length (suc n) [] = 0
whole_length (suc n) (m ∷ ms) = suc (whole_length (wanted_after m n) ms)

-- two marks are the same
abbrev pub mark_eq : Mark → Mark → Bool
mark_eq marks.Pair marks.Pair = true
mark_eq (marks.Sym s) (marks.Sym r) = eqb s r
mark_eq (marks.Str s) (marks.Str r) = eqb s r
mark_eq (marks.Num m) (marks.Num n) = int_eq m n
mark_eq (marks.Truth a) (marks.Truth b) = bool_eq a b
mark_eq marks.Nil marks.Nil = true
mark_eq _ _ = false

abbrev pub marks_eq : List Mark → List Mark → Bool
marks_eq [] [] = true
marks_eq (x ∷ xs) (y ∷ ys) = mark_eq x y && marks_eq xs ys
marks_eq _ _ = false

-- lists of marks that are lent
abbrev pub lent_lists : List (Bor (List Mark)) → List (List Mark)
lent_lists = map (λ lent. lent.now)

-- the marks of a name, and none past the end
abbrev pub marks_at : List (List Mark) → ℕ → List Mark
marks_at vs n = unwrap_or (slice_get vs n) []

-- the marks of a node: those of the ground term of its name, or its own
abbrev pub node_marks : List (List Mark) → Shape → List Mark
node_marks vs shapes.Pair = marks.Pair ∷ []
node_marks vs (shapes.Name n) = marks_at vs n
node_marks vs (shapes.Sym s) = marks.Sym s ∷ []
node_marks vs (shapes.Str s) = marks.Str s ∷ []
node_marks vs (shapes.Num n) = marks.Num n ∷ []
node_marks vs (shapes.Truth b) = marks.Truth b ∷ []
node_marks vs shapes.Nil = marks.Nil ∷ []

-- and those of a term
abbrev pub term_marks : List (List Mark) → List Shape → List Mark
term_marks vs = flat_map (node_marks vs)

-- how many marks a node takes: a name those of one whole term, any other node one
abbrev pub node_length : Shape → List Mark → ℕ
node_length (shapes.Name n) ms = whole_length 1 ms
node_length shapes.Pair ms = 1
node_length (shapes.Sym s) ms = 1
node_length (shapes.Str s) ms = 1
node_length (shapes.Num n) ms = 1
node_length (shapes.Truth b) ms = 1
node_length shapes.Nil ms = 1

-- the marks of names with those that a node gives: a new name takes those of one whole term
abbrev pub with_node : List (List Mark) → Shape → List Mark → List (List Mark)
with_node vs (shapes.Name n) ms =
    if eqb n (length vs) then vs ++ take (whole_length 1 ms) ms ∷ [] else vs
with_node vs shapes.Pair ms = vs
with_node vs (shapes.Sym s) ms = vs
with_node vs (shapes.Str s) ms = vs
with_node vs (shapes.Num n) ms = vs
with_node vs (shapes.Truth b) ms = vs
with_node vs shapes.Nil ms = vs

-- marks are those of a term of a type
abbrev pub begins : Kind → List Mark → Bool
begins kinds.Symbol (marks.Sym s ∷ ms) = true
begins kinds.Number (marks.Num n ∷ ms) = true
begins kinds.Text (marks.Str s ∷ ms) = true
begins _ _ = false

abbrev pub is_tag : ℕ → Mark → Bool
is_tag tag (marks.Sym s) = eqb tag s
is_tag tag _ = false

-- the constraints, where names have these marks
abbrev pub pair_met : List (List Mark) → model.NamedPair → Bool
pair_met vs p = marks_eq (marks_at vs p.name) (term_marks vs (spelling p.by))

abbrev pub difference_met : List (List Mark) → List model.NamedPair → Bool
difference_met vs ps = not (list_all (pair_met vs) ps)

abbrev pub type_met : List (List Mark) → Kind → ℕ → Bool
type_met vs kind n = begins kind (marks_at vs n)

abbrev pub tag_met : List (List Mark) → ℕ → ℕ → Bool
tag_met vs tag n = not (list_any (is_tag tag) (marks_at vs n))

abbrev pub absence_met : List (List Mark) → model.Absence → Bool
absence_met vs kept = list_all (tag_met vs kept.tag) kept.names

abbrev pub all_met : List (List Mark) → model.Answer → Bool
all_met vs a =
    list_all (difference_met vs) a.disequalities && list_all (type_met vs kinds.Number) a.numbers
    && list_all (type_met vs kinds.Symbol) a.symbols
    && list_all (type_met vs kinds.Text) a.strings && list_all (absence_met vs) a.absences

-- the term has these marks, and all constraints are met
abbrev pub covers : List (List Mark) → model.Answer → List Mark → Bool
covers vs a ms = marks_eq (term_marks vs (spelling a.term)) ms && all_met vs a
