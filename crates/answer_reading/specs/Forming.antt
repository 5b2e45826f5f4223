-- Parts in form, as tests on shapes.
use Rattle.std.specs.Prelude.{ℕ, Bool, true, false, ◌&&◌, not, eqb, nat_lt, if◌then◌else◌, suc}
use Rattle.std.specs.Prelude.{List, [], ◌∷◌, ◌++◌, map, Option, Some, None}
use Rattle.std.specs.List.{list_all, list_any}
use Rattle.std.specs.Ordering.{int_eq}
use Rattle.kan_terms.specs.Table.{Table}
use Rattle.kan_terms.specs.Tree.{bool_eq}
use Rattle.kan_model.specs.Answers.Answer as model
use Rattle.kan_model.specs.Answers.AnswerText.{difference_le}
use Rattle.kan_model.specs.Answers.InForm.{absence_in_form, apart, ascends, is_filled}
use Rattle.kan_model.specs.Answers.InForm.{names_in_form, tag_before}
use Rattle.reify.specs.declared.shaping.NamePair.{NamePair}
use Rattle.reify.specs.declared.shaping.Shape.{Shape}
use Rattle.reify.specs.declared.shaping.Shape.TheVariants.{Pair, Name, Sym, Str, Num, Truth, Nil}
use Rattle.reify.specs.Shapes.{all_whole, named_pair, spells}
use Rattle.answer_reading.specs.Finding.{after_shape, is_next, reach, rises}

-- the next number of names, where a shape may come
abbrev pub next_count : ℕ → Shape → Option ℕ
next_count k x = if is_next k x then Some (after_shape k x) else None

-- how many names there are, where they come in order
abbrev pub count_from : ℕ → List Shape → Option ℕ
count_from k xs = if rises k xs then Some (reach k xs) else None

-- a shape is no name from n on
abbrev pub is_below : ℕ → Shape → Bool
is_below n (Name m) = nat_lt m n
is_below n _ = true

abbrev pub is_name : ℕ → Shape → Bool
is_name v (Name m) = eqb v m
is_name v _ = false

-- a name that is a term by itself has the greater number
abbrev pub is_higher : ℕ → List Shape → Bool
is_higher v (Name m ∷ xs) = nat_lt v m
is_higher v _ = true

-- a pair of a disequality over the first n names
abbrev pub is_pair_formed : ℕ → NamePair → Bool
is_pair_formed n p = nat_lt p.name n && list_all (is_below n) p.term && is_higher p.name p.term

-- no term of these pairs has a name
abbrev pub is_free_of : List NamePair → ℕ → Bool
is_free_of ps v = list_all (λ r. not (list_any (is_name v) r.term)) ps

abbrev pub pair_before : NamePair → NamePair → Bool
pair_before p r = nat_lt p.name r.name

abbrev pub is_difference_formed : ℕ → List NamePair → Bool
is_difference_formed n ps =
    is_filled ps && list_all (is_pair_formed n) ps && list_all (λ p. is_free_of ps p.name) ps
    && ascends pair_before ps

-- equal shapes, pairs and disequalities
abbrev pub shape_eq : Shape → Shape → Bool
shape_eq Pair Pair = true
shape_eq (Name m) (Name n) = eqb m n
shape_eq (Sym s) (Sym r) = eqb s r
shape_eq (Str s) (Str r) = eqb s r
shape_eq (Num m) (Num n) = int_eq m n
shape_eq (Truth a) (Truth b) = bool_eq a b
shape_eq Nil Nil = true
shape_eq _ _ = false

abbrev pub shapes_eq : List Shape → List Shape → Bool
shapes_eq [] [] = true
shapes_eq (x ∷ xs) (y ∷ ys) = shape_eq x y && shapes_eq xs ys
shapes_eq _ _ = false

abbrev pub pair_eq : NamePair → NamePair → Bool
pair_eq p r = eqb p.name r.name && shapes_eq p.term r.term

abbrev pub pairs_eq : List NamePair → List NamePair → Bool
pairs_eq [] [] = true
pairs_eq (p ∷ ps) (r ∷ rs) = pair_eq p r && pairs_eq ps rs
pairs_eq _ _ = false

abbrev pub all_different : List (List NamePair) → Bool
all_different [] = true
all_different (d ∷ ds) = not (list_any (pairs_eq d) ds) && all_different ds

-- disequalities by their texts
abbrev pub text_le : Table → List NamePair → List NamePair → Bool
text_le table d e = difference_le table (map named_pair d) (map named_pair e)

abbrev pub are_differences_formed : Table → ℕ → List (List NamePair) → Bool
are_differences_formed table n ds =
    list_all (is_difference_formed n) ds && all_different ds && ascends (text_le table) ds

-- the names of types
abbrev pub are_kinds_formed : ℕ → List ℕ → List ℕ → List ℕ → Bool
are_kinds_formed n numbers symbols strings =
    names_in_form n numbers && names_in_form n symbols && names_in_form n strings
    && apart numbers symbols && apart strings symbols && apart numbers strings

abbrev pub are_absences_formed : Table → ℕ → List ℕ → List ℕ → List model.Absence → Bool
are_absences_formed table n numbers strings absences =
    list_all (absence_in_form n (numbers ++ strings)) absences
    && ascends (tag_before table) absences

-- whole terms
abbrev pub are_whole : List Shape → List (List NamePair) → Bool
are_whole term differences = spells 1 term && list_all all_whole differences

-- how many terms are wanted behind a shape, where so many others were
abbrev pub wanted_after : Shape → ℕ → ℕ
wanted_after Pair n = suc (suc n)
wanted_after _ n = n
