-- The parts of the answer.
use Rattle.std.proofs.Common.{◌≡◌, ℕ, Bool, true, List, [], ◌∷◌, ◌++◌, map, eqb, ap, ap₂, ◌∙◌, refl}
use Rattle.std.specs.Prelude.{◌&&◌, nat_lt}
use Rattle.std.specs.List.{list_all}
use Rattle.std.proofs.lemmas.Bool.{and_parts}
use Rattle.kan_model.specs.Programs.Scope.{all_below}
use Rattle.kan_model.specs.Answers.InForm.{absence_in_form, all_different, apart, ascends, counts_up, difference_in_form, in_form, is_filled, is_replaced, name_before, name_count, names_in_form, pair_in_form, replaces_lower, tag_before}
use Rattle.reify.specs.OverNames.{is_over_names, names_below, pair_below}
use Rattle.kan_terms.specs.Tree.{Tm}
use Rattle.kan_terms.specs.Table.{Table}
use Rattle.kan_model.specs.Stores.Store.{Store}
use Rattle.kan_model.specs.Stores.Solve.{image}
use Rattle.kan_model.specs.Stores.Kept.{has_type}
use Rattle.kan_model.specs.Stores.Calls.{replacement_of}
use Rattle.kan_model.specs.Terms.Letters as letters_of
use Rattle.kan_model.specs.declared.letters.Letter.{Letter}
use Rattle.kan_model.specs.declared.prims.Kind.TheVariants.{Symbol, Number, Text}
use Rattle.kan_model.specs.Answers.Order.{each_once, in_order}
use Rattle.kan_model.specs.Answers.Answer as model
use Rattle.kan_model.specs.Answers.AnswerText.{answer_of, answer_under, difference_le}
use Rattle.reify.specs.Naming.{variables_of}
use Rattle.reify.proofs.NamingLaws.{variables_of-spelling}

-- the variables that were named
pub naming_is : (u : Tm) (letters lent : List Letter) (vs : List ℕ) → letters ≡ letters_of.spelling u → lent ≡ letters → vs ≡ each_once eqb (variables_of lent) → vs ≡ model.named_variables u
naming_is u letters lent vs spelled same named = named ∙ ap (λ l. each_once eqb (variables_of l)) (same ∙ spelled) ∙ ap (each_once eqb) (variables_of-spelling u)

abbrev pub answer_with : Tm → List (List model.NamedPair) → List ℕ → List ℕ → List ℕ → List model.Absence → model.Answer
answer_with t ds ns ss ts as_ = record { term = t; disequalities = ds; numbers = ns; symbols = ss; strings = ts; absences = as_ }

-- the answer of its parts
pub answer_is : (table : Table) (st : Store) (vs : List ℕ) (t : Tm) (ds : List (List model.NamedPair)) (ns ss ts : List ℕ) (absences : List model.Absence) →
    vs ≡ model.named_variables (image (replacement_of st) 0) → t ≡ model.in_names vs (image (replacement_of st) 0) →
    ds ≡ in_order (difference_le table) (map (model.form_in_names vs) (model.strongest (model.forms_of vs st (replacement_of st) st.prims))) →
    ns ≡ model.names_where (has_type Number (replacement_of st) st.prims) 0 vs → ss ≡ model.names_where (has_type Symbol (replacement_of st) st.prims) 0 vs →
    ts ≡ model.names_where (has_type Text (replacement_of st) st.prims) 0 vs → absences ≡ model.absences_of table vs (replacement_of st) st.prims →
    answer_with t ds ns ss ts absences ≡ answer_of table st
answer_is table st vs t ds ns ss ts absences named term differences numbers symbols strings kept =
    (λ i. answer_with (term i) (differences i) (numbers i) (symbols i) (strings i) (kept i)) ∙ ap (answer_under table st (replacement_of st)) named

-- an answer in form is over the names of its term
all_imply : {X : Type 0} (p q : X → Bool) → ((x : X) → p x ≡ true → q x ≡ true) → (xs : List X) → list_all p xs ≡ true → list_all q xs ≡ true
all_imply p q so [] h = refl
all_imply p q so (x ∷ xs) h = let parts = and_parts (p x) (list_all p xs) h in ap₂ (λ a b. a && b) (so x parts.0) (all_imply p q so xs parts.1)

pair_over : (n : ℕ) (p : model.NamedPair) → pair_in_form n p ≡ true → pair_below n p ≡ true
pair_over n p h = (and_parts (nat_lt p.name n && all_below n p.by) (replaces_lower p.name p.by) h).0

difference_over : (n : ℕ) (ps : List model.NamedPair) → difference_in_form n ps ≡ true → list_all (pair_below n) ps ≡ true
difference_over n ps h =
    let one = and_parts (is_filled ps && list_all (pair_in_form n) ps && list_all (is_replaced ps) ps) (ascends name_before ps) h in
    let two = and_parts (is_filled ps && list_all (pair_in_form n) ps) (list_all (is_replaced ps) ps) one.0 in
    let three = and_parts (is_filled ps) (list_all (pair_in_form n) ps) two.0 in
    all_imply (pair_in_form n) (pair_below n) (pair_over n) ps three.1

names_over : (n : ℕ) (ns : List ℕ) → names_in_form n ns ≡ true → names_below n ns ≡ true
names_over n ns h = (and_parts (names_below n ns) (ascends nat_lt ns) h).0

absence_over : (n : ℕ) (others : List ℕ) (kept : model.Absence) → absence_in_form n others kept ≡ true → names_below n kept.names ≡ true
absence_over n others kept h =
    let one = and_parts (is_filled kept.names && names_in_form n kept.names) (apart kept.names others) h in
    names_over n kept.names (and_parts (is_filled kept.names) (names_in_form n kept.names) one.0).1

pub form_over : (table : Table) (a : model.Answer) → in_form table a ≡ true → is_over_names a ≡ true
form_over table a h =
    let n : ℕ = name_count a in
    let c1 : Bool = counts_up 0 (model.named_variables a.term) in
    let c2 : Bool = c1 && list_all (difference_in_form n) a.disequalities in
    let c3 : Bool = c2 && all_different a.disequalities in
    let c4 : Bool = c3 && ascends (difference_le table) a.disequalities in
    let c5 : Bool = c4 && names_in_form n a.numbers in
    let c6 : Bool = c5 && names_in_form n a.symbols in
    let c7 : Bool = c6 && names_in_form n a.strings in
    let c8 : Bool = c7 && apart a.numbers a.symbols in
    let c9 : Bool = c8 && apart a.strings a.symbols in
    let c10 : Bool = c9 && apart a.numbers a.strings in
    let c11 : Bool = c10 && list_all (absence_in_form n (a.numbers ++ a.strings)) a.absences in
    let h11 = and_parts c11 (ascends (tag_before table) a.absences) h in
    let h10 = and_parts c10 (list_all (absence_in_form n (a.numbers ++ a.strings)) a.absences) h11.0 in
    let h9 = and_parts c9 (apart a.numbers a.strings) h10.0 in
    let h8 = and_parts c8 (apart a.strings a.symbols) h9.0 in
    let h7 = and_parts c7 (apart a.numbers a.symbols) h8.0 in
    let h6 = and_parts c6 (names_in_form n a.strings) h7.0 in
    let h5 = and_parts c5 (names_in_form n a.symbols) h6.0 in
    let h4 = and_parts c4 (names_in_form n a.numbers) h5.0 in
    let h3 = and_parts c3 (ascends (difference_le table) a.disequalities) h4.0 in
    let h2 = and_parts c2 (all_different a.disequalities) h3.0 in
    let h1 = and_parts c1 (list_all (difference_in_form n) a.disequalities) h2.0 in
    ap₂ (λ x y. x && y) h1.0 (ap₂ (λ x y. x && y) (ap₂ (λ x y. x && y) (ap₂ (λ x y. x && y) (ap₂ (λ x y. x && y)
    (all_imply (difference_in_form n) (list_all (pair_below n)) (difference_over n) a.disequalities h1.1)
    (names_over n a.numbers h4.1)) (names_over n a.symbols h5.1)) (names_over n a.strings h6.1))
    (all_imply (absence_in_form n (a.numbers ++ a.strings)) (λ kept. names_below n kept.names) (absence_over n (a.numbers ++ a.strings)) a.absences h10.1))

pub over_holds : (table : Table) (a b : model.Answer) → a ≡ b → in_form table b ≡ true → is_over_names a ≡ true
over_holds table a b same form = ap is_over_names same ∙ form_over table b form
