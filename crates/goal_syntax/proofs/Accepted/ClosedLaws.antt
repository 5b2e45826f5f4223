-- Nothing is open in what texts without faults mean.
use Rattle.std.proofs.Common.{◌≡◌, ℕ, suc, ◌+◌, ◌≤◌, List, [], ◌∷◌, ◌++◌, length, refl, sym, ◌∙◌, ap, ap₂, arith}
use Rattle.std.specs.Prelude.{Bool, true, false, nat_lt, Option, Some, None, if◌then◌else◌}
use Rattle.std.specs.List.{list_all, flat_map}
use Rattle.std.proofs.lemmas.Bool.{lt-ltb, and_from}
use Rattle.std.proofs.lemmas.Grind.{flat_map-append}
use Rattle.std.proofs.lemmas.List.{length-map, map-append}
use Rattle.std.proofs.lemmas.List.Folds.{list_all-append}
use Rattle.kan_terms.specs.Tree.{Tree}
use Rattle.kan_terms.specs.Table.{Table}
use Rattle.kan_grammar.specs.declared.dialect.Dialect.{Dialect}
use Rattle.kan_grammar.specs.Texts.Sited.{Sited, is_proper}
use Rattle.kan_model.specs.Programs.Goals.{Goal, Primitive, Relation, Query}
use Rattle.kan_model.specs.Programs.Scope.{all_below, in_scope, calls_there, body_in_scope}
use Rattle.kan_grammar.specs.Texts.Language.{Word, head_word}
use Rattle.kan_grammar.specs.Texts.Binders.{Checked, binder, binder_faults}
use Rattle.kan_grammar.specs.Texts.GoalForms.{GoalForms, goal_forms}
use Rattle.kan_grammar.specs.Texts.TopForms.{NameAt, Form, relation, run_of_one, run_of_list, misshapen, unknown, head_name, head, no_limit, limit, relation_form, run_form, limited_form, form, Defined, definitions_of, definitions}
use Rattle.kan_grammar.specs.Texts.Resolved.{within, conjunction, suspended_in, goals_in}
use Rattle.kan_grammar.specs.Texts.ProgramText.{slot_list, relations_in, queries_in, relations_of, Meant, text_meaning}
use Rattle.kan_grammar.specs.Texts.TextFaults.{again_faults, goals_faults, form_faults, forms_faults, faults_of}
use Rattle.goal_syntax.proofs.Accepted.InScopeLaws.{none_parts, both_none, conjunction_in_scope, suspended_in_scope, goals_below, within_length}
use Rattle.goal_syntax.proofs.Accepted.CallsLaws.{TakeAs, conjunction_there, suspended_there, goals_there, goals_more}
use Rattle.goal_syntax.proofs.Accepted.DefinedLaws.{form_of_word, relation_params, defined_params, forms_define}

-- what a relation's form has no faults in
relation_parts : (t : Table) (ds before : List Defined) (name : Option NameAt) (params : Checked (List ℕ)) (gs : GoalForms) →
    form_faults t ds before (relation name params gs) ≡ [] → goals_faults ds (within [] params.value) gs ≡ []
relation_parts t ds before name params gs h = (none_parts (again_faults t before name ++ params.faults) (goals_faults ds (within [] params.value) gs) h).1

-- the body of a form without faults uses only the slots of its arguments
form_bodies : (dialect : Dialect) (t : Table) (ds before : List Defined) (f : Form) → form_faults t ds before f ≡ [] → list_all body_in_scope (relations_in dialect ds f) ≡ true
form_bodies dialect t ds before (relation name params gs) h =
    let ns = within [] params.value in
    let inner = conjunction_in_scope (length ns) (goals_in dialect ds ns gs) (goals_below dialect ds ns gs (relation_parts t ds before name params gs h)) in
    and_from (in_scope (length params.value) (conjunction (goals_in dialect ds ns gs))) true
    (ap (λ n. in_scope n (conjunction (goals_in dialect ds ns gs))) (sym (length-map params.value (λ s. Some s))) ∙ inner) refl
form_bodies dialect t ds before (run_of_one l q gs) h = refl
form_bodies dialect t ds before (run_of_list l xs gs) h = refl
form_bodies dialect t ds before (misshapen at) h = refl
form_bodies dialect t ds before (unknown at) h = refl

-- the relations that a body's calls name are there
abbrev pub body_there : List Relation → Relation → Bool
body_there rs r = calls_there rs r.body

form_bodies_there : (dialect : Dialect) (t : Table) (ds before : List Defined) (rs : List Relation) (f : Form) → TakeAs ds rs → form_faults t ds before f ≡ [] → list_all (body_there rs) (relations_in dialect ds f) ≡ true
form_bodies_there dialect t ds before rs (relation name params gs) same h =
    let ns = within [] params.value in
    and_from (calls_there rs (conjunction (goals_in dialect ds ns gs))) true
    (conjunction_there rs (goals_in dialect ds ns gs) (goals_there dialect ds rs ns gs same (relation_parts t ds before name params gs h))) refl
form_bodies_there dialect t ds before rs (run_of_one l q gs) same h = refl
form_bodies_there dialect t ds before rs (run_of_list l xs gs) same h = refl
form_bodies_there dialect t ds before rs (misshapen at) same h = refl
form_bodies_there dialect t ds before rs (unknown at) same h = refl

-- the goal of a run uses only slot 0
abbrev pub query_in_scope : Query → Bool
query_in_scope q = in_scope 1 q.goal

abbrev pub query_there : List Relation → Query → Bool
query_there rs q = calls_there rs q.goal

-- a list of slots that are there
slots_below : (n i : ℕ) (ss : List ℕ) → i + length ss ≤ n → all_below n (slot_list i ss) ≡ true
slots_below n i [] h = refl
slots_below n i (s ∷ ss) h =
    and_from (nat_lt i n) (all_below n (slot_list (suc i) ss)) (lt-ltb i n (omega (arith, h))) (slots_below n (suc i) ss (omega (arith, h)))

-- a run of one name has one
abbrev AsksOne : Form → Type 0
AsksOne (run_of_one l q gs) = length q.value ≡ 1
AsksOne f = Unit {0}

either_asks_one : (b : Bool) (f g : Form) → AsksOne f → AsksOne g → AsksOne (if b then f else g)
either_asks_one true f g h k = h
either_asks_one false f g h k = k

run_asks_one : (t : Table) (at : ℕ) (l : Checked (Option ℕ)) (parts : Sited) → AsksOne (run_form t at l parts)
run_asks_one t at l (Sited.name a s) = tt
run_asks_one t at l (Sited.text a n) = tt
run_asks_one t at l (Sited.num a n) = tt
run_asks_one t at l (Sited.bool a b) = tt
run_asks_one t at l (Sited.nil a) = tt
run_asks_one t at l (Sited.pair a (Sited.name q s) goals) =
    either_asks_one (is_proper goals) (run_of_one l (record { value = s ∷ []; faults = binder_faults t [] (Sited.name q s) }) (goal_forms t goals)) (misshapen at) refl tt
run_asks_one t at l (Sited.pair a (Sited.text q n) goals) = either_asks_one (is_proper goals) (run_of_list l (binder t (Sited.text q n)) (goal_forms t goals)) (misshapen at) tt tt
run_asks_one t at l (Sited.pair a (Sited.num q n) goals) = either_asks_one (is_proper goals) (run_of_list l (binder t (Sited.num q n)) (goal_forms t goals)) (misshapen at) tt tt
run_asks_one t at l (Sited.pair a (Sited.bool q b) goals) = either_asks_one (is_proper goals) (run_of_list l (binder t (Sited.bool q b)) (goal_forms t goals)) (misshapen at) tt tt
run_asks_one t at l (Sited.pair a (Sited.nil q) goals) = either_asks_one (is_proper goals) (run_of_list l (binder t (Sited.nil q)) (goal_forms t goals)) (misshapen at) tt tt
run_asks_one t at l (Sited.pair a (Sited.pair q b c) goals) = either_asks_one (is_proper goals) (run_of_list l (binder t (Sited.pair q b c)) (goal_forms t goals)) (misshapen at) tt tt

limited_asks_one : (t : Table) (at : ℕ) (parts : Sited) → AsksOne (limited_form t at parts)
limited_asks_one t at (Sited.name a s) = tt
limited_asks_one t at (Sited.text a n) = tt
limited_asks_one t at (Sited.num a n) = tt
limited_asks_one t at (Sited.bool a b) = tt
limited_asks_one t at (Sited.nil a) = tt
limited_asks_one t at (Sited.pair a l parts) = run_asks_one t at (limit l) parts

relation_asks_one : (t : Table) (at : ℕ) (parts : Sited) → AsksOne (relation_form t at parts)
relation_asks_one t at (Sited.name a s) = tt
relation_asks_one t at (Sited.text a n) = tt
relation_asks_one t at (Sited.num a n) = tt
relation_asks_one t at (Sited.bool a b) = tt
relation_asks_one t at (Sited.nil a) = tt
relation_asks_one t at (Sited.pair a hd goals) = either_asks_one (is_proper goals) (relation (head_name hd) (head t hd) (goal_forms t goals)) (misshapen at) tt tt

word_asks_one : (t : Table) (at : ℕ) (parts : Sited) (w : Word) → AsksOne (form_of_word t at parts w)
word_asks_one t at parts Word.defrel = relation_asks_one t at parts
word_asks_one t at parts Word.run = limited_asks_one t at parts
word_asks_one t at parts Word.run_all = run_asks_one t at no_limit parts
word_asks_one t at parts w = tt

form_asks_one : (t : Table) (d : Sited) → AsksOne (form t d)
form_asks_one t (Sited.name at s) = tt
form_asks_one t (Sited.text at n) = tt
form_asks_one t (Sited.num at n) = tt
form_asks_one t (Sited.bool at b) = tt
form_asks_one t (Sited.nil at) = tt
form_asks_one t (Sited.pair at w parts) = word_asks_one t at parts (head_word t w)

form_queries : (dialect : Dialect) (t : Table) (ds before : List Defined) (f : Form) → AsksOne f → form_faults t ds before f ≡ [] → list_all query_in_scope (queries_in dialect ds f) ≡ true
form_queries dialect t ds before (relation name params gs) one h = refl
form_queries dialect t ds before (run_of_one l q gs) one h =
    let ns = within [] q.value in
    let below = goals_below dialect ds ns gs (none_parts (l.faults ++ q.faults) (goals_faults ds ns gs) h).1 in
    and_from (in_scope 1 (conjunction (goals_in dialect ds ns gs))) true
    (ap (λ n. in_scope n (conjunction (goals_in dialect ds ns gs))) (sym (length-map q.value (λ s. Some s) ∙ one)) ∙ conjunction_in_scope (length ns) (goals_in dialect ds ns gs) below) refl
form_queries dialect t ds before (run_of_list l xs gs) one h =
    let ns = within (None ∷ []) xs.value in
    let goals = goals_in dialect ds ns gs in
    let equation = Goal.prim (Primitive.same (slot_list 1 xs.value) (Tree.leaf 0)) in
    let below = goals_below dialect ds ns gs (none_parts (l.faults ++ xs.faults) (goals_faults ds ns gs) h).1 in
    let first : nat_lt 0 (1 + length xs.value) ≡ true = lt-ltb 0 (1 + length xs.value) (omega arith) in
    let slots = slots_below (1 + length xs.value) 1 xs.value (omega arith) in
    let all = ap (λ n. list_all (in_scope n) goals) (sym (within_length (None ∷ []) xs.value)) ∙ below in
    let inner = conjunction_in_scope (1 + length xs.value) (equation ∷ goals)
    (and_from (in_scope (1 + length xs.value) equation) (list_all (in_scope (1 + length xs.value)) goals)
    (and_from (all_below (1 + length xs.value) (slot_list 1 xs.value)) (nat_lt 0 (1 + length xs.value)) slots first) all) in
    let fresh = Goal.fresh (length xs.value) (conjunction (equation ∷ goals)) in
    and_from (in_scope 1 (suspended_in dialect fresh)) true (suspended_in_scope dialect 1 fresh inner) refl
form_queries dialect t ds before (misshapen at) one h = refl
form_queries dialect t ds before (unknown at) one h = refl

form_queries_there : (dialect : Dialect) (t : Table) (ds before : List Defined) (rs : List Relation) (f : Form) → TakeAs ds rs → form_faults t ds before f ≡ [] → list_all (query_there rs) (queries_in dialect ds f) ≡ true
form_queries_there dialect t ds before rs (relation name params gs) same h = refl
form_queries_there dialect t ds before rs (run_of_one l q gs) same h =
    let ns = within [] q.value in
    and_from (calls_there rs (conjunction (goals_in dialect ds ns gs))) true
    (conjunction_there rs (goals_in dialect ds ns gs) (goals_there dialect ds rs ns gs same (none_parts (l.faults ++ q.faults) (goals_faults ds ns gs) h).1)) refl
form_queries_there dialect t ds before rs (run_of_list l xs gs) same h =
    let ns = within (None ∷ []) xs.value in
    let equation = Goal.prim (Primitive.same (slot_list 1 xs.value) (Tree.leaf 0)) in
    let all = goals_there dialect ds rs ns gs same (none_parts (l.faults ++ xs.faults) (goals_faults ds ns gs) h).1 in
    let goals = goals_in dialect ds ns gs in
    let fresh = Goal.fresh (length xs.value) (conjunction (equation ∷ goals)) in
    and_from (calls_there rs (suspended_in dialect fresh)) true
    (suspended_there dialect rs fresh (conjunction_there rs (equation ∷ goals) (and_from true (list_all (calls_there rs) goals) refl all))) refl
form_queries_there dialect t ds before rs (misshapen at) same h = refl
form_queries_there dialect t ds before rs (unknown at) same h = refl

-- what forms without faults give passes where what each gives does
forms_pass : {X : Type 0} (p : X → Bool) (f : Sited → List X) (t : Table) (ds : List Defined) → ((before : List Defined) (d : Sited) → form_faults t ds before (form t d) ≡ [] → list_all p (f d) ≡ true) →
    (before : List Defined) (forms : List Sited) → forms_faults t ds before forms ≡ [] → list_all p (flat_map f forms) ≡ true
forms_pass p f t ds each before [] h = refl
forms_pass p f t ds each before (d ∷ later) h =
    let both = none_parts (form_faults t ds before (form t d)) (forms_faults t ds (before ++ definitions_of t d) later) h in
    list_all-append p (f d) (flat_map f later)
    ∙ and_from (list_all p (f d)) (list_all p (flat_map f later)) (each before d both.0) (forms_pass p f t ds each (before ++ definitions_of t d) later both.1)

-- forms without faults have none where more relations are behind
form_more : (t : Table) (ds later before : List Defined) (f : Form) → form_faults t ds before f ≡ [] → form_faults t (ds ++ later) before f ≡ []
form_more t ds later before (relation name params gs) h =
    let ns = within [] params.value in
    let both = none_parts (again_faults t before name ++ params.faults) (goals_faults ds ns gs) h in
    both_none (again_faults t before name ++ params.faults) (goals_faults (ds ++ later) ns gs) both.0 (goals_more ds later ns gs both.1)
form_more t ds later before (run_of_one l q gs) h =
    let ns = within [] q.value in
    let both = none_parts (l.faults ++ q.faults) (goals_faults ds ns gs) h in
    both_none (l.faults ++ q.faults) (goals_faults (ds ++ later) ns gs) both.0 (goals_more ds later ns gs both.1)
form_more t ds later before (run_of_list l xs gs) h =
    let ns = within (None ∷ []) xs.value in
    let both = none_parts (l.faults ++ xs.faults) (goals_faults ds ns gs) h in
    both_none (l.faults ++ xs.faults) (goals_faults (ds ++ later) ns gs) both.0 (goals_more ds later ns gs both.1)
form_more t ds later before (misshapen at) h = h
form_more t ds later before (unknown at) h = h

forms_more : (t : Table) (ds later before : List Defined) (forms : List Sited) → forms_faults t ds before forms ≡ [] → forms_faults t (ds ++ later) before forms ≡ []
forms_more t ds later before [] h = refl
forms_more t ds later before (d ∷ others) h =
    let both = none_parts (form_faults t ds before (form t d)) (forms_faults t ds (before ++ definitions_of t d) others) h in
    both_none (form_faults t (ds ++ later) before (form t d)) (forms_faults t (ds ++ later) (before ++ definitions_of t d) others)
    (form_more t ds later before (form t d) both.0) (forms_more t ds later (before ++ definitions_of t d) others both.1)

-- forms behind those of a library have no faults, nor have those of the library among all relations
pub library_alone : (t : Table) (library text : List Sited) → faults_of t [] library ≡ [] → forms_faults t (definitions t (library ++ text)) [] library ≡ []
unfolding faults_of
library_alone t library text h =
    ap (λ ds. forms_faults t ds [] library) (flat_map-append (definitions_of t) library text) ∙ forms_more t (definitions t library) (definitions t text) [] library h

pub text_behind : (t : Table) (library text : List Sited) → faults_of t library text ≡ [] → forms_faults t (definitions t (library ++ text)) (definitions t library) text ≡ []
unfolding faults_of
text_behind t library text h = h

-- a meaning in which nothing is open: bodies use the slots of their arguments, the goals of runs use slot 0, and calls name relations that are there
pub record MeansClosed (m : Meant) : Type 0 where
  pub bodies : list_all body_in_scope m.relations ≡ true
  pub bodies_there : list_all (body_there m.relations) m.relations ≡ true
  pub queries : list_all query_in_scope m.queries ≡ true
  pub queries_there : list_all (query_there m.relations) m.queries ≡ true

-- a text without faults, behind a library without faults, means so many relations as are defined, with their arguments
pub relations_taken : (dialect : Dialect) (t : Table) (library text : List Sited) → faults_of t [] library ≡ [] → faults_of t library text ≡ [] →
    TakeAs (definitions t (library ++ text)) (relations_of dialect t (definitions t (library ++ text)) (library ++ text))
relations_taken dialect t library text alone behind =
    let ds = definitions t (library ++ text) in
    let one = forms_define dialect t ds [] ds library (library_alone t library text alone) in
    let two = forms_define dialect t ds (definitions t library) ds text (text_behind t library text behind) in
    ap relation_params (flat_map-append (λ d. relations_in dialect ds (form t d)) library text)
    ∙ map-append (λ r. r.params) (relations_of dialect t ds library) (relations_of dialect t ds text) ∙ ap₂ (λ l m. l ++ m) one two
    ∙ sym (map-append (λ d. d.params) (definitions t library) (definitions t text)) ∙ sym (ap defined_params (flat_map-append (definitions_of t) library text))

-- what passes in a library and in the text behind it
both_pass : {X : Type 0} (p : X → Bool) (f : Sited → List X) (library text : List Sited) → list_all p (flat_map f library) ≡ true → list_all p (flat_map f text) ≡ true → list_all p (flat_map f (library ++ text)) ≡ true
both_pass p f library text h k =
    ap (list_all p) (flat_map-append f library text) ∙ list_all-append p (flat_map f library) (flat_map f text) ∙ and_from (list_all p (flat_map f library)) (list_all p (flat_map f text)) h k

-- nothing is open in what a text without faults means, behind a library without faults
pub means_closed : (dialect : Dialect) (t : Table) (library text : List Sited) → faults_of t [] library ≡ [] → faults_of t library text ≡ [] → MeansClosed (text_meaning dialect t library text)
unfolding text_meaning
means_closed dialect t library text alone behind =
    let ds = definitions t (library ++ text) in
    let rs = relations_of dialect t ds (library ++ text) in
    let same = relations_taken dialect t library text alone behind in
    let one = library_alone t library text alone in
    let two = text_behind t library text behind in record {
      bodies = both_pass body_in_scope (λ d. relations_in dialect ds (form t d)) library text
          (forms_pass body_in_scope (λ d. relations_in dialect ds (form t d)) t ds (λ before d h. form_bodies dialect t ds before (form t d) h) [] library one)
          (forms_pass body_in_scope (λ d. relations_in dialect ds (form t d)) t ds (λ before d h. form_bodies dialect t ds before (form t d) h) (definitions t library) text two);
      bodies_there = both_pass (body_there rs) (λ d. relations_in dialect ds (form t d)) library text
          (forms_pass (body_there rs) (λ d. relations_in dialect ds (form t d)) t ds (λ before d h. form_bodies_there dialect t ds before rs (form t d) same h) [] library one)
          (forms_pass (body_there rs) (λ d. relations_in dialect ds (form t d)) t ds (λ before d h. form_bodies_there dialect t ds before rs (form t d) same h) (definitions t library) text two);
      queries = forms_pass query_in_scope (λ d. queries_in dialect ds (form t d)) t ds (λ before d h. form_queries dialect t ds before (form t d) (form_asks_one t d) h) (definitions t library) text two;
      queries_there = forms_pass (query_there rs) (λ d. queries_in dialect ds (form t d)) t ds (λ before d h. form_queries_there dialect t ds before rs (form t d) same h) (definitions t library) text two;
    }
