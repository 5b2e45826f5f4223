-- Nothing is open in the tables that are built of a text without faults behind a library without faults.
use Rattle.std.proofs.Common.{◌≡◌, ℕ, List, [], ◌∷◌, ◌++◌, map, length, refl, sym, ◌∙◌, ap, ap₂, Option, Some, None}
use Rattle.std.specs.Prelude.{true, ◌&&◌, nat_lt, slice_get, option_map, Result, Ok, Err}
use Rattle.std.specs.List.{list_all}
use Rattle.std.proofs.lemmas.Bool.{and_from, and_parts}
use Rattle.std.proofs.lemmas.Grind.{flat_map-append}
use Rattle.std.proofs.lemmas.List.Folds.{list_all-append}
use Rattle.std.proofs.lemmas.Option.{slice_get-map}
use Rattle.kan_terms.specs.Table.{Table}
use Rattle.kan_grammar.specs.declared.dialect.Dialect.{Dialect}
use Rattle.kan_grammar.specs.Texts.Sited.{Sited, with_sites}
use Rattle.kan_grammar.specs.Data.Faults as faults
use Rattle.kan_model.specs.Programs.Goals as model
use Rattle.kan_model.specs.Programs.Goals.{Goal}
use Rattle.kan_model.specs.Programs.Calls.{entry_takes}
use Rattle.kan_model.specs.Programs.Nodes.{goal_place}
use Rattle.kan_grammar.specs.Texts.ProgramText.{relations_in, relations_of, queries_of, text_meaning}
use Rattle.kan_model.specs.Programs.Scope.{is_low, takes, calls_there, in_scope, body_in_scope, is_closed}
use Rattle.kan_model.specs.Programs.Tables.{RelationEntry, Tables, goal_at, goals_of, templates_of, program_of, is_grown, are_closed}
use Rattle.kan_grammar.specs.Texts.TextFaults.{faults_of, least, IsAccepted}
use Rattle.kan_grammar.specs.Texts.TopForms.{Defined, form, definitions, definitions_of}
use Rattle.kan_model.specs.declared.nodes.Query.{Query}
use Rattle.kan_model.proofs.Programs.ScopeLaws.{all-calls}
use Rattle.goal_syntax.specs.Building.FormsBuilt.{Means, query_made, relation_made}
use Rattle.goal_syntax.specs.Building.CallsThere.{calls_named, bodies_named, queries_named, all_named, are_there, KeepsClosed}
use Rattle.goal_forms.specs.Heights.{is_low_datum, AreLow}
use Rattle.goal_syntax.specs.Compiling.Compiles.{AreOfText, Compiles, IsAcceptedAlone, TableAfter}
use Rattle.goal_syntax.specs.Compiling.CompiledForms.{CompilesForms}
use Rattle.goal_syntax.specs.declared.refusal.SyntaxError.{SyntaxError}
use Rattle.goal_syntax.specs.declared.refusal.SyntaxError.TheVariants.{Fault, Memory}
use Rattle.goal_syntax.specs.declared.compiler.Compiled.{Compiled}
use Rattle.kan_grammar.specs.Texts.TextNames.{Extends, with_prefixes}
use Rattle.goal_forms.specs.Flattening.{meaning}
use Rattle.goal_forms.proofs.HeightLaws.{text_low}
use Rattle.sexpr.specs.WrittenForms.{written_form}
use Rattle.sexpr.specs.declared.data.Datum.{Datum}
use Rattle.goal_syntax.proofs.Accepted.ClosedLaws.{body_there, query_in_scope, query_there, means_closed}
use Rattle.goal_syntax.proofs.Compiling.CompilingLaws.{empty_tables, nothing_means}

-- a text whose faults have no first one has none
pub no_faults : (fs : List faults.Fault) → least fs ≡ None → fs ≡ []
no_faults [] h = refl
no_faults (f ∷ fs) h = absurd cc

-- calls by the entries of relations are those by the relations that they stand for
named_there : (gs : List Goal) (rows : List RelationEntry) (g : Goal) → calls_named rows g ≡ calls_there (map (relation_made gs) rows) g
named_there gs rows (Goal.prim p) = refl
named_there gs rows Goal.succeed = refl
named_there gs rows Goal.fail = refl
named_there gs rows (Goal.both g h) = ap₂ (λ x y. x && y) (named_there gs rows g) (named_there gs rows h)
named_there gs rows (Goal.either g h) = ap₂ (λ x y. x && y) (named_there gs rows g) (named_there gs rows h)
named_there gs rows (Goal.fresh k g) = named_there gs rows g
named_there gs rows (Goal.later g) = named_there gs rows g
named_there gs rows (Goal.call r args) = by_entry (slice_get rows r) ∙ sym (ap (λ o. takes o (length args)) (slice_get-map (relation_made gs) rows r))
  where
    by_entry : (o : Option RelationEntry) → entry_takes o (length args) ≡ takes (option_map (relation_made gs) o) (length args)
    by_entry None = refl
    by_entry (Some e) = refl

bodies_there : (gs : List Goal) (rows : List RelationEntry) (rs : List model.Relation) → bodies_named rs rows ≡ list_all (body_there (map (relation_made gs) rows)) rs
bodies_there gs rows [] = refl
bodies_there gs rows (r ∷ rs) = ap₂ (λ x y. x && y) (named_there gs rows r.body) (bodies_there gs rows rs)

queries_there : (gs : List Goal) (rows : List RelationEntry) (qs : List model.Query) → queries_named qs rows ≡ list_all (query_there (map (relation_made gs) rows)) qs
queries_there gs rows [] = refl
queries_there gs rows (q ∷ qs) = ap₂ (λ x y. x && y) (named_there gs rows q.goal) (queries_there gs rows qs)

-- the goals of queries by their places
places_there : (n : ℕ) (qs : List Query) → list_all (λ q. nat_lt q.goal n) qs ≡ list_all (λ g. nat_lt g n) (map goal_place qs)
places_there n [] = refl
places_there n (q ∷ qs) = ap (λ b. nat_lt q.goal n && b) (places_there n qs)

places_in_scope : (gs : List Goal) (qs : List Query) → list_all query_in_scope (map (query_made gs) qs) ≡ list_all (in_scope 1) (map (goal_at gs) (map goal_place qs))
places_in_scope gs [] = refl
places_in_scope gs (q ∷ qs) = ap (λ b. in_scope 1 (goal_at gs q.goal) && b) (places_in_scope gs qs)

-- tables that mean relations and queries in which nothing is open, whose templates are low and whose calls are there
closed_tables : (ts : Tables) (qs : List Query) (rs : List model.Relation) (asked : List model.Query) → Means ts qs rs asked → list_all is_low (templates_of ts.terms) ≡ true →
    list_all (calls_there (program_of ts).relations) (goals_of ts) ≡ true → list_all body_in_scope rs ≡ true → list_all query_in_scope asked ≡ true → are_closed ts (map goal_place qs) ≡ true
closed_tables ts qs rs asked means low calls bodies queries =
    let goals = map (goal_at (goals_of ts)) (map goal_place qs) in
    let there = sym (places_there (length ts.goals) qs) ∙ means.goals_there in
    let scoped = sym (places_in_scope (goals_of ts) qs) ∙ ap (list_all query_in_scope) means.queries ∙ queries in
    let fitting = ap (list_all body_in_scope) means.relations ∙ bodies in
    let first = and_from (list_all is_low (templates_of ts.terms)) (list_all (calls_there (program_of ts).relations) (goals_of ts)) low calls in
    let second = and_from (list_all is_low (templates_of ts.terms) && list_all (calls_there (program_of ts).relations) (goals_of ts)) (list_all body_in_scope (program_of ts).relations) first fitting in
    and_from (list_all (λ g. nat_lt g (length ts.goals)) (map goal_place qs)) (is_closed (templates_of ts.terms) (program_of ts) goals) there
    (and_from (list_all is_low (templates_of ts.terms) && list_all (calls_there (program_of ts).relations) (goals_of ts) && list_all body_in_scope (program_of ts).relations) (list_all (in_scope 1) goals) second scoped)

-- nothing is open in what is built of a text
pub all_are_closed : (dialect : Dialect) (t : Table) (ds library forms : List Sited) (rules : List Defined) (start mid last : Tables) (none queries : List Query) →
    rules ≡ definitions t library ++ definitions t forms → start ≡ empty_tables → none ≡ [] →
    ((qs : List Query) → (rs : List model.Relation) → (asked : List model.Query) → Means start qs rs asked → Means mid qs (rs ++ relations_of dialect t rules library) asked) →
    ((rs : List model.Relation) → (asked : List model.Query) → Means mid none rs asked → Means last queries (rs ++ relations_of dialect t rules forms) (asked ++ queries_of dialect t rules forms)) →
    KeepsClosed ds start mid (bodies_named (relations_of dialect t rules library)) → KeepsClosed ds mid last (all_named (relations_of dialect t rules forms) (queries_of dialect t rules forms)) →
    is_grown last ≡ true → AreLow ds → faults_of t [] library ≡ [] → faults_of t library forms ≡ [] → are_closed last (map goal_place queries) ≡ true
unfolding text_meaning
all_are_closed dialect t ds library forms rules start mid last none queries split begins no_queries library_builds text_builds library_kept text_kept grown low alone behind =
    let all : rules ≡ definitions t (library ++ forms) = split ∙ sym (flat_map-append (definitions_of t) library forms) in
    let first : Means start none [] [] = rw (begins, no_queries) nothing_means in
    let rs = relations_of dialect t (definitions t (library ++ forms)) (library ++ forms) in
    let asked = queries_of dialect t (definitions t (library ++ forms)) forms in
    let joined : relations_of dialect t rules library ++ relations_of dialect t rules forms ≡ rs =
    sym (flat_map-append (λ d. relations_in dialect rules (form t d)) library forms) ∙ ap (λ defs. relations_of dialect t defs (library ++ forms)) all in
    let runs : queries_of dialect t rules forms ≡ asked = ap (λ defs. queries_of dialect t defs forms) all in
    let built : Means last queries (relations_of dialect t rules library ++ relations_of dialect t rules forms) (queries_of dialect t rules forms) = text_builds (relations_of dialect t rules library) [] (library_builds none [] [] first) in
    let means : Means last queries rs asked = rw (sym joined, sym runs) built in
    let closed = means_closed dialect t library forms alone behind in
    let templates = text_kept.low low (library_kept.low low (ap (λ (ts : Tables). list_all is_low (templates_of ts.terms)) begins)) in
    let rows = last.relations in
    let made = map (relation_made (goals_of last)) rows in
    let named_bodies : bodies_named rs rows ≡ true = bodies_there (goals_of last) rows rs ∙ ap (λ l. list_all (body_there l) rs) means.relations ∙ closed.bodies_there in
    let named_queries : queries_named asked rows ≡ true = queries_there (goals_of last) rows asked ∙ ap (λ l. list_all (query_there l) asked) means.relations ∙ closed.queries_there in
    let split_bodies = and_parts (bodies_named (relations_of dialect t rules library) rows) (bodies_named (relations_of dialect t rules forms) rows)
    (sym (list_all-append (λ r. calls_named rows r.body) (relations_of dialect t rules library) (relations_of dialect t rules forms)) ∙ ap (λ l. bodies_named l rows) joined ∙ named_bodies) in
    let before : are_there rows mid.goals ≡ true =
    library_kept.called rows ∙ and_from (are_there rows start.goals) (bodies_named (relations_of dialect t rules library) rows) (ap (λ (ts : Tables). are_there rows ts.goals) begins) split_bodies.0 in
    let entries : are_there rows last.goals ≡ true =
    text_kept.called rows ∙ and_from (are_there rows mid.goals) (all_named (relations_of dialect t rules forms) (queries_of dialect t rules forms) rows) before
    (and_from (bodies_named (relations_of dialect t rules forms) rows) (queries_named (queries_of dialect t rules forms) rows) split_bodies.1 (ap (λ l. queries_named l rows) runs ∙ named_queries)) in
    closed_tables last queries rs asked means templates (sym (all-calls last grown) ∙ entries) closed.bodies closed.queries

-- a text's data are low under a table that has the symbols of the prefixes
pub of_text_low : (old new : Table) (ds : List Datum) → new ≡ with_prefixes old → AreOfText (with_prefixes old) ds → AreLow (map (meaning new) ds)
of_text_low old new ds is text =
    let table = with_prefixes old in
    let low : AreLow (map (with_sites table) (map (written_form table) ds)) = text_low table text.bytes (map (written_form table) ds) text.are in
    rw is (ap (list_all is_low_datum) (sym (map_map (with_sites table) (written_form table) ds)) ∙ low)
  where
    map_map : {A B C : Type 0} (f : B → C) (g : A → B) (xs : List A) → map f (map g xs) ≡ map (λ x. f (g x)) xs
    map_map f g [] = refl
    map_map f g (x ∷ xs) = ap (λ l. f (g x) ∷ l) (map_map f g xs)

-- and a library that is accepted by itself is so under it
pub alone_still : (old new : Table) (library : List Datum) → new ≡ with_prefixes old → IsAcceptedAlone (with_prefixes old) library → IsAccepted new [] (map (written_form new) library)
alone_still old new library is alone = rw is (no_faults _ alone.faultless)

-- what the forms of data give is what the data give
pub compiled_of : (dialect : Dialect) (names : Table) (library text : List Datum) (r : Result Compiled SyntaxError) →
    CompilesForms dialect names (map (with_sites names) (map (written_form names) library)) (map (with_sites names) (map (written_form names) text)) r → Compiles dialect names library text r
compiled_of dialect names library text (Ok c) (accepted, is, named, heads) = record {
  accepted = accepted;
  relations = is.relations;
  queries_are = is.queries_are;
  heads = heads;
  closed = is.closed;
  small = is.small;
  room = is.room;
  named = named;
}
compiled_of dialect names library text (Err (Fault at number)) h = h
compiled_of dialect names library text (Err Memory) h = h

-- the table afterwards, where the symbols of the prefixes came to it
pub table_after : (old new : Table) (r : Result Compiled SyntaxError) → new ≡ with_prefixes old → Extends 3 old new → TableAfter old new r
table_after old new (Ok c) is extends = is
table_after old new (Err (Fault at number)) is extends = is
table_after old new (Err Memory) is extends = extends
