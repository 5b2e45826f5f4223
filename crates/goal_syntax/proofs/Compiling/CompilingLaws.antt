-- The relations and the runs of top forms, as they are built one after the other, and the widths of goals.
use Rattle.std.proofs.Common.{◌≡◌, ℕ, ◌+◌, ◌<◌, List, [], ◌∷◌, ◌++◌, length, map, take, get_or, refl, sym, ◌∙◌, ap, append_assoc, append-nil}
use Rattle.std.specs.Prelude.{true}
use Rattle.std.specs.List.{flat_map}
use Rattle.std.proofs.lemmas.Grind.{flat_map-append}
use Rattle.kan_terms.specs.Table.{Table}
use Rattle.kan_grammar.specs.declared.dialect.Dialect.{Dialect}
use Rattle.kan_grammar.specs.Texts.Sited.{Sited}
use Rattle.kan_model.specs.Programs.Goals as model
use Rattle.kan_grammar.specs.Texts.ProgramText.{relations_in, relations_of, queries_in, queries_of, text_meaning}
use Rattle.kan_model.specs.Programs.Scope.{is_small}
use Rattle.kan_model.specs.Programs.Nodes.{goal_place}
use Rattle.kan_model.specs.Programs.Closed as programs
use Rattle.kan_model.specs.declared.program.Program.{Program}
use Rattle.kan_model.specs.Programs.Tables.{Tables, goals_of, are_closed}
use Rattle.kan_grammar.specs.Texts.TopForms.{Defined, form, definitions, definitions_of}
use Rattle.kan_model.specs.declared.nodes.Query.{Query}
use Rattle.goal_syntax.specs.Building.FormsBuilt.{AddsNames, Means, entry_names, names_in, query_made, relation_made, relation_names}
use Rattle.goal_syntax.specs.Compiling.CompiledForms.{IsMeant}
use Rattle.goal_syntax.specs.Building.GrownTables.{HasRoom}
use Rattle.goal_forms.specs.Parts.{site_at}
use Rattle.goal_syntax.proofs.Building.PlaceLaws.{sites_next}

abbrev pub empty_tables : Tables
empty_tables = record { terms = []; arguments = []; goals = []; relations = [] }

-- nothing is meant by empty tables
pub nothing_means : Means empty_tables [] [] []
nothing_means = record { relations = refl; queries = refl; bodies_there = refl; goals_there = refl }

-- what the first of some places give, and the next one
pub flat_next : {X : Type 0} (f : Sited → List X) (ds : List Sited) (forms : List ℕ) (i : ℕ) → i < length forms →
    flat_map f (map (site_at ds) (take (i + 1) forms)) ≡ flat_map f (map (site_at ds) (take i forms)) ++ f (site_at ds (get_or forms i 0))
flat_next f ds forms i here =
    ap (flat_map f) (sites_next ds forms i here)
    ∙ flat_map-append f (map (site_at ds) (take i forms)) (site_at ds (get_or forms i 0) ∷ [])
    ∙ ap (λ l. flat_map f (map (site_at ds) (take i forms)) ++ l) (append-nil (f (site_at ds (get_or forms i 0))))

-- a form of a library adds its relation
pub library_means : (dialect : Dialect) (t : Table) (rules : List Defined) (ds : List Sited) (forms : List ℕ) (i : ℕ) (ts us vs : Tables) → i < length forms →
    ((qs : List Query) → (rs : List model.Relation) → (asked : List model.Query) → Means ts qs rs asked → Means us qs (rs ++ relations_of dialect t rules (map (site_at ds) (take i forms))) asked) →
    ((qs : List Query) → (rs : List model.Relation) → (asked : List model.Query) → Means us qs rs asked → Means vs qs (rs ++ relations_in dialect rules (form t (site_at ds (get_or forms i 0)))) asked) →
    (qs : List Query) (rs : List model.Relation) (asked : List model.Query) → Means ts qs rs asked → Means vs qs (rs ++ relations_of dialect t rules (map (site_at ds) (take (i + 1) forms))) asked
library_means dialect t rules ds forms i ts us vs here before step qs rs asked means =
    let so_far : List model.Relation = relations_of dialect t rules (map (site_at ds) (take i forms)) in
    let all : rs ++ relations_of dialect t rules (map (site_at ds) (take (i + 1) forms)) ≡ (rs ++ so_far) ++ relations_in dialect rules (form t (site_at ds (get_or forms i 0))) =
    ap (λ l. rs ++ l) (flat_next (λ d. relations_in dialect rules (form t d)) ds forms i here) ∙ sym (append_assoc rs so_far (relations_in dialect rules (form t (site_at ds (get_or forms i 0))))) in
    rw all (step qs (rs ++ so_far) asked (before qs rs asked means))

-- a form of a text adds its relation or its run
pub text_means : (dialect : Dialect) (t : Table) (rules : List Defined) (ds : List Sited) (forms : List ℕ) (i : ℕ) (ts us vs : Tables) (old qs new : List Query) → i < length forms →
    ((rs : List model.Relation) → (asked : List model.Query) → Means ts old rs asked → Means us qs (rs ++ relations_of dialect t rules (map (site_at ds) (take i forms))) (asked ++ queries_of dialect t rules (map (site_at ds) (take i forms)))) →
    ((rs : List model.Relation) → (asked : List model.Query) → Means us qs rs asked → Means vs new (rs ++ relations_in dialect rules (form t (site_at ds (get_or forms i 0)))) (asked ++ queries_in dialect rules (form t (site_at ds (get_or forms i 0))))) →
    (rs : List model.Relation) (asked : List model.Query) → Means ts old rs asked →
    Means vs new (rs ++ relations_of dialect t rules (map (site_at ds) (take (i + 1) forms))) (asked ++ queries_of dialect t rules (map (site_at ds) (take (i + 1) forms)))
text_means dialect t rules ds forms i ts us vs old qs new here before step rs asked means =
    let so_far : List model.Relation = relations_of dialect t rules (map (site_at ds) (take i forms)) in
    let runs : List model.Query = queries_of dialect t rules (map (site_at ds) (take i forms)) in
    let all : rs ++ relations_of dialect t rules (map (site_at ds) (take (i + 1) forms)) ≡ (rs ++ so_far) ++ relations_in dialect rules (form t (site_at ds (get_or forms i 0))) =
    ap (λ l. rs ++ l) (flat_next (λ d. relations_in dialect rules (form t d)) ds forms i here) ∙ sym (append_assoc rs so_far (relations_in dialect rules (form t (site_at ds (get_or forms i 0))))) in
    let all_runs : asked ++ queries_of dialect t rules (map (site_at ds) (take (i + 1) forms)) ≡ (asked ++ runs) ++ queries_in dialect rules (form t (site_at ds (get_or forms i 0))) =
    ap (λ l. asked ++ l) (flat_next (λ d. queries_in dialect rules (form t d)) ds forms i here) ∙ sym (append_assoc asked runs (queries_in dialect rules (form t (site_at ds (get_or forms i 0))))) in
    rw (all, all_runs) (step (rs ++ so_far) (asked ++ runs) (before rs asked means))

-- the names of the first of some forms, and of the next one
pub names_next : (t : Table) (ds : List Sited) (forms : List ℕ) (i : ℕ) (ts us vs : Tables) → i < length forms → AddsNames ts us (relation_names t (map (site_at ds) (take i forms))) →
    AddsNames us vs (names_in (form t (site_at ds (get_or forms i 0)))) → AddsNames ts vs (relation_names t (map (site_at ds) (take (i + 1) forms)))
names_next t ds forms i ts us vs here before next =
    next ∙ ap (λ l. l ++ names_in (form t (site_at ds (get_or forms i 0)))) before ∙ append_assoc (entry_names ts) (relation_names t (map (site_at ds) (take i forms))) (names_in (form t (site_at ds (get_or forms i 0))))
    ∙ ap (λ l. entry_names ts ++ l) (sym (flat_next (λ d. names_in (form t d)) ds forms i here))

-- the names of a library's relations and of a text's
pub names_both : (t : Table) (library forms : List Sited) (start mid last made : Tables) → start ≡ empty_tables → AddsNames start mid (relation_names t library) → AddsNames mid last (relation_names t forms) → made ≡ last →
    entry_names made ≡ relation_names t (library ++ forms)
names_both t library forms start mid last made begins first second same =
    ap entry_names same ∙ second ∙ ap (λ l. l ++ relation_names t forms) (first ∙ ap (λ (ts : Tables). entry_names ts ++ relation_names t library) begins) ∙ sym (flat_map-append (λ d. names_in (form t d)) library forms)

-- the program and the runs that were built of a text are those that are meant
pub program_meant : (dialect : Dialect) (t : Table) (library forms : List Sited) (rules : List Defined) (start mid last : Tables) (program : Program) (none queries closed_with : List Query) →
    rules ≡ definitions t library ++ definitions t forms → start ≡ empty_tables → none ≡ [] →
    ((qs : List Query) → (rs : List model.Relation) → (asked : List model.Query) → Means start qs rs asked → Means mid qs (rs ++ relations_of dialect t rules library) asked) →
    ((rs : List model.Relation) → (asked : List model.Query) → Means mid none rs asked → Means last queries (rs ++ relations_of dialect t rules forms) (asked ++ queries_of dialect t rules forms)) →
    programs.tables program ≡ last → closed_with ≡ queries → are_closed last (map goal_place queries) ≡ true → is_small (programs.meaning program) ≡ true → HasRoom last →
    IsMeant (text_meaning dialect t library forms) program closed_with
unfolding text_meaning
program_meant dialect t library forms rules start mid last program none queries closed_with split begins no_queries library_builds text_builds same given closed small room =
    let all : rules ≡ definitions t (library ++ forms) = split ∙ sym (flat_map-append (definitions_of t) library forms) in
    let first : Means start none [] [] = rw (begins, no_queries) nothing_means in
    let means : Means last queries (relations_of dialect t rules library ++ relations_of dialect t rules forms) (queries_of dialect t rules forms) = text_builds (relations_of dialect t rules library) [] (library_builds none [] [] first) in
    let joined : relations_of dialect t rules library ++ relations_of dialect t rules forms ≡ relations_of dialect t (definitions t (library ++ forms)) (library ++ forms) =
    sym (flat_map-append (λ d. relations_in dialect rules (form t d)) library forms) ∙ ap (λ ds. relations_of dialect t ds (library ++ forms)) all in
    let runs : queries_of dialect t rules forms ≡ queries_of dialect t (definitions t (library ++ forms)) forms = ap (λ ds. queries_of dialect t ds forms) all in
    rw given (record {
      relations = ap (λ (ts : Tables). map (relation_made (goals_of ts)) ts.relations) same ∙ means.relations ∙ joined;
      queries_are = ap (λ ts. map (query_made (goals_of ts)) queries) same ∙ means.queries ∙ runs;
      closed = ap (λ ts. are_closed ts (map goal_place queries)) same ∙ closed;
      small = small;
      room = rw same room;
    })
