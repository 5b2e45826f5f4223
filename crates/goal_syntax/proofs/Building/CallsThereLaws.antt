-- What is built keeps templates low, and its calls are there where those of the text are.
use Rattle.std.proofs.Common.{◌≡◌, ℕ, ◌+◌, ◌<◌, ◌≤◌, List, [], ◌∷◌, length, map, take, get_or, refl, sym, ◌∙◌, ap, ap₂, arith}
use Rattle.std.specs.Prelude.{Bool, true, false, ◌&&◌, None}
use Rattle.std.specs.List.{list_all}
use Rattle.std.proofs.lemmas.List.Folds.{list_all-append}
use Rattle.kan_terms.specs.Table.{Table}
use Rattle.kan_model.specs.Programs.Goals.{Goal}
use Rattle.kan_model.specs.Programs.Scope.{is_low}
use Rattle.kan_grammar.specs.declared.dialect.Dialect.{Dialect}
use Rattle.kan_grammar.specs.declared.dialect.Dialect.TheVariants.{Book, All}
use Rattle.kan_grammar.specs.Texts.Sited.{Sited}
use Rattle.kan_grammar.specs.Texts.Binders.{binder}
use Rattle.kan_grammar.specs.Texts.ProgramText.{relations_in, relations_of, queries_in, queries_of}
use Rattle.kan_grammar.specs.Texts.Resolved.{Names, conjunction, goals_in, suspended_in, within}
use Rattle.kan_grammar.specs.Texts.GoalForms.{GoalForms}
use Rattle.kan_model.specs.Programs.Tables.{RelationEntry, Tables, templates_of}
use Rattle.kan_grammar.specs.Texts.TopForms.{Defined, form}
use Rattle.goal_syntax.specs.Building.FormsBuilt.{asked_equation, asked_fresh}
use Rattle.goal_syntax.specs.Building.CallsThere.{calls_named, bodies_named, queries_named, all_named, are_there, KeepsClosed}
use Rattle.goal_syntax.specs.Building.TemplateHeights.{KeepsLow}
use Rattle.goal_forms.specs.Parts.{site_at}
use Rattle.goal_syntax.proofs.Building.TermHeightLaws.{low_on, low_same}
use Rattle.goal_syntax.proofs.Compiling.CompilingLaws.{flat_next}
use Rattle.goal_forms.proofs.HeightLaws.{binder_high, site_low}

and_assoc : (x y z : Bool) → ((x && y) && z) ≡ (x && (y && z))
and_assoc false y z = refl
and_assoc true y z = refl

pub and_true : (x : Bool) → (x && true) ≡ x
and_true false = refl
and_true true = refl

and_four : (x r q s p : Bool) → ((x && (r && q)) && (s && p)) ≡ (x && ((r && s) && (q && p)))
and_four false r q s p = refl
and_four true false q s p = refl
and_four true true true s p = refl
and_four true true false true p = refl
and_four true true false false p = refl

-- what is built first and what is built then
pub closed_on : (ds : List Sited) (ts us vs : Tables) (p q : List RelationEntry → Bool) → KeepsClosed ds ts us p → KeepsClosed ds us vs q → KeepsClosed ds ts vs (λ rows. p rows && q rows)
closed_on ds ts us vs p q first next = record {
  low = low_on ds ts us vs first.low next.low;
  called = λ rows. next.called rows ∙ ap (λ b. b && q rows) (first.called rows) ∙ and_assoc (are_there rows ts.goals) (p rows) (q rows);
}

-- a test that says the same
pub closed_as : (ds : List Sited) (ts us : Tables) (p q : List RelationEntry → Bool) → ((rows : List RelationEntry) → p rows ≡ q rows) → KeepsClosed ds ts us p → KeepsClosed ds ts us q
closed_as ds ts us p q same kept = record { low = kept.low; called = λ rows. kept.called rows ∙ ap (λ b. are_there rows ts.goals && b) (same rows) }

-- goals behind an equation have its calls
pub behind_equation : (rows : List RelationEntry) (names : List ℕ) (gs : List Goal) → calls_named rows (conjunction gs) ≡ calls_named rows (conjunction (asked_equation names ∷ gs))
behind_equation rows names [] = refl
behind_equation rows names (g ∷ gs) = refl

-- the goal of a run over a list of names
pub list_closed : (ds : List Sited) (t : Table) (place : ℕ) (names : List ℕ) (goals : List Goal) (ts us vs ws : Tables) → names ≡ (binder t (site_at ds place)).value →
    (length names ≤ 2048 → list_all is_low (templates_of ts.terms) ≡ true → list_all is_low (templates_of us.terms) ≡ true) → ((rows : List RelationEntry) → are_there rows us.goals ≡ are_there rows ts.goals) →
    KeepsClosed ds us vs (λ rows. calls_named rows (conjunction goals)) → ws.terms ≡ vs.terms → ((rows : List RelationEntry) → are_there rows ws.goals ≡ (are_there rows vs.goals && true)) →
    KeepsClosed ds ts ws (λ rows. calls_named rows (conjunction (asked_equation names ∷ goals)))
list_closed ds t place names goals ts us vs ws bound low same kept terms called = record {
  low = λ data_low there.
      let high = binder_high t (site_at ds place) in
      let site = site_low ds place data_low in
      let size : length names ≡ length (binder t (site_at ds place)).value = ap length bound in
      low_same ds vs ws terms data_low (kept.low data_low (low (omega (arith, high, site, size)) there));
  called = λ rows.
      called rows ∙ and_true (are_there rows vs.goals) ∙ kept.called rows ∙ ap (λ b. b && calls_named rows (conjunction goals)) (same rows)
      ∙ ap (λ b. are_there rows ts.goals && b) (behind_equation rows names goals);
}

-- what the first of some forms give, and the next one
bodies_next : (dialect : Dialect) (t : Table) (rules : List Defined) (ds : List Sited) (forms : List ℕ) (i : ℕ) (rows : List RelationEntry) → i < length forms →
    bodies_named (relations_of dialect t rules (map (site_at ds) (take (i + 1) forms))) rows
    ≡ (bodies_named (relations_of dialect t rules (map (site_at ds) (take i forms))) rows && bodies_named (relations_in dialect rules (form t (site_at ds (get_or forms i 0)))) rows)
bodies_next dialect t rules ds forms i rows here =
    ap (λ rs. bodies_named rs rows) (flat_next (λ d. relations_in dialect rules (form t d)) ds forms i here)
    ∙ list_all-append (λ r. calls_named rows r.body) (relations_of dialect t rules (map (site_at ds) (take i forms))) (relations_in dialect rules (form t (site_at ds (get_or forms i 0))))

queries_next : (dialect : Dialect) (t : Table) (rules : List Defined) (ds : List Sited) (forms : List ℕ) (i : ℕ) (rows : List RelationEntry) → i < length forms →
    queries_named (queries_of dialect t rules (map (site_at ds) (take (i + 1) forms))) rows
    ≡ (queries_named (queries_of dialect t rules (map (site_at ds) (take i forms))) rows && queries_named (queries_in dialect rules (form t (site_at ds (get_or forms i 0)))) rows)
queries_next dialect t rules ds forms i rows here =
    ap (λ qs. queries_named qs rows) (flat_next (λ d. queries_in dialect rules (form t d)) ds forms i here)
    ∙ list_all-append (λ q. calls_named rows q.goal) (queries_of dialect t rules (map (site_at ds) (take i forms))) (queries_in dialect rules (form t (site_at ds (get_or forms i 0))))

pub library_closed : (dialect : Dialect) (t : Table) (rules : List Defined) (ds : List Sited) (forms : List ℕ) (i : ℕ) (ts us vs : Tables) → i < length forms →
    KeepsClosed ds ts us (bodies_named (relations_of dialect t rules (map (site_at ds) (take i forms)))) → KeepsClosed ds us vs (bodies_named (relations_in dialect rules (form t (site_at ds (get_or forms i 0))))) →
    KeepsClosed ds ts vs (bodies_named (relations_of dialect t rules (map (site_at ds) (take (i + 1) forms))))
library_closed dialect t rules ds forms i ts us vs here before next =
    let first = bodies_named (relations_of dialect t rules (map (site_at ds) (take i forms))) in
    let second = bodies_named (relations_in dialect rules (form t (site_at ds (get_or forms i 0)))) in
    closed_as ds ts vs (λ rows. first rows && second rows) (bodies_named (relations_of dialect t rules (map (site_at ds) (take (i + 1) forms)))) (λ rows. sym (bodies_next dialect t rules ds forms i rows here))
    (closed_on ds ts us vs first second before next)

pub text_closed : (dialect : Dialect) (t : Table) (rules : List Defined) (ds : List Sited) (forms : List ℕ) (i : ℕ) (ts us vs : Tables) → i < length forms →
    KeepsClosed ds ts us (all_named (relations_of dialect t rules (map (site_at ds) (take i forms))) (queries_of dialect t rules (map (site_at ds) (take i forms)))) →
    KeepsClosed ds us vs (all_named (relations_in dialect rules (form t (site_at ds (get_or forms i 0)))) (queries_in dialect rules (form t (site_at ds (get_or forms i 0))))) →
    KeepsClosed ds ts vs (all_named (relations_of dialect t rules (map (site_at ds) (take (i + 1) forms))) (queries_of dialect t rules (map (site_at ds) (take (i + 1) forms))))
text_closed dialect t rules ds forms i ts us vs here before next =
    let r1 = relations_of dialect t rules (map (site_at ds) (take i forms)) in
    let q1 = queries_of dialect t rules (map (site_at ds) (take i forms)) in
    let r2 = relations_in dialect rules (form t (site_at ds (get_or forms i 0))) in
    let q2 = queries_in dialect rules (form t (site_at ds (get_or forms i 0))) in
    closed_as ds ts vs (λ rows. all_named r1 q1 rows && all_named r2 q2 rows) (all_named (relations_of dialect t rules (map (site_at ds) (take (i + 1) forms))) (queries_of dialect t rules (map (site_at ds) (take (i + 1) forms))))
    (λ rows. and_four true (bodies_named r1 rows) (queries_named q1 rows) (bodies_named r2 rows) (queries_named q2 rows)
    ∙ sym (ap₂ (λ x y. x && y) (bodies_next dialect t rules ds forms i rows here) (queries_next dialect t rules ds forms i rows here)))
    (closed_on ds ts us vs (all_named r1 q1) (all_named r2 q2) before next)

-- an equation between templates adds no call
pub equation_called : (ts us vs ws : Tables) (rows : List RelationEntry) → us.goals ≡ ts.goals → vs.goals ≡ us.goals → are_there rows ws.goals ≡ (are_there rows vs.goals && true) → are_there rows ws.goals ≡ are_there rows ts.goals
equation_called ts us vs ws rows first next added = added ∙ and_true (are_there rows vs.goals) ∙ ap (are_there rows) (next ∙ first)

-- nor does a goal that joins two
pub joined_closed : (ds : List Sited) (ts us vs : Tables) (p : List RelationEntry → Bool) → KeepsLow ds ts us → ((rows : List RelationEntry) → are_there rows us.goals ≡ (are_there rows ts.goals && p rows)) →
    vs.terms ≡ us.terms → ((rows : List RelationEntry) → are_there rows vs.goals ≡ (are_there rows us.goals && true)) → KeepsClosed ds ts vs p
joined_closed ds ts us vs p low called terms joined = record {
  low = low_on ds ts us vs low (low_same ds us vs terms);
  called = λ rows. joined rows ∙ and_true (are_there rows us.goals) ∙ called rows;
}

-- the goal of a run over a list of names, where those are in scope
pub run_closed : (dialect : Dialect) (ds : List Sited) (t : Table) (place : ℕ) (rules : List Defined) (gs : GoalForms) (names : List ℕ) (start scope : Names) (ts us vs ws : Tables) →
    start ≡ None ∷ [] → scope ≡ within start names → names ≡ (binder t (site_at ds place)).value →
    (length names ≤ 2048 → list_all is_low (templates_of ts.terms) ≡ true → list_all is_low (templates_of us.terms) ≡ true) → ((rows : List RelationEntry) → are_there rows us.goals ≡ are_there rows ts.goals) →
    KeepsClosed ds us vs (λ rows. calls_named rows (conjunction (goals_in dialect rules scope gs))) → ws.terms ≡ vs.terms → ((rows : List RelationEntry) → are_there rows ws.goals ≡ (are_there rows vs.goals && true)) →
    KeepsClosed ds ts ws (λ rows. calls_named rows (asked_fresh dialect rules (binder t (site_at ds place)).value gs))
run_closed dialect ds t place rules gs names start scope ts us vs ws began scoped bound low same kept terms called =
    let value = (binder t (site_at ds place)).value in
    closed_as ds ts ws (λ rows. calls_named rows (conjunction (asked_equation names ∷ goals_in dialect rules scope gs))) (λ rows. calls_named rows (asked_fresh dialect rules value gs))
    (λ rows. ap₂ (λ (n : List ℕ) (s : Names). calls_named rows (conjunction (asked_equation n ∷ goals_in dialect rules s gs))) bound (scoped ∙ ap₂ within began bound))
    (list_closed ds t place names (goals_in dialect rules scope gs) ts us vs ws bound low same kept terms called)

-- a goal has the calls that it has where it suspends
pub suspended_called : (dialect : Dialect) (rows : List RelationEntry) (g : Goal) → calls_named rows g ≡ calls_named rows (suspended_in dialect g)
suspended_called Book rows g = refl
suspended_called All rows g = refl

pub suspended_closed : (dialect : Dialect) (ds : List Sited) (ts us vs : Tables) (g : Goal) → KeepsClosed ds ts us (λ rows. calls_named rows g) → vs.terms ≡ us.terms →
    ((rows : List RelationEntry) → are_there rows vs.goals ≡ are_there rows us.goals) → KeepsClosed ds ts vs (λ rows. calls_named rows (suspended_in dialect g))
suspended_closed dialect ds ts us vs g kept terms called = record {
  low = low_on ds ts us vs kept.low (low_same ds us vs terms);
  called = λ rows. called rows ∙ kept.called rows ∙ ap (λ b. are_there rows ts.goals && b) (suspended_called dialect rows g);
}
