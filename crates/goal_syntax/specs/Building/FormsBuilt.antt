-- What the relations of tables and the queries that are built of a text mean.
use Rattle.std.specs.Prelude.{◌≡◌, ℕ, true, nat_lt, List, [], ◌∷◌, ◌++◌, Option, Some, None, map}
use Rattle.std.specs.Prelude.{length}
use Rattle.std.specs.List.{list_all, flat_map}
use Rattle.kan_terms.specs.Tree.{leaf}
use Rattle.kan_model.specs.Programs.Goals as model
use Rattle.kan_grammar.specs.declared.dialect.Dialect.{Dialect}
use Rattle.kan_terms.specs.Table.{Table}
use Rattle.kan_grammar.specs.Texts.Sited.{Sited}
use Rattle.kan_grammar.specs.Texts.GoalForms.{GoalForms}
use Rattle.kan_grammar.specs.Texts.TopForms.{Defined, NameAt, name_at, Form, relation, form}
use Rattle.kan_grammar.specs.Texts.ProgramText.{slot_list}
use Rattle.kan_grammar.specs.Texts.Resolved.{conjunction, goals_in, suspended_in, within}
use Rattle.kan_model.specs.Programs.Tables.{Tables, RelationEntry, goal_at, goals_of}
use Rattle.kan_model.specs.declared.nodes.Query.{Query}

-- slot 0 is the list of as many slots behind it as there are names
abbrev pub asked_equation : List ℕ → model.Goal
asked_equation names = model.Goal.prim (model.Primitive.same (slot_list 1 names) (leaf 0))

-- the goal of a run over a list of names, and before it suspends
abbrev pub asked_fresh : Dialect → List Defined → List ℕ → GoalForms → model.Goal
asked_fresh dialect rs names gs =
    model.Goal.fresh (length names)
    (conjunction (asked_equation names ∷ goals_in dialect rs (within (None ∷ []) names) gs))

abbrev pub asked_list : Dialect → List Defined → List ℕ → GoalForms → model.Goal
asked_list dialect rs names gs = suspended_in dialect (asked_fresh dialect rs names gs)

-- the relation of an entry, and the run of a query, with the goals of a table
abbrev pub relation_made : List model.Goal → RelationEntry → model.Relation
relation_made gs r = record { params = r.params; body = goal_at gs r.body }

abbrev pub query_made : List model.Goal → Query → model.Query
query_made gs q = record { goal = goal_at gs q.goal; limit = q.limit }

-- the relations of tables and these queries are those that are meant, and their goals are there
pub record Means (ts : Tables) (qs : List Query) (rs : List model.Relation)
    (asked : List model.Query) : Type 0 where
  pub relations : map (relation_made (goals_of ts)) ts.relations ≡ rs
  pub queries : map (query_made (goals_of ts)) qs ≡ asked
  pub bodies_there : list_all (λ r. nat_lt r.body (length ts.goals)) ts.relations ≡ true
  pub goals_there : list_all (λ q. nat_lt q.goal (length ts.goals)) qs ≡ true

-- the relation of these parameters and goals, and the query for a goal
abbrev pub relation_meant : Dialect → List Defined → List ℕ → GoalForms → model.Relation
relation_meant dialect rs params gs =
    record {
      params = length params;
      body = conjunction (goals_in dialect rs (within [] params) gs);
    }

abbrev pub query_asked : ℕ → Option ℕ → Query
query_asked goal limit = record { goal = goal; limit = limit }

-- the symbol of a relation's name; where it has none, the first one
abbrev pub name_symbol : Option NameAt → ℕ
name_symbol None = 0
name_symbol (Some (name_at at s)) = s

-- the name of the relation of a top form: the symbol at the head of a defrel
abbrev pub names_in : Form → List ℕ
names_in (relation name params gs) = name_symbol name ∷ []
names_in f = []

-- the names of the relations of some top forms, in their order
abbrev pub relation_names : Table → List Sited → List ℕ
relation_names t forms = flat_map (λ d. names_in (form t d)) forms

-- the names of the relations of tables
abbrev pub entry_names : Tables → List ℕ
entry_names ts = map (λ r. r.name) ts.relations

-- relations of these names came to tables, behind those that were there
abbrev pub AddsNames : Tables → Tables → List ℕ → Type 0
AddsNames ts us names = entry_names us ≡ entry_names ts ++ names

-- these relations came to what tables mean
abbrev pub AddsRelations : Tables → Tables → List model.Relation → Type 0
AddsRelations ts us relations =
    (qs : List Query) (before : List model.Relation) (asked : List model.Query) →
    Means ts qs before asked → Means us qs (before ++ relations) asked

-- these relations and runs came to what tables and queries mean
abbrev pub AddsForms : Tables → Tables → List Query → List Query → List model.Relation →
    List model.Query → Type 0
AddsForms ts us qs more relations runs =
    (before : List model.Relation) (asked : List model.Query) → Means ts qs before asked →
    Means us more (before ++ relations) (asked ++ runs)
