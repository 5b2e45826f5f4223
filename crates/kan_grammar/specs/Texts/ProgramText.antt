-- The program and the runs that an accepted text gives.
use Rattle.std.specs.Prelude.{ℕ, suc, List, [], ◌∷◌, ◌++◌, None, map, length}
use Rattle.std.specs.List.{flat_map}
use Rattle.kan_terms.specs.Tree.{Tree}
use Rattle.kan_model.specs.Programs.Goals.{Template, Primitive, Goal, Relation, Program, Query}
use Rattle.kan_terms.specs.Table.{Table}
use Rattle.kan_grammar.specs.declared.dialect.Dialect.{Dialect}
use Rattle.kan_grammar.specs.Data.Written.{Written}
use Rattle.kan_grammar.specs.Texts.Sited.{Sited, with_sites}
use Rattle.kan_grammar.specs.Texts.TopForms.{Form, relation, run_of_one, run_of_list, form, Defined}
use Rattle.kan_grammar.specs.Texts.TopForms.{definitions}
use Rattle.kan_grammar.specs.Texts.Resolved.{within, conjunction, suspended_in, goals_in}

-- the list of as many slots as there are names, from one on
abbrev pub slot_list : ℕ → List ℕ → Template
slot_list i [] = Tree.nil
slot_list i (s ∷ ss) = Tree.pair (Tree.leaf i) (slot_list (suc i) ss)

-- the relation of a top form
abbrev pub relations_in : Dialect → List Defined → Form → List Relation
relations_in dialect ds (relation name params gs) =
    record {
      params = length params.value;
      body = conjunction (goals_in dialect ds (within [] params.value) gs);
    } ∷ []
relations_in dialect ds f = []

-- the run of a top form: one over a list of names asks for a variable without a name, which is the
-- list of fresh ones
abbrev pub queries_in : Dialect → List Defined → Form → List Query
queries_in dialect ds (run_of_one limit q gs) =
    record { goal = conjunction (goals_in dialect ds (within [] q.value) gs); limit = limit.value }
    ∷ []
queries_in dialect ds (run_of_list limit xs gs) =
    record {
      goal = suspended_in dialect
          (Goal.fresh (length xs.value)
          (conjunction (Goal.prim (Primitive.same (slot_list 1 xs.value) (Tree.leaf 0))
          ∷ goals_in dialect ds (within (None ∷ []) xs.value) gs)));
      limit = limit.value;
    } ∷ []
queries_in dialect ds f = []

-- the relations of some top forms, where all that are defined are these
abbrev pub relations_of : Dialect → Table → List Defined → List Sited → List Relation
relations_of dialect t ds forms = flat_map (λ d. relations_in dialect ds (form t d)) forms

-- their runs
abbrev pub queries_of : Dialect → Table → List Defined → List Sited → List Query
queries_of dialect t ds forms = flat_map (λ d. queries_in dialect ds (form t d)) forms

-- a program and its runs
pub record Meant : Type 0 where
  pub relations : List Relation
  pub queries : List Query

-- what the data of a text mean behind those of a library
unfoldable pub text_meaning : Dialect → Table → List Sited → List Sited → Meant
text_meaning dialect t library text =
    record {
      relations = relations_of dialect t (definitions t (library ++ text)) (library ++ text);
      queries = queries_of dialect t (definitions t (library ++ text)) text;
    }

-- the program of a text behind a library: its relations, with their bodies and the goals of the
-- runs
abbrev pub program_of_text : Dialect → Table → List Written → List Written → Program
program_of_text dialect t library text =
    let m = text_meaning dialect t (map (with_sites t) library) (map (with_sites t) text) in
    record {
      relations = m.relations;
      goals = map (λ r. r.body) m.relations ++ map (λ q. q.goal) m.queries;
    }

-- the runs of a text
abbrev pub queries_of_text : Dialect → Table → List Written → List Written → List Query
queries_of_text dialect t library text =
    (text_meaning dialect t (map (with_sites t) library) (map (with_sites t) text)).queries
