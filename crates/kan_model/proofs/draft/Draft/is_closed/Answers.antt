use Rattle.std.proofs.Common.{ap, sym, ◌∙◌, map, length}
use Rattle.std.specs.Prelude.{◌&&◌, nat_lt}
use Rattle.std.proofs.lemmas.List.Folds.{list_all-map}
use Rattle.kan_model.specs.Programs.Scope.{in_scope}
use Rattle.kan_model.specs.Programs.Calls.{call_there}
use Rattle.kan_model.specs.Programs.Tables.{goal_at}
use Rattle.kan_model.specs.Programs.Nodes.{goal_entry, relation_entry, goal_place}
use Rattle.kan_model.specs.Programs.Drafts as drafts
use Rattle.kan_model.proofs.Programs.ScopeLaws.{all-low, tests-say}
use Rattle.kan_model.proofs.draft.Draft.is_closed.Goals as goal

pub returns : goal.returns
returns c =
    let d = c.args.self.now in
    let n = length (drafts.tables d).goals in
    ap (λ b. (c.are_low-low.result && c.are_calls_there-calls.result && c.are_bodies_in_scope-bodies.result) && b)
    (c.are_queries_closed-asked.ensures ∙ sym (list_all-map (λ q. nat_lt q n && in_scope 1 (goal_at (drafts.goals d) q)) goal_place c.args.queries.now))
    ∙ tests-say (drafts.tables d) (map goal_place c.args.queries.now) c.are_low-low.result c.are_calls_there-calls.result c.are_bodies_in_scope-bodies.result d.grown
    (c.are_low-low.ensures ∙ all-low (λ row. row.height) d.terms.items (drafts.templates d) d.heights)
    (c.are_calls_there-calls.ensures ∙ sym (list_all-map (call_there (map relation_entry d.relations.items)) (λ row. goal_entry row.node) d.goals.items))
    (c.are_bodies_in_scope-bodies.ensures ∙ sym (list_all-map (λ r. nat_lt r.body n && in_scope r.params (goal_at (drafts.goals d) r.body)) relation_entry d.relations.items))
