use Rattle.std.proofs.Common.{ltb-true, ap, sym, ◌∙◌}
use Rattle.std.specs.Prelude.{nat_lt, length, min, ◌+◌}
use Rattle.std.proofs.lemmas.Bool.{and_parts}
use Rattle.kan_terms.specs.Tree.{Tree}
use Rattle.kan_model.specs.Programs.Measures.{noted_height}
use Rattle.kan_model.specs.Programs.Nodes.{term_entry}
use Rattle.kan_model.specs.Programs.Tables.{template_of, template_at, is_term_grown}
use Rattle.kan_model.specs.Programs.Drafts.{templates}
use Rattle.kan_model.proofs.Programs.NoteLaws.{noted, pair-height}
use Rattle.kan_model.proofs.draft.Draft.noted_height.Goals as goal

pub returns-in-Pair : goal.returns-in-Pair
returns-in-Pair c =
    let d = c.args.self.now in
    let there = ap (λ n. is_term_grown (length d.terms.items) (term_entry n)) (sym c.in-Pair.is) ∙ c.requires in
    let (left, right) = and_parts (nat_lt c.in-Pair.first (length d.terms.items)) (nat_lt c.in-Pair.rest (length d.terms.items)) there in
    let one = noted (λ row. row.height) noted_height d.terms.items (templates d) c.in-Pair.first _ _ Tree.nil d.heights c.index.ensures (ltb-true c.in-Pair.first _ left) in
    let two = noted (λ row. row.height) noted_height d.terms.items (templates d) c.in-Pair.rest _ _ Tree.nil d.heights c.index-in-Pair.ensures (ltb-true c.in-Pair.rest _ right) in
    ap (λ n. n + 1) (c.min.ensures ∙ ap (λ n. min n 2048) c.max.ensures)
    ∙ pair-height (template_at (templates d) c.in-Pair.first) (template_at (templates d) c.in-Pair.rest) _ _ one two
    ∙ ap (λ n. noted_height (template_of (templates d) (term_entry n))) (sym c.in-Pair.is)
