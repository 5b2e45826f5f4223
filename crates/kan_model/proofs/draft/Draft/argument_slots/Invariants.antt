use Rattle.std.proofs.Common.{◌≡◌, map, take}
use Rattle.kan_model.specs.Programs.Measures.{most_slots}
use Rattle.kan_model.specs.Programs.Tables.{template_at, templates_of}
use Rattle.kan_model.specs.Programs.Nodes.{term_entries}
use Rattle.kan_model.proofs.draft.Draft.argument_slots.Given as goal

abbrev pub invariant-loop-term : goal.invariant-loop-term
invariant-loop-term l = l.most ≡ most_slots (map (template_at (templates_of (term_entries l.self.terms.items))) (take l.term-index l.term-items))
