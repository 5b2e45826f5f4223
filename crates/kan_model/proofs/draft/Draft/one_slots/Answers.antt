use Rattle.kan_terms.specs.Tree.{Tree}
use Rattle.kan_model.specs.Programs.Measures.{slots}
use Rattle.kan_model.specs.Programs.Drafts.{templates}
use Rattle.kan_model.proofs.Programs.NoteLaws.{noted}
use Rattle.kan_model.proofs.draft.Draft.one_slots.Goals as goal

pub returns : goal.returns
returns c = noted (λ row. row.slots) slots c.args.self.now.terms.items (templates c.args.self.now) c.args.term _ _ Tree.nil c.args.self.now.slots c.index.ensures c.requires
