use Rattle.kan_model.specs.Programs.Goals.{Goal}
use Rattle.kan_model.specs.Programs.Measures.{noted_width}
use Rattle.kan_model.specs.Programs.Drafts.{goals}
use Rattle.kan_model.proofs.Programs.NoteLaws.{noted}
use Rattle.kan_model.proofs.draft.Draft.one_width.Goals as goal

pub returns : goal.returns
returns c = noted (λ row. row.width) noted_width c.args.self.now.goals.items (goals c.args.self.now) c.args.goal _ _ Goal.fail c.args.self.now.widths c.index.ensures c.requires
