use Rattle.std.proofs.Common.{◌∙◌, rules, sym}
use Rattle.kan_grammar.proofs.Texts.LineLaws.{line_printed}
use Rattle.kanren_run.proofs.refusal.fault_line.Goals as goal

pub returns : goal.returns
returns c = c.in_ok-line.ensures ∙ sym (line_printed c.args.fault.at c.args.fault.refusal (search rules))
