use Rattle.std.proofs.Common.{string_bytes, rules, ◌∙◌, sym}
use Rattle.kan_model.specs.Answers.AnswerText.{constraint_texts}
use Rattle.reify.specs.Meaning.{meaning}
use Rattle.reify.proofs.TextLaws.{where_put, all_nothing}
use Rattle.reify.proofs.constraints.print_where.Goals as goal

pub returns : goal.returns
returns c =
    where_put (string_bytes c.args.text.now) (string_bytes c.push_str.new.self) (string_bytes c.print_constraints.new.text) (constraint_texts c.args.names.now (meaning c.args.answer.now))
    (all_nothing c.args.names.now c.args.answer.now ∙ sym c.is_free.ensures ∙ (search rules)) (search rules) c.in_ok-print_constraints.ensures
