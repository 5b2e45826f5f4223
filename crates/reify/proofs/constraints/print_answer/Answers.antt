use Rattle.std.proofs.Common.{string_bytes, rules, ◌≡◌}
use Rattle.kan_model.specs.Answers.AnswerText.{answer_text, constraint_texts, where_text}
use Rattle.reify.specs.Meaning.{meaning}
use Rattle.reify.proofs.ShapeLaws.{answer_printed}
use Rattle.reify.proofs.constraints.print_answer.Goals as goal

pub returns : goal.returns
returns c =
    let put : string_bytes c.print_where.new.text ≡ answer_text c.args.names.now (meaning c.args.answer.now) =
    answer_printed c.args.names.now c.args.answer.now.term (where_text (constraint_texts c.args.names.now (meaning c.args.answer.now))) (string_bytes c.print_shapes.new.text) (string_bytes c.print_where.new.text)
    c.args.answer.now.one (search rules) c.in_ok-print_where.ensures in
    search rules
