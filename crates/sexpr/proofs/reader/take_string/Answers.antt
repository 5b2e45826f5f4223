-- A string stands for what it means, which is in the table now.
use Rattle.std.proofs.Common.{◌≡◌, refl, false, ap, ◌∙◌}
use Rattle.kan_grammar.specs.Data.Words.{string}
use Rattle.kan_grammar.specs.Data.Written.{single}
use Rattle.kan_grammar.specs.Data.Strings.{string_meaning}
use Rattle.sexpr.proofs.FrameLaws.{on_ok}
use Rattle.sexpr.proofs.ReadLaws.{string_interned}
use Rattle.sexpr.proofs.reader.take_string.Goals as goal

pub returns-clause-taken : goal.returns-clause-taken
returns-clause-taken c =
    let same : c.as_str.result.now ≡ string_meaning false c.args.spelling.now = c.as_str.ensures.value ∙ c.in_ok-text.ensures in
    on_ok c.take_single.result (λ taken later g. taken later (string (string_meaning false c.args.spelling.now)) refl (string_interned c.intern_string.new.self later c.args.at c.in_ok-number.number c.as_str.result.now c.in_ok-number.ensures.number g ∙ ap (λ t. single c.args.at (string t)) same)) c.take_single.ensures.taken
