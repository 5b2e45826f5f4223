-- Each character puts what it means.
use Rattle.std.proofs.Common.{string_bytes}
use Rattle.std.proofs.lemmas.Str.{IsUtf8-past_char}
use Rattle.sexpr.proofs.StringLaws.{meaning_goes_on, meaning_ends}
use Rattle.sexpr.proofs.strings.string_text.Goals as goal

pub loop-character-preserved : goal.loop-character-preserved
loop-character-preserved c =
    let held = c.loop-character.invariant in
    let parts = c.in-Some.ensures.steps.0 in
    (IsUtf8-past_char _ _ c.in-Some.character held.0 parts, meaning_goes_on c.loop-character.escape _ (string_bytes c.loop-character.text) _ _ _ _ c.in-Some.character c.in_ok-push_meaning.ensures c.begins_escape-escape.ensures parts held.1)

pub returns : goal.returns
returns c = meaning_ends c.loop-character.escape _ _ _ c.in-None.ensures.steps.0.0 c.loop-character.invariant.1
