-- Each character is printed as it is spelled.
use Rattle.std.proofs.Common.{string_bytes}
use Rattle.std.proofs.lemmas.Str.{IsUtf8-past_char}
use Rattle.sexpr.proofs.StringLaws.{print_goes_on, print_ends}
use Rattle.sexpr.proofs.strings.print_string.Goals as goal

pub loop-character-preserved : goal.loop-character-preserved
loop-character-preserved c =
    let held = c.loop-character.invariant in
    let parts = c.in-Some.ensures.steps.0 in
    (IsUtf8-past_char _ _ c.in-Some.character held.0 parts, print_goes_on (string_bytes c.loop-character.text) _ _ _ _ c.in-Some.character c.in_ok-print_character.ensures parts held.1)

pub returns : goal.returns
unfolding lib.Utf8.encode
returns c = print_ends (string_bytes c.loop-character.text) _ _ _ _ c.in-None.ensures.steps.0.0 c.loop-character.invariant.1 c.in_ok-push-2.ensures.bytes
