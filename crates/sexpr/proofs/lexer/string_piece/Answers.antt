-- What stands between the marks is cut off as a text, which is the string of the piece.
use Rattle.std.proofs.Common.{◌≡◌, ap, sym, ◌∙◌, false}
use Rattle.std.specs.Prelude.{Some}
use Rattle.kan_grammar.specs.Data.Strings.{string_length}
use Rattle.sexpr.specs.Meaning.{piece_of}
use Rattle.sexpr.proofs.PieceLaws.{text_string_piece, string_to, string_begins}
use Rattle.sexpr.proofs.lexer.string_piece.Goals as goal

pub range-requires-clause-start_boundary : goal.range-requires-clause-start_boundary
range-requires-clause-start_boundary c = λ h. string_begins c.args.text.now c.args.rest.now c.requires c.utf8.text

pub range-requires-clause-end_boundary : goal.range-requires-clause-end_boundary
range-requires-clause-end_boundary c =
    let found : string_length false c.args.rest.now ≡ Some c.in-Some.length = sym c.in-Some.ensures.length in
    string_to c.args.text.now c.args.rest.now c.in-Some.length c.requires found

pub returns-in-Some-clause-piece : goal.returns-in-Some-clause-piece
returns-in-Some-clause-piece c =
    let found : string_length false c.args.rest.now ≡ Some c.in-Some.length = sym c.in-Some.ensures.length in
    ap piece_of c.spelled.ensures ∙ text_string_piece c.args.text.now c.args.rest.now c.in-Some.length c.range.result.now c.requires found c.range.ensures.value
