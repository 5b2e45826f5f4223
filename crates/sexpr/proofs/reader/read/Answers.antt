-- Each piece leaves the reading of the text what it was, and the last answer is the text's.
use Rattle.std.proofs.Common.{◌+◌, ◌<◌, length, sym, ap, ◌∙◌, subst, arith}
use Rattle.std.specs.Str.{IsUtf8}
use Rattle.std.proofs.lemmas.Bool.Decides.{nat_tests}
use Rattle.kan_refusals.specs.declared.refusals.Refusal.{Refusal}
use Rattle.kan_grammar.specs.Data.Faults.{refused, fault}
use Rattle.kan_grammar.proofs.Texts.NameLaws.{extends_same, extends_further}
use Rattle.sexpr.specs.Meaning.{piece_of}
use Rattle.sexpr.specs.Reads.{HasPieceText}
use Rattle.sexpr.proofs.PieceLaws.{first_piece_text}
use Rattle.sexpr.proofs.ReadLaws.{not_a_text, left_first, left_more, left_next, left_refused, left_none, reads_error, names_first, names_next, names_last, holds_at_ok, grows_on}
use Rattle.sexpr.proofs.reader.read.Goals as goal

pub returns-in-Err-clause-reads : goal.returns-in-Err-clause-reads
returns-in-Err-clause-reads c = λ later g. not_a_text c.args.bytes.now c.in-Err.ensures.cases.0 ∙ ap (λ n. refused (fault n Refusal.NotUtf8)) (sym (c.valid_up_to.ensures ∙ c.in-Err.ensures.valid_len))

pub returns-in-Err-clause-extends : goal.returns-in-Err-clause-extends
returns-in-Err-clause-extends c = extends_same (length c.args.bytes.now) c.args.names.now

pub loop-rest-init : goal.loop-rest-init
loop-rest-init c = (
  subst IsUtf8 (sym c.in-Ok.ensures.cases.0) c.in-Ok.ensures.cases.1,
  record {
    left = left_first c.args.names.now c.new-enclosing.result c.in-Ok.text.now c.args.bytes.now c.new-enclosing.ensures.around c.in-Ok.ensures.cases;
    depth_is = c.new-enclosing.ensures.depth;
    cut = omega (arith, ap length c.in-Ok.ensures.cases.0);
    numbered = names_first c.args.names.now c.in-Ok.text.now c.args.bytes.now c.in-Ok.ensures.cases.0;
    names_added = extends_same 0 c.args.names.now;
  },
)

pub take_piece-requires-clause-room : goal.take_piece-requires-clause-room
take_piece-requires-clause-room c =
    let some : 0 < length c.loop-rest.rest.now = grind (arith, nat_tests) in
    grows_on c.loop-rest.at 1 (length c.args.bytes.now) c.args.names.now c.loop-rest.names c.loop-rest.invariant.1.names_added (omega (arith, some, c.loop-rest.invariant.1.cut)) c.requires.room

pub take_piece-requires-clause-text : goal.take_piece-requires-clause-text
take_piece-requires-clause-text c = subst HasPieceText (sym c.first_piece-piece.ensures.piece) (first_piece_text c.loop-rest.rest.now)

pub returns-in_err-take_piece-clause-reads : goal.returns-in_err-take_piece-clause-reads
returns-in_err-take_piece-clause-reads c =
    let some : 0 < length c.loop-rest.rest.now = grind (arith, nat_tests) in
    λ later g. reads_error c.args.bytes.now later c.from_residual.result c.in_err-take_piece.field-0.0 c.from_residual.ensures.1
    (left_refused c.take_piece.new.names c.loop-rest.enclosing c.loop-rest.at c.loop-rest.rest.now c.args.bytes.now c.first_piece-piece.result.length (piece_of c.first_piece-piece.result) c.in_err-take_piece.field-0.0 some c.first_piece-piece.ensures.piece c.first_piece-piece.ensures.size c.in_err-take_piece.ensures.refused
    (left_more c.loop-rest.names c.take_piece.new.names c.loop-rest.enclosing c.loop-rest.at c.loop-rest.rest.now c.args.bytes.now c.loop-rest.invariant.1.left c.take_piece.ensures.extends.goes_on) later g)

pub returns-in_err-take_piece-clause-extends : goal.returns-in_err-take_piece-clause-extends
returns-in_err-take_piece-clause-extends c =
    let some : 0 < length c.loop-rest.rest.now = grind (arith, nat_tests) in
    extends_further c.loop-rest.at 1 (length c.args.bytes.now) c.args.names.now c.loop-rest.names c.take_piece.new.names c.loop-rest.invariant.1.names_added c.take_piece.ensures.extends (omega (arith, some, c.loop-rest.invariant.1.cut))

pub loop-rest-preserved : goal.loop-rest-preserved
loop-rest-preserved c =
    let some : 0 < length c.loop-rest.rest.now = grind (arith, nat_tests) in (
      c.range_from-rest.utf8,
      record {
        left = left_next c.take_piece.new.names c.loop-rest.enclosing c.take_piece.new.enclosing c.loop-rest.at c.loop-rest.rest.now c.range_from-rest.result.now c.args.bytes.now c.first_piece-piece.result.length (piece_of c.first_piece-piece.result) some c.first_piece-piece.ensures.piece c.first_piece-piece.ensures.size c.range_from-rest.ensures.value c.in_ok-take_piece.ensures.taken
            (left_more c.loop-rest.names c.take_piece.new.names c.loop-rest.enclosing c.loop-rest.at c.loop-rest.rest.now c.args.bytes.now c.loop-rest.invariant.1.left c.take_piece.ensures.extends.goes_on);
        depth_is = c.in_ok-take_piece.ensures.depth;
        cut = omega (arith, c.range_from-rest.ensures.len);
        numbered = names_next c.loop-rest.names c.take_piece.new.names _ c.loop-rest.at c.loop-rest.rest.now c.range_from-rest.result.now c.first_piece-piece.result.length (piece_of c.first_piece-piece.result) some c.first_piece-piece.ensures.piece c.first_piece-piece.ensures.size c.range_from-rest.ensures.value c.in_ok-take_piece.ensures.numbered c.loop-rest.invariant.1.numbered;
        names_added = extends_further c.loop-rest.at 1 (c.loop-rest.at + c.first_piece-piece.result.length) c.args.names.now c.loop-rest.names c.take_piece.new.names c.loop-rest.invariant.1.names_added c.take_piece.ensures.extends (omega (arith, c.first_piece-piece.ensures.size));
      },
    )

pub returns-clause-reads : goal.returns-clause-reads
returns-clause-reads c = left_none c.loop-rest.names c.loop-rest.enclosing c.loop-rest.at c.loop-rest.rest.now c.args.bytes.now c.finish.result (grind (arith, nat_tests)) c.finish.ensures c.loop-rest.invariant.1.left

pub returns-clause-numbered : goal.returns-clause-numbered
returns-clause-numbered c = holds_at_ok c.finish.result (names_last c.loop-rest.names _ c.loop-rest.at c.loop-rest.rest.now (grind (arith, nat_tests)) c.loop-rest.invariant.1.numbered)

pub returns-clause-extends : goal.returns-clause-extends
returns-clause-extends c = extends_further c.loop-rest.at 0 (length c.args.bytes.now) c.args.names.now c.loop-rest.names c.loop-rest.names c.loop-rest.invariant.1.names_added (extends_same 0 c.loop-rest.names) (omega (arith, c.loop-rest.invariant.1.cut))
