-- A text may be cut after its first piece.
use Rattle.sexpr.proofs.PieceLaws.{text_piece_boundary, text_front}
use Rattle.sexpr.proofs.lexer.first_piece.Goals as goal

pub returns-clause-boundary : goal.returns-clause-boundary
returns-clause-boundary c = text_piece_boundary c.args.text.now _ _ c.piece_begun.result.length c.utf8.text (text_front c.args.text.now c.as_bytes-bytes.result.now c.as_bytes-bytes.ensures.value c.requires) c.piece_begun.ensures.size
