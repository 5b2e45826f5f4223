-- A word's bytes are cut off as a text, which is the word of the piece.
use Rattle.std.proofs.Common.{◌≡◌, ◌+◌, ℕ, take, ap, sym, ◌∙◌, arith}
use Rattle.kan_grammar.specs.Data.Words.{word_token}
use Rattle.kan_grammar.specs.Data.Tokens.{start, in_word}
use Rattle.sexpr.specs.Meaning.{token_of, piece_of}
use Rattle.sexpr.proofs.PieceLaws.{text_word_boundary, text_word_piece}
use Rattle.sexpr.proofs.lexer.piece_begun.Goals as goal

pub range-requires-clause-end_boundary : goal.range-requires-clause-end_boundary
range-requires-clause-end_boundary c = text_word_boundary c.args.text.now c.args.first c.args.rest.now c.word_length-length-in-Word.result c.requires c.word_length-length-in-Word.ensures.count

pub returns-in-Word-clause-piece : goal.returns-in-Word-clause-piece
returns-in-Word-clause-piece c =
    let n : ℕ = c.word_length-length-in-Word.result in
    let s : in_word ≡ start c.args.first = c.in-Word.ensures in
    let w : token_of c.word_token.result ≡ word_token c.range.result.now = c.word_token.ensures in
    let v : c.range.result.now ≡ take (1 + n) c.args.text.now = grind (arith, c.range.ensures.value) in
    let p = text_word_piece c.args.text.now c.args.first c.args.rest.now n (token_of c.word_token.result) c.requires c.word_length-length-in-Word.ensures.count (sym s) (w ∙ ap word_token v) in
    ap piece_of c.spelled-in-Word.ensures ∙ p
