-- A word is a name, a number or a symbol.
use Rattle.std.proofs.Common.{◌≡◌, true, false}
use Rattle.kan_grammar.specs.Data.Words.{is_reserved, looks_like_number}
use Rattle.term_reading.proofs.WordLaws.{if_ok, word_is_name, word_is_number, word_is_symbol}
use Rattle.term_reading.proofs.words.word_shape.Goals as goal

pub returns-then-is_reserved-clause-reads : goal.returns-then-is_reserved-clause-reads
returns-then-is_reserved-clause-reads c = λ table on x worded fine is.
    let reserved : is_reserved c.args.word.now ≡ true = cc in
    word_is_name table c.args.word.now x _ worded fine on.spelled reserved is c.name_number.ensures

pub returns-then-looks_like_number-clause-reads : goal.returns-then-looks_like_number-clause-reads
returns-then-looks_like_number-clause-reads c = λ table on x worded fine is.
    let reserved : is_reserved c.args.word.now ≡ false = cc in
    let looks : looks_like_number c.args.word.now ≡ true = cc in
    word_is_number table c.args.word.now x _ worded fine on.spelled reserved looks is c.number.ensures.reads

pub returns-else-looks_like_number-clause-reads : goal.returns-else-looks_like_number-clause-reads
returns-else-looks_like_number-clause-reads c =
    let reserved : is_reserved c.args.word.now ≡ false = cc in
    let looks : looks_like_number c.args.word.now ≡ false = cc in
    if_ok c.symbol.result (λ y read table on x worded fine is. word_is_symbol table c.args.word.now x y worded fine on.spelled reserved looks is (read table on)) c.symbol.ensures.reads
