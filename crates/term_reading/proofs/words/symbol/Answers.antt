-- A symbol has one number in all tables that go on.
use Rattle.std.proofs.Common.{◌≡◌, true, false, ap, sym, ◌∙◌, length, true≢false}
use Rattle.kan_terms.specs.Table.{with_symbol}
use Rattle.reify.specs.declared.shaping.Shape.TheVariants.{Sym}
use Rattle.term_reading.specs.Words.{is_plain}
use Rattle.term_reading.proofs.WordLaws.{below_of, no_symbol, number_below, symbol_found, symbol_moves}
use Rattle.term_reading.proofs.words.symbol.Goals as goal

pub returns-then-not-is_plain-clause-reads : goal.returns-then-not-is_plain-clause-reads
returns-then-not-is_plain-clause-reads c = λ table on s low is.
    let other : is_plain c.args.word.now ≡ false = cc in
    absurd (true≢false (sym (no_symbol table c.args.word.now s on.spelled (below_of s (length table.symbols) low) is).0 ∙ other))

pub returns-in_ok-intern-in-Ok-clause-reads : goal.returns-in_ok-intern-in-Ok-clause-reads
returns-in_ok-intern-in-Ok-clause-reads c = λ table on s low is.
    ap Sym (symbol_found c.intern.new.self table c.in-Ok.text.now _ s on c.in_ok-intern-in-Ok.ensures.number (below_of s (length table.symbols) low) (c.in-Ok.ensures.cases.0 ∙ is))

pub returns-in_ok-intern-in-Ok-clause-known : goal.returns-in_ok-intern-in-Ok-clause-known
returns-in_ok-intern-in-Ok-clause-known c = number_below c.intern.new.self.symbols c.in-Ok.text.now _ c.in_ok-intern-in-Ok.ensures.number

pub returns-in_ok-intern-in-Ok-clause-moves : goal.returns-in_ok-intern-in-Ok-clause-moves
returns-in_ok-intern-in-Ok-clause-moves c =
    let plain : is_plain c.args.word.now ≡ true = cc in
    let same = c.in-Ok.ensures.cases.0 in
    symbol_moves c.args.names.now c.intern.new.self c.args.word.now (c.in_ok-intern-in-Ok.ensures.table ∙ ap (with_symbol c.args.names.now) same) plain c.in-Ok.ensures.cases.1

pub returns-in-Err-clause-reads : goal.returns-in-Err-clause-reads
returns-in-Err-clause-reads c = λ table on s low is. absurd (c.in-Err.ensures.cases.0 (no_symbol table c.args.word.now s on.spelled (below_of s (length table.symbols) low) is).1)
