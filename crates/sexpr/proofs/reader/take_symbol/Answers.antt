-- A symbol stands for its name, which is in the table now.
use Rattle.std.proofs.Common.{refl}
use Rattle.kan_grammar.specs.Data.Words.{symbol}
use Rattle.sexpr.proofs.FrameLaws.{on_ok}
use Rattle.sexpr.proofs.ReadLaws.{symbol_interned}
use Rattle.sexpr.proofs.reader.take_symbol.Goals as goal

pub returns-clause-taken : goal.returns-clause-taken
returns-clause-taken c =
    on_ok c.take_single.result (λ taken later g. taken later (symbol c.args.name.now) refl (symbol_interned c.intern.new.self later c.args.at c.in_ok-number.number c.args.name.now c.in_ok-number.ensures.number g)) c.take_single.ensures.taken
