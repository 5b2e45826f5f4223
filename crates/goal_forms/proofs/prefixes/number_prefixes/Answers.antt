use Rattle.kan_grammar.specs.Data.Printed.{prefix_name}
use Rattle.kan_grammar.specs.Data.Words.{quote, quasiquote, unquote}
use Rattle.goal_forms.proofs.PrefixLaws.{interned_number, prefixes_added, first_numbers_kept}
use Rattle.goal_forms.proofs.UnnamedLaws.{numbered_named}
use Rattle.goal_forms.proofs.prefixes.number_prefixes.Goals as goal

pub returns-clause-numbered : goal.returns-clause-numbered
returns-clause-numbered c =
    let third = c.intern-3.new.self in
    let kept = first_numbers_kept c.intern.new.self c.intern-2.new.self third _ _ c.in_ok-quasiquote.ensures.table c.in_ok-unquote.ensures.table c.in_ok-quote.ensures.number c.in_ok-quasiquote.ensures.number in
    record {
      quote = interned_number third (prefix_name quote) _ kept.0;
      quasiquote = interned_number third (prefix_name quasiquote) _ kept.1;
      unquote = interned_number third (prefix_name unquote) _ c.in_ok-unquote.ensures.number;
    }

pub returns-clause-table : goal.returns-clause-table
returns-clause-table c = prefixes_added c.args.names.now _ _ _ c.in_ok-quote.ensures.table c.in_ok-quasiquote.ensures.table c.in_ok-unquote.ensures.table

pub returns-clause-named : goal.returns-clause-named
returns-clause-named c =
    let third = c.intern-3.new.self in
    let kept = first_numbers_kept c.intern.new.self c.intern-2.new.self third _ _ c.in_ok-quasiquote.ensures.table c.in_ok-unquote.ensures.table c.in_ok-quote.ensures.number c.in_ok-quasiquote.ensures.number in
    record {
      quote = numbered_named third (prefix_name quote) _ kept.0;
      quasiquote = numbered_named third (prefix_name quasiquote) _ kept.1;
      unquote = numbered_named third (prefix_name unquote) _ c.in_ok-unquote.ensures.number;
    }
