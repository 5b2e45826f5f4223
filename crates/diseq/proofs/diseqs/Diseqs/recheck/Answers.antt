use Rattle.std.proofs.Common.{rules, map}
use Rattle.kan_terms.specs.Terms.{sides}
use Rattle.diseq.specs.Meaning.{asserted_in, watching_in, watchers}
use Rattle.diseq.proofs.KeptLaws.{recheck_none, recheck_watched, recheck_some}
use Rattle.diseq.proofs.diseqs.Diseqs.recheck.Goals as goal

pub returns-then-not-branch-clause-none : goal.returns-then-not-branch-clause-none
returns-then-not-branch-clause-none g c =
    let (older, put, kept) = c.requires.older in
    recheck_none (g.B.Bindings.pairs c.args.bindings.now) c.requires.no_cycle older (map sides c.args.added.now) put (asserted_in c.args.self) (watching_in c.args.self) (watchers c.settle.new.self) kept
    c.in_ok-settle.field-0 (rw c.items.ensures at c.in_ok-settle.ensures) (search rules)

pub returns-clause-none : goal.returns-clause-none
returns-clause-none g c =
    let (older, put, kept) = c.requires.older in
    recheck_some (g.B.Bindings.pairs c.args.bindings.now) c.requires.no_cycle older (map sides c.args.added.now) put (asserted_in c.args.self) (watching_in c.args.self) (watchers c.settle.new.self) kept
    c.in_ok-settle.field-0 (rw c.items.ensures at c.in_ok-settle.ensures) _ (search rules)

pub returns-clause-watched : goal.returns-clause-watched
returns-clause-watched g c =
    let (older, put, kept) = c.requires.older in
    recheck_watched (g.B.Bindings.pairs c.args.bindings.now) c.requires.no_cycle older (map sides c.args.added.now) put (asserted_in c.args.self) (watching_in c.args.self) (watchers c.settle.new.self) kept
    c.in_ok-settle.field-0 (rw c.items.ensures at c.in_ok-settle.ensures) (search rules)
