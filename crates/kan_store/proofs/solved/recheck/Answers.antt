use Rattle.std.proofs.Common.{◌≡◌, rules, subst}
use Rattle.std.specs.Option.{IfSome}
use Rattle.std.specs.Prelude.{Some, None}
use Rattle.diseq.specs.Kept.{AreWatched}
use Rattle.diseq.specs.Meaning.{asserted_in, disequalities_in, watching_in}
use Rattle.kan_store.proofs.SolvedLaws.{none_identical, nothing_brought}
use Rattle.kan_store.specs.Parts.{BroughtUp}
use Rattle.kan_store.proofs.solved.recheck.Goals as goal

pub returns-then-is_untouched : goal.returns-then-is_untouched
returns-then-is_untouched g c =
    let (older, put, watched) = c.requires.older in
    nothing_brought older (g.B.Bindings.pairs c.args.bindings.now) (disequalities_in c.args.diseqs.now) (c.is_untouched.ensures (search rules)) watched

pub returns-in-None : goal.returns-in-None
returns-in-None g c =
    let same : c.replace-older.result ≡ c.args.diseqs.now = search rules in
    subst (λ ds. BroughtUp (g.B.Bindings.pairs c.args.bindings.now) (disequalities_in ds) None) same (c.in_ok-recheck.ensures.none.0 c.in-None.is)

pub returns-in-Some : goal.returns-in-Some
returns-in-Some g c =
    let same : c.replace-older.result ≡ c.args.diseqs.now = search rules in
    let bound = g.B.Bindings.pairs c.args.bindings.now in
    subst (λ ds. BroughtUp bound (disequalities_in ds) (Some (disequalities_in c.in-Some.brought))) same (
      none_identical c.in_ok-recheck.field-0 c.in-Some.brought _ c.in-Some.is c.in_ok-recheck.ensures.none,
      subst (λ o. IfSome o (λ made. asserted_in made ≡ asserted_in c.replace-older.result)) c.in-Some.is c.in_ok-recheck.ensures.asserted,
      subst (λ o. IfSome o (λ made. AreWatched bound (asserted_in made) (watching_in made))) c.in-Some.is c.in_ok-recheck.ensures.watched,
    )
