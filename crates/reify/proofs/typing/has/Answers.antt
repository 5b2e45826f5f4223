use Rattle.std.proofs.Common.{◌∙◌, ap}
use Rattle.reify.specs.Typing.{kind_test}
use Rattle.reify.proofs.KindLaws.{kind_is_one}
use Rattle.reify.proofs.typing.has.Goals as goal

pub returns : goal.returns
returns g c = c.is_kind.ensures ∙ ap (kind_test c.args.kind) c.kind.ensures ∙ kind_is_one (g.St.Store.meaning c.args.store.now) c.args.var (g.met.St.Store.kept c.args.store.now) c.args.kind
