use Rattle.std.proofs.Common.{◌≡◌, sym, ◌∙◌, length, rules}
use Rattle.kan_model.specs.Answers.Order.{place_of}
use Rattle.reify.proofs.NamingLaws.{no_place}
use Rattle.reify.proofs.naming.Naming.place.Goals as goal

pub returns-in-None : goal.returns-in-None
returns-in-None c =
    let none : place_of c.args.self.now c.args.var ≡ length c.args.self.now = no_place c.args.self.now c.args.var (sym c.name.ensures ∙ c.in-None.is) in
    search rules
