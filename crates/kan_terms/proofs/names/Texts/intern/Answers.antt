-- A new text goes to the end of the set, so to the end of the table.
use Rattle.std.specs.Prelude.{◌≡◌, None, map, string_bytes}
use Rattle.std.proofs.Common.{arith, ap, length, Global}
use Rattle.std.specs.declared.string.String.{String}
use Rattle.std.proofs.lemmas.List.{length-map}
use Rattle.kan_terms.specs.Table.{number_of}
use Rattle.kan_terms.proofs.TableLaws.{Inserts, Inserts-full}
use Rattle.kan_terms.proofs.names.Texts.intern.Goals as goal

inserts : (c : goal.In_ok-number) → Inserts string_bytes c.self.inside.texts.keys c.insert_full.new.self.keys c.args.text.now c.in_ok-number.number
inserts c =
    let none : number_of (map string_bytes c.self.inside.texts.keys) c.args.text.now ≡ None = cc in
    Inserts-full string_bytes c.self.inside.texts.keys c.insert_full.new.self.keys c.in_ok-owned.owned c.args.text.now c.in_ok-number.number c.in_ok-owned.ensures.ok none c.in_ok-number.ensures.keys c.in_ok-number.ensures.index

pub invariant_of-self-2 : goal.invariant_of-self-2
invariant_of-self-2 c = ((inserts c).distinct c.self.invariant.0, omega (arith, (inserts c).longer, length-map {A = String Global} c.self.inside.texts.keys string_bytes, ap length c.self.view_is))

pub returns-clause-table : goal.returns-clause-table
returns-clause-table c = let e = (inserts c).table in cc

pub returns-clause-number : goal.returns-clause-number
returns-clause-number c = (inserts c).number_is

pub returns-clause-distinct : goal.returns-clause-distinct
returns-clause-distinct c = (inserts c).distinct c.self.invariant.0
