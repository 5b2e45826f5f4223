use Rattle.std.proofs.Common.{arith, ap, length}
use Rattle.goal_forms.proofs.DefinedLaws.{few_rows}
use Rattle.goal_forms.specs.Parts.{sites}
use Rattle.goal_forms.proofs.definitions.define.Goals as goal

pub overflow_cast-before : goal.overflow_cast-before
overflow_cast-before c =
    let few = few_rows c.args.names.now (sites c.args.flat.now) c.args.library.now c.new-rows.result.items _ c.in_ok-define_all.ensures in
    omega (arith, few, ap length c.new-rows.ensures.items)

pub of-requires : goal.of-requires
of-requires c =
    let few = few_rows c.args.names.now (sites c.args.flat.now) c.args.library.now c.new-rows.result.items c.define_all.new.rows.items c.in_ok-define_all.ensures in
    let more = few_rows c.args.names.now (sites c.args.flat.now) c.args.text.now c.define_all.new.rows.items c.define_all-2.new.rows.items c.in_ok-define_all-2.ensures in
    omega (arith, few, more, ap length c.new-rows.ensures.items)
