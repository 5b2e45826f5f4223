use Rattle.std.proofs.Common.{◌≡◌, ◌+◌, ◌∙◌, ap, map, arith}
use Rattle.kan_model.specs.Stores.Kept.{is_kept}
use Rattle.kan_model.specs.Programs.Scope.{is_counted}
use Rattle.kan_model.specs.Stores.Prims.{prim as primitive}
use Rattle.kan_solving.specs.Solving.{replaced_by}
use Rattle.kan_plain.proofs.PlainLaws.{moved_test, moved_answer, counted_more}
use Rattle.kan_plain.specs.PlainStores.{store_in}
use Rattle.kan_plain.proofs.plain.PlainStoreStore.fresh.Goals as goal

pub invariant_of-result : goal.invariant_of-result
invariant_of-result c =
    let same : map primitive c.in_ok-copied.field-0.items ≡ map primitive c.args.self.now.prims.items = c.in_ok-copied.ensures ∙ ap (map primitive) c.deref.ensures.value in
    record {
      kept = moved_test (λ ps. is_kept (record { prims = ps; counter = c.args.self.now.counter })) _ _ same c.args.self.now.kept;
      counted = moved_test (λ ps. is_counted (record { prims = ps; counter = c.args.self.now.counter + c.from.result })) _ _ same (counted_more c.args.self.now.counter c.from.result (map primitive c.args.self.now.prims.items) c.args.self.now.counted);
      bounded = omega (arith, c.requires, c.from.ensures);
      answered = moved_answer _ _ _ _ same (c.in_ok-copied_answer.ensures ∙ ap (map replaced_by) c.deref-2.ensures.value) c.args.self.now.answered;
    }
