use Rattle.std.proofs.Common.{◌≡◌, ap, map, refl, arith, []}
use Rattle.kan_model.specs.Stores.Kept.{is_kept}
use Rattle.kan_model.specs.Programs.Scope.{is_counted}
use Rattle.kan_model.specs.Stores.Prims.{prim as primitive}
use Rattle.kan_solving.specs.Solving.{replaced_by}
use Rattle.kan_plain.proofs.PlainLaws.{moved_test, moved_answer, nothing_answered, nothing_kept}
use Rattle.kan_plain.specs.PlainStores.{store_in}
use Rattle.kan_plain.proofs.plain.PlainStoreStore.empty.Goals as goal

pub invariant_of-result : goal.invariant_of-result
invariant_of-result c =
    let none : map primitive c.new.result.items ≡ [] = ap (map primitive) c.new.ensures.items in
    record {
      kept = moved_test (λ ps. is_kept (record { prims = ps; counter = 0 })) [] _ none nothing_kept;
      counted = moved_test (λ ps. is_counted (record { prims = ps; counter = 0 })) [] _ none refl;
      bounded = omega arith;
      answered = moved_answer [] _ [] _ none (ap (map replaced_by) c.new-2.ensures.items) nothing_answered;
    }
