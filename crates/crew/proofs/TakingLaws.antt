-- A task that was taken, and whom it was taken from.
use Rattle.std.proofs.Common.{◌≡◌, ◌+◌, List, [], ◌∷◌, ◌++◌, Option, None, Some, sym, ap, ◌∙◌, arith}
use Rattle.std.specs.Prelude.{IfSome, IfNone, IsPermutation}
use Rattle.std.specs.Option.{option_to_list}
use Rattle.std.proofs.lemmas.List.{append-nil}
use Rattle.task_deques.proofs.Lists.{like, then, before, to_end}

module _ {T : Type 0} where
  -- one that was taken stands behind all that were
  pub took_own : (old new others : List T) (r : Option T) → IfSome r (λ x. new ≡ old ++ x ∷ []) → IfNone r (new ≡ old) → IsPermutation (new ++ others) ((old ++ others) ++ option_to_list r)
  took_own old new others None s n = like _ _ (ap (λ l. l ++ others) n ∙ sym (append-nil (old ++ others)))
  took_own old new others (Some x) s n = then (like _ _ (ap (λ l. l ++ others) s)) (to_end old (x ∷ []) others)

  -- where one's own deque gave nothing
  pub took_then : (old between new more : List T) → IsPermutation between (old ++ []) → IsPermutation new (between ++ more) → IsPermutation new (old ++ more)
  took_then old between new more p q = then q (before more (then p (like _ _ (append-nil old))))
