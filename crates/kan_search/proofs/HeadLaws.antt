-- The next store of a stream comes first of what is taken.
use Rattle.std.proofs.Common.{◌≡◌, ℕ, zero, suc, false, List, [], ◌∷◌, ◌++◌, map, reverse, sym, ◌∙◌, ap, refl}
use Rattle.std.specs.Prelude.{Option, Some, None, option_map}
use Rattle.std.proofs.lemmas.List.{reverse-append}
use Rattle.kan_model.specs.Programs.Goals.{Program}
use Rattle.kan_model.specs.Stores.Store.{Store}
use Rattle.kan_model.specs.Streams.Stream.{Thunk}
use Rattle.kan_model.specs.Streams.Running.{force}
use Rattle.kan_model.specs.Streams.Taking.{Taken, Ending, take, give, less_one, with_answer, with_pull, nothing_more}
use Rattle.stream_core.specs.Suspensions.{going_on}
use Rattle.kan_search.specs.Suspensions.{pulled_stream}
use Rattle.kan_search.specs.Waiting.{is_reached}

give-first : (others : Option ℕ → Taken) (st : Store) (hs : List Store) (l : Option ℕ) → is_reached l ≡ false → give others (st ∷ hs) l ≡ with_answer st (give others hs (less_one l))
give-first others st hs None wanted = refl
give-first others st hs (Some zero) wanted = cc
give-first others st hs (Some (suc n)) wanted = refl

first-taken : (program : Program) (f : ℕ) (st : Store) (hs : List Store) (o : Option Thunk) (l : Option ℕ) → is_reached l ≡ false →
    take program f (going_on (st ∷ hs) o) l ≡ with_answer st (take program f (going_on hs o) (less_one l))
first-taken program zero st hs None l wanted = give-first (λ rest. nothing_more Ending.end) st hs l wanted
first-taken program zero st hs (Some i) l wanted = give-first (λ rest. nothing_more Ending.fuel) st hs l wanted
first-taken program (suc f) st hs None l wanted = give-first (λ rest. nothing_more Ending.end) st hs l wanted
first-taken program (suc f) st hs (Some i) l wanted = give-first (λ rest. with_pull (take program f (force program i) rest)) st hs l wanted

-- where the next store is the last one of a list
pub head-given : {I St : Type 0} (tree : I → Thunk) (means : St → Store) (program : Program) (f : ℕ) (items less : List St) (st : St) (tail : Option I) (l after : Option ℕ) → is_reached l ≡ false → after ≡ less_one l →
    items ≡ less ++ st ∷ [] → take program f (pulled_stream tree means items tail) l ≡ with_answer (means st) (take program f (pulled_stream tree means less tail) after)
head-given tree means program f items less st tail l after wanted fewer last =
    ap (λ xs. take program f (going_on (map means xs) (option_map tree tail)) l) (ap reverse last ∙ reverse-append less (st ∷ []))
    ∙ first-taken program f (means st) (map means (reverse less)) (option_map tree tail) l wanted
    ∙ ap (λ r. with_answer (means st) (take program f (pulled_stream tree means less tail) r)) (sym fewer)
