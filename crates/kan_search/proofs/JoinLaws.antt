-- Answers and pulls in front of what is left.
use Rattle.std.proofs.Common.{◌≡◌, ℕ, suc, ◌+◌, ◌<◌, ◌≤◌, List, [], ◌∷◌, ◌++◌, length, map, sym, ◌∙◌, ap, append_assoc, arith}
use Rattle.std.specs.Prelude.{Some, None}
use Rattle.std.proofs.Math.Logic.{◌⊎◌, inl, inr, ⊎_elim}
use Rattle.std.proofs.lemmas.List.{map-append, length-append, length-map}
use Rattle.kan_model.specs.Stores.Store.{Store}
use Rattle.kan_model.specs.Streams.Taking.{Taken, with_answer, with_pull, nothing_more}
use Rattle.kan_search.specs.Batches.{greatest_batch, batch_then, ending_of, Advances}
use Rattle.kan_search.specs.declared.batch.Ended.{Ended}

-- one answer more goes behind those that are there
pub batch_then-answer : {St : Type 0} (means : St → Store) (answers more : List St) (store : St) (before after : Taken) (pulls : ℕ) → more ≡ answers ++ store ∷ [] → before ≡ with_answer (means store) after →
    batch_then (map means answers) pulls before ≡ batch_then (map means more) pulls after
batch_then-answer means answers more store before after pulls grown gives =
    ap (batch_then (map means answers) pulls) gives
    ∙ ap (λ xs. record { stores = xs; pulls = pulls + after.pulls; ending = after.ending })
    (sym (append_assoc (map means answers) (means store ∷ []) after.stores) ∙ ap (λ xs. xs ++ after.stores) (sym (ap (map means) grown ∙ map-append means answers (store ∷ []))))

-- one pull more
pub batch_then-pull : (answers : List Store) (pulls : ℕ) (before after : Taken) → before ≡ with_pull after → batch_then answers pulls before ≡ batch_then answers (pulls + 1) after
batch_then-pull answers pulls before after pulled =
    let moved : pulls + suc after.pulls ≡ (pulls + 1) + after.pulls = omega arith in
    ap (batch_then answers pulls) pulled ∙ ap (λ n. record { stores = answers ++ after.stores; pulls = n; ending = after.ending }) moved

-- a list with fewer items than a number has at most so many with one more
pub longer-few : {X : Type 0} (xs more : List X) (x : X) (most : ℕ) → more ≡ xs ++ x ∷ [] → length xs < most → length more ≤ most
longer-few xs more x most grown few =
    let long : length more ≡ length xs + 1 = ap length grown ∙ length-append xs (x ∷ []) in omega (arith, long, few)

-- a batch that stops without an end, having its answers or its pulls
pub advances-on : {St : Type 0} (means : St → Store) (round pulls made : ℕ) (before after : Taken) (answers : List St) (pulls_after : ℕ) → before ≡ batch_then (map means answers) made after → pulls_after ≡ pulls + made →
    length answers ≤ greatest_batch → made ≤ round → (length answers ≡ greatest_batch) ⊎ (made ≡ round) → Advances round before pulls (map means answers) None after pulls_after
advances-on means round pulls made before after answers pulls_after joins counted few within ends =
    let long : length (map means answers) ≡ length answers = length-map answers means in
    record { made = made; counted = counted; within = within; joins = joins; few = omega (arith, long, few); ends = ⊎_elim (λ e. inl (long ∙ e)) (λ e. inr e) ends }

-- a batch in which the run ended
pub advances-end : {St : Type 0} (means : St → Store) (round pulls made : ℕ) (before after : Taken) (answers : List St) (pulls_after : ℕ) (ended : Ended) → before ≡ batch_then (map means answers) made after → pulls_after ≡ pulls + made →
    length answers ≤ greatest_batch → made ≤ round → after ≡ nothing_more (ending_of ended) → Advances round before pulls (map means answers) (Some ended) after pulls_after
advances-end means round pulls made before after answers pulls_after ended joins counted few within ends =
    let long : length (map means answers) ≡ length answers = length-map answers means in
    record { made = made; counted = counted; within = within; joins = joins; few = omega (arith, long, few); ends = ends }
