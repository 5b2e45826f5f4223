-- The stores that come within some pulls, as a family with a constructor for each way of coming.
use Rattle.std.proofs.Common.{◌≡◌, ℕ, zero, suc, ◌≤◌, List, [], ◌∷◌, ◌++◌, Option, None, Contains, inl, inr, refl, sym, ap, subst, ◌∙◌, arith}
use Rattle.std.proofs.lemmas.List.{append-nil}
use Rattle.std.proofs.lemmas.List.Elements.{Contains-append_left, Contains-append_right, Contains-append_cases}
use Rattle.kan_model.specs.Programs.Goals.{Program}
use Rattle.kan_model.specs.Stores.Store.{Store}
use Rattle.kan_model.specs.Streams.Stream.{Stream, Thunk}
use Rattle.kan_model.specs.Streams.Running.{force}
use Rattle.kan_model.specs.Streams.Taking.{Taken, Ending, nothing_more, with_pull, give, take, stores_within}
use Rattle.pull_bounds.specs.Coming.{ComesWithin}

-- heads that no limit stops are all given
given_all : (others : Option ℕ → Taken) (hs : List Store) → (give others hs None).stores ≡ hs ++ (others None).stores
given_all others [] = refl
given_all others (st ∷ sts) = ap (λ rest. st ∷ rest) (given_all others sts)

module _ (program : Program) where
  pub within_ends : (b : ℕ) (hs : List Store) → stores_within program b (Stream.ends hs) ≡ hs
  within_ends zero hs = given_all (λ rest. nothing_more Ending.end) hs ∙ append-nil hs
  within_ends (suc b) hs = given_all (λ rest. nothing_more Ending.end) hs ∙ append-nil hs

  pub within_none : (hs : List Store) (i : Thunk) → stores_within program 0 (Stream.goes_on hs i) ≡ hs
  within_none hs i = given_all (λ rest. nothing_more Ending.fuel) hs ∙ append-nil hs

  pub within_pull : (b : ℕ) (hs : List Store) (i : Thunk) → stores_within program (suc b) (Stream.goes_on hs i) ≡ hs ++ stores_within program b (force program i)
  within_pull b hs i = given_all (λ rest. with_pull (take program b (force program i) rest)) hs

-- a store comes as a head, or after one pull more
pub data Comes (program : Program) : ℕ → Stream → Store → Type 0 where
  last : {b : ℕ} {hs : List Store} {st : Store} → Contains hs st → Comes program b (Stream.ends hs) st
  head : {b : ℕ} {hs : List Store} {i : Thunk} {st : Store} → Contains hs st → Comes program b (Stream.goes_on hs i) st
  pulled : {b : ℕ} {hs : List Store} {i : Thunk} {st : Store} → Comes program b (force program i) st → Comes program (suc b) (Stream.goes_on hs i) st

module _ (program : Program) where
  pub Comes-within : (b : ℕ) (s : Stream) (st : Store) → ComesWithin program b s st → Comes program b s st
  Comes-within b (Stream.ends hs) st h = Comes.last (subst (λ l. Contains l st) (within_ends program b hs) h)
  Comes-within zero (Stream.goes_on hs i) st h = Comes.head (subst (λ l. Contains l st) (within_none program hs i) h)
  Comes-within (suc b) (Stream.goes_on hs i) st h =
      elim (Contains-append_cases hs (stores_within program b (force program i)) st (subst (λ l. Contains l st) (within_pull program b hs i) h)) [
        | inl here ↦ Comes.head here
        | inr there ↦ Comes.pulled (Comes-within b (force program i) st there)
      ]

  pub within-Comes : (b : ℕ) (s : Stream) (st : Store) → Comes program b s st → ComesWithin program b s st
  within-Comes b s st (Comes.last {hs = hs} h) = subst (λ l. Contains l st) (sym (within_ends program b hs)) h
  within-Comes zero s st (Comes.head {hs = hs} {i = i} h) = subst (λ l. Contains l st) (sym (within_none program hs i)) h
  within-Comes (suc b) s st (Comes.head {hs = hs} {i = i} h) =
      subst (λ l. Contains l st) (sym (within_pull program b hs i)) (Contains-append_left hs (stores_within program b (force program i)) st h)
  within-Comes b s st (Comes.pulled {b = c} {hs = hs} {i = i} h) =
      subst (λ l. Contains l st) (sym (within_pull program c hs i))
      (Contains-append_right hs (stores_within program c (force program i)) st (within-Comes c (force program i) st h))

  -- what comes within some pulls comes within more
  pub Comes-more : (b c : ℕ) (s : Stream) (st : Store) → b ≤ c → Comes program b s st → Comes program c s st
  Comes-more b c s st le (Comes.last h) = Comes.last h
  Comes-more b c s st le (Comes.head h) = Comes.head h
  Comes-more b zero s st le (Comes.pulled h) = absurd (omega arith)
  Comes-more b (suc c) s st le (Comes.pulled {b = d} {i = i} h) = Comes.pulled (Comes-more d c (force program i) st (omega arith) h)
