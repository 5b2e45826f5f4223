-- What a run takes, with a limit and without one, and the solutions that it has by then.
use Rattle.std.proofs.Common.{◌≡◌, ◌⊎◌, ℕ, zero, suc, ◌<◌, List, [], ◌∷◌, Option, Some, None, Contains, inl, inr, refl, sym, ap, subst, ◌∙◌, arith}
use Rattle.std.proofs.lemmas.Bool.{cases_lt}
use Rattle.kan_terms.specs.Tree.{Tree}
use Rattle.kan_terms.specs.Valuations.{value_at}
use Rattle.kan_model.specs.Programs.Goals.{Program}
use Rattle.kan_model.specs.Stores.Store.{Store, bare}
use Rattle.kan_model.specs.Streams.Stream.{Stream}
use Rattle.kan_model.specs.Streams.Running.{force, start}
use Rattle.kan_model.specs.Streams.Pulls.{pulls_for}
use Rattle.kan_model.specs.Streams.Taking.{Taken, Ending, nothing_more, with_answer, with_pull, give, take, take_query}
use Rattle.kan_model.proofs.Meaning.DerivationLaws.{Derives-from_test}
use Rattle.pull_bounds.specs.Coming.{ComesWithin}
use Rattle.pull_bounds.specs.Finding.{IsSolvedAt, IsTaken, IsCutBefore, WhatComesIsTaken, NoneIsMissed, EndHasAll}
use Rattle.pull_bounds.proofs.Within.{Comes, Comes-within, within-Comes, Comes-more}
use Rattle.pull_bounds.proofs.FoundSolutions.{Finds, derivation_finds}

-- the same stores and the same ending
abbrev AreAlike : Taken → Taken → Type 0
AreAlike t u = (t.stores ≡ u.stores) × (t.ending ≡ u.ending)

-- a limit ends what is taken, or changes nothing of it
abbrev ChangesNothing : Taken → Taken → Type 0
ChangesNothing t whole = (t.ending ≡ Ending.limit) ⊎ AreAlike t whole

with_one_more : (st : Store) (t u : Taken) → ChangesNothing t u → ChangesNothing (with_answer st t) (with_answer st u)
with_one_more st t u (inl e) = inl e
with_one_more st t u (inr (stores, ending)) = inr (ap (λ l. st ∷ l) stores, ending)

after_a_pull : (t u : Taken) → ChangesNothing t u → ChangesNothing (with_pull t) (with_pull u)
after_a_pull t u (inl e) = inl e
after_a_pull t u (inr alike) = inr alike

give_limited : (others : Option ℕ → Taken) → ((l : Option ℕ) → ChangesNothing (others l) (others None)) → (hs : List Store) (l : Option ℕ) →
    ChangesNothing (give others hs l) (give others hs None)
give_limited others rest hs (Some zero) = inl refl
give_limited others rest [] None = rest None
give_limited others rest [] (Some (suc n)) = rest (Some (suc n))
give_limited others rest (st ∷ sts) None = with_one_more st (give others sts None) (give others sts None) (give_limited others rest sts None)
give_limited others rest (st ∷ sts) (Some (suc n)) = with_one_more st (give others sts (Some n)) (give others sts None) (give_limited others rest sts (Some n))

given_ending : (others : Option ℕ → Taken) (hs : List Store) → (give others hs None).ending ≡ (others None).ending
given_ending others [] = refl
given_ending others (st ∷ sts) = given_ending others sts

module _ (program : Program) where
  take_limited : (f : ℕ) (s : Stream) (l : Option ℕ) → ChangesNothing (take program f s l) (take program f s None)
  take_limited zero (Stream.ends hs) l = give_limited (λ rest. nothing_more Ending.end) (λ m. inr (refl, refl)) hs l
  take_limited zero (Stream.goes_on hs i) l = give_limited (λ rest. nothing_more Ending.fuel) (λ m. inr (refl, refl)) hs l
  take_limited (suc f) (Stream.ends hs) l = give_limited (λ rest. nothing_more Ending.end) (λ m. inr (refl, refl)) hs l
  take_limited (suc f) (Stream.goes_on hs i) l =
      give_limited (λ rest. with_pull (take program f (force program i) rest))
      (λ m. after_a_pull (take program f (force program i) m) (take program f (force program i) None) (take_limited f (force program i) m)) hs l

  -- without a limit the stream ends, or the fuel
  end_or_fuel : (f : ℕ) (s : Stream) → ((take program f s None).ending ≡ Ending.end) ⊎ ((take program f s None).ending ≡ Ending.fuel)
  end_or_fuel zero (Stream.ends hs) = inl (given_ending (λ rest. nothing_more Ending.end) hs)
  end_or_fuel zero (Stream.goes_on hs i) = inr (given_ending (λ rest. nothing_more Ending.fuel) hs)
  end_or_fuel (suc f) (Stream.ends hs) = inl (given_ending (λ rest. nothing_more Ending.end) hs)
  end_or_fuel (suc f) (Stream.goes_on hs i) =
      subst (λ e. (e ≡ Ending.end) ⊎ (e ≡ Ending.fuel)) (sym (given_ending (λ rest. with_pull (take program f (force program i) rest)) hs)) (end_or_fuel f (force program i))

  -- where the stream has ended, what ever comes has come
  ended_with_all : (f b : ℕ) (s : Stream) (st : Store) → (take program f s None).ending ≡ Ending.end → Comes program b s st → Comes program f s st
  ended_with_all f b s st e (Comes.last h) = Comes.last h
  ended_with_all f b s st e (Comes.head h) = Comes.head h
  ended_with_all zero b s st e (Comes.pulled {hs = hs} h) = let fuel = given_ending (λ rest. nothing_more Ending.fuel) hs in cc
  ended_with_all (suc f) b s st e (Comes.pulled {b = c} {hs = hs} {i = i} h) =
      Comes.pulled (ended_with_all f c (force program i) st (sym (given_ending (λ rest. with_pull (take program f (force program i) rest)) hs) ∙ e) h)

  comes_or_cut : (pulls f : ℕ) (s : Stream) (st : Store) → ComesWithin program pulls s st → ComesWithin program f s st ⊎ (((take program f s None).ending ≡ Ending.fuel) × (f < pulls))
  comes_or_cut pulls f s st h = elim (cases_lt f pulls) [
    | inr enough ↦ inl (within-Comes program f s st (Comes-more program pulls f s st (omega (arith, enough)) (Comes-within program pulls s st h)))
    | inl less ↦ elim (end_or_fuel f s) [
      | inl e ↦ inl (within-Comes program f s st (ended_with_all f pulls s st e (Comes-within program pulls s st h)))
      | inr e ↦ inr (e, less)
    ]
  ]

-- a store that comes was taken, but for the limit or the fuel
pub what_comes_is_taken : WhatComesIsTaken
what_comes_is_taken program pulls f s l st h = by (take_limited program f s l) (comes_or_cut program pulls f s st h)
  where
    by : ChangesNothing (take program f s l) (take program f s None) → ComesWithin program f s st ⊎ (((take program f s None).ending ≡ Ending.fuel) × (f < pulls)) →
        Contains (take program f s l).stores st ⊎ IsCutBefore pulls f (take program f s l).ending
    by (inl e) _ = inr (inl e)
    by (inr (stores, ending)) (inl there) = inl (subst (λ ts. Contains ts st) (sym stores) there)
    by (inr (stores, ending)) (inr (e, less)) = inr (inr (ending ∙ e, less))

pub none_is_missed : NoneIsMissed
none_is_missed program q fuel u d h = by (what_comes_is_taken program (pulls_for program q.goal d) fuel (start q.goal) q.limit found.store found.comes)
  where
    found : Finds program (pulls_for program q.goal d) (start q.goal) (u ∷ [])
    found = derivation_finds program q.goal (Tree.leaf 0 ∷ []) (bare 1) (u ∷ []) d (refl, refl) (refl, refl) (Derives-from_test program q.goal (u ∷ []) d h)

    solved : IsSolvedAt u found.store
    solved = (found.longer, found.solves, ap (λ us. value_at us 0) found.begins.1)

    by : Contains (take_query program fuel q).stores found.store ⊎ IsCutBefore (pulls_for program q.goal d) fuel (take_query program fuel q).ending →
        IsTaken u (take_query program fuel q) ⊎ IsCutBefore (pulls_for program q.goal d) fuel (take_query program fuel q).ending
    by (inl (k, within, is)) = inl (k, found.store, within, is, solved)
    by (inr cut) = inr cut

pub end_has_all : EndHasAll
end_has_all program q fuel u ended (d, h) = by (none_is_missed program q fuel u d h)
  where
    by : IsTaken u (take_query program fuel q) ⊎ IsCutBefore (pulls_for program q.goal d) fuel (take_query program fuel q).ending → IsTaken u (take_query program fuel q)
    by (inl t) = t
    by (inr (inl e)) = cc
    by (inr (inr (e, less))) = cc
