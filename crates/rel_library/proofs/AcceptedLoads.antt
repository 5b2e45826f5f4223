-- Each load is accepted.
use Rattle.std.proofs.Common.{◌≡◌, ◌+◌, ◌<◌, ◌≤◌, ℕ, true, inl, inr, arith}
use Rattle.std.specs.Prelude.{◌⊎◌}
use Rattle.std.proofs.lemmas.Bool.{cases_lt}
use Rattle.rel_library.specs.Accepted.{LoadIsAccepted, LoadsAreAccepted}
use Rattle.rel_library.proofs.LoadTests.{all_from, accepted_among}
use Rattle.rel_library.proofs.LoadsBelow120.{from_0, from_60}
use Rattle.rel_library.proofs.LoadsBelow200.{from_120, from_160}
use Rattle.rel_library.proofs.LoadsBelow270.{from_200, from_230, from_250}
use Rattle.rel_library.proofs.LoadsBelow320.{from_270, from_290, from_305}
use Rattle.rel_library.proofs.LoadsBelow360.{from_320, from_330, from_340, from_350}
use Rattle.rel_library.proofs.LoadsTo400.{from_360, from_370, from_380, from_390, from_400}

-- in a row of loads, or behind it
row_or_later : (k n i end : ℕ) → all_from k n ≡ true → n ≤ i → i ≤ 400 → end ≡ n + k → (end ≤ i → LoadIsAccepted i) → LoadIsAccepted i
row_or_later k n i end all low few is later = go (cases_lt i end)
  where
    go : (i < end) ⊎ (end ≤ i) → LoadIsAccepted i
    go (inl below) = accepted_among k n i all low (omega (arith, below, is)) few
    go (inr above) = later above

pub loads_are_accepted : LoadsAreAccepted
loads_are_accepted i few =
    row_or_later 60 0 i 60 from_0 (omega arith) few (omega arith) (λ low_60.
    row_or_later 60 60 i 120 from_60 low_60 few (omega arith) (λ low_120.
    row_or_later 40 120 i 160 from_120 low_120 few (omega arith) (λ low_160.
    row_or_later 40 160 i 200 from_160 low_160 few (omega arith) (λ low_200.
    row_or_later 30 200 i 230 from_200 low_200 few (omega arith) (λ low_230.
    row_or_later 20 230 i 250 from_230 low_230 few (omega arith) (λ low_250.
    row_or_later 20 250 i 270 from_250 low_250 few (omega arith) (λ low_270.
    row_or_later 20 270 i 290 from_270 low_270 few (omega arith) (λ low_290.
    row_or_later 15 290 i 305 from_290 low_290 few (omega arith) (λ low_305.
    row_or_later 15 305 i 320 from_305 low_305 few (omega arith) (λ low_320.
    row_or_later 10 320 i 330 from_320 low_320 few (omega arith) (λ low_330.
    row_or_later 10 330 i 340 from_330 low_330 few (omega arith) (λ low_340.
    row_or_later 10 340 i 350 from_340 low_340 few (omega arith) (λ low_350.
    row_or_later 10 350 i 360 from_350 low_350 few (omega arith) (λ low_360.
    row_or_later 10 360 i 370 from_360 low_360 few (omega arith) (λ low_370.
    row_or_later 10 370 i 380 from_370 low_370 few (omega arith) (λ low_380.
    row_or_later 10 380 i 390 from_380 low_380 few (omega arith) (λ low_390.
    row_or_later 10 390 i 400 from_390 low_390 few (omega arith) (λ low_400.
    row_or_later 1 400 i 401 from_400 low_400 few (omega arith) (λ low_401.
    absurd (omega (arith, few, low_401)))))))))))))))))))))
