-- Each kind of step keeps the rule.
use Rattle.std.proofs.Common.{◌≡◌, cond, ◌⊎◌, ⊎_elim, inl, inr, ℕ, zero, suc, ◌+◌, ◌%◌, ◌^◌, ◌<◌, ◌≤◌, List, [], ◌∷◌, Bool, set, true, false, true≢false, refl, sym, ap, ◌∙◌, subst, arith}
use Rattle.std.specs.Prelude.{slice_set, slice_index, ◌==◌}
use Rattle.std.proofs.Math.Nat.{mod-eq_of_lt}
use mathlib.Core.Option.{some, some-injective, some-ne-none}
use lib.ListN.{get_elem?}
use prog.Atomic.{either}
use Rattle.atomic_table.specs.Table.{State, Me, Allows, Splits, Joins, Final, Seen, opening, keeps}
use Rattle.atomic_table.proofs.Lists.{exchanged}
use Rattle.pull_budget.specs.declared.rule.View.{View}
use Rattle.pull_budget.specs.Rule.{Words, word_list, FitsHired, Fits, IsKept, Kept}
use Rattle.pull_budget.specs.Views.{fresh, opener, hired_view, joined_view, after_pull, after_seeing, after_reading, after_try, after_stop, is_set, after_asking, after_bound}
use Rattle.pull_budget.proofs.KeptViews.{change_fits, change_keeps, push_keeps, other_hired}

-- a seat that pulls is not hired
not_hired : (v : View) → v.puller ≡ true → v.puller ≡ false → FitsHired v
not_hired v p q = absurd (true≢false (sym p ∙ q))

pub sees : (slots id : ℕ) (me : Me (Unit {0}) View) → Allows Kept slots id me 0 (λ n. n) (λ n now. (now ≡ (after_seeing me.0 n, me.1)) × (n ≤ 2 ^ 62))
sees slots id me s h len at lt =
    let mine = h.fits id me.0 at in
    let n = slice_index s.words 0 in
    let is : n ≡ h.words.pulls = ap (λ ws. slice_index ws 0) h.listed in
    let w : View = after_seeing me.0 n in (
      w,
      keeps,
      tt,
      change_fits s h h.words 0 n id me.0 w at refl (λ i. slice_set (h.listed i) 0 (is i)) (λ by u apart e. h.fits by u e)
          record {
            own = λ p. let own = mine.own p in (own.0, record { made = own.1.made; ahead = own.1.ahead; stop = own.1.stop });
            other = λ p. let other = mine.other p in record { made = other.made; ender = other.ender };
            ahead = mine.ahead;
            seen = omega (arith, is);
            read = mine.read;
            found = mine.found;
            set = mine.set;
          }
          h.bound h.low,
      (refl, subst (λ (m : ℕ). m ≤ 2 ^ 62) (sym is) h.low),
    )

pub reads : (slots id : ℕ) (me : Me (Unit {0}) View) → Allows Kept slots id me 1 (λ n. n) (λ n now. now ≡ (after_reading me.0 n, me.1))
reads slots id me s h len at lt =
    let mine = h.fits id me.0 at in
    let n = slice_index s.words 1 in
    let is : n ≡ h.words.begun = ap (λ ws. slice_index ws 1) h.listed in
    let w : View = after_reading me.0 n in (
      w,
      keeps,
      tt,
      change_fits s h h.words 1 n id me.0 w at refl (λ i. slice_set (h.listed i) 1 (is i)) (λ by u apart e. h.fits by u e)
          record {
            own = λ p. let own = mine.own p in (own.0, record { made = own.1.made; ahead = own.1.ahead; stop = own.1.stop });
            other = λ p. let other = mine.other p in record { made = other.made; ender = other.ender };
            ahead = mine.ahead;
            seen = mine.seen;
            read = omega (arith, is);
            found = mine.found;
            set = mine.set;
          }
          h.bound h.low,
      refl,
    )

-- a word that is read as set is one, where it is one or none
set_is_one : (v : View) (stop n : ℕ) → n ≡ stop → (stop ≡ 0) ⊎ (stop ≡ 1) → is_set n ≡ true → stop ≡ 1
set_is_one v stop n is either set = ⊎_elim (λ (e : stop ≡ 0). absurd (true≢false (sym set ∙ ap is_set (is ∙ e)))) (λ (e : stop ≡ 1). e) either

pub asks : (slots id : ℕ) (me : Me (Unit {0}) View) → Allows Kept slots id me 2 (λ n. n) (λ n now. now ≡ (after_asking me.0 (is_set n), me.1))
asks slots id me s h len at lt =
    let mine = h.fits id me.0 at in
    let n = slice_index s.words 2 in
    let is : n ≡ h.words.stop = ap (λ ws. slice_index ws 2) h.listed in
    let w : View = after_asking me.0 (is_set n) in (
      w,
      keeps,
      tt,
      change_fits s h h.words 2 n id me.0 w at refl (λ i. slice_set (h.listed i) 2 (is i)) (λ by u apart e. h.fits by u e)
          record {
            own = λ p. let own = mine.own p in (own.0, record { made = own.1.made; ahead = own.1.ahead; stop = own.1.stop });
            other = λ p. let other = mine.other p in record { made = other.made; ender = other.ender };
            ahead = mine.ahead;
            seen = mine.seen;
            read = mine.read;
            found = mine.found;
            set = λ p. set_is_one w h.words.stop n is (one_or_none s h) p;
          }
          h.bound h.low,
      refl,
    )
  where
    one_or_none : (s : State (Unit {0}) View) (h : Kept s) → (h.words.stop ≡ 0) ⊎ (h.words.stop ≡ 1)
    one_or_none s h = by h.pulling.view.ender ((h.fits h.puller h.pulling.view h.pulling.here).own h.pulling.puller).1.stop
      where
        by : (b : Bool) → h.words.stop ≡ cond b 1 0 → (h.words.stop ≡ 0) ⊎ (h.words.stop ≡ 1)
        by true e = inr e
        by false e = inl e

-- what begun becomes keeps the bound, and does not fall
raised : (begun old most : ℕ) → begun ≤ most → old < most → (begun ≤ either (begun == old) (old + 1) begun) × (either (begun == old) (old + 1) begun ≤ most)
raised begun old most few room = exchanged begun old (old + 1) (λ n. (begun ≤ n) × (n ≤ most)) (λ e. (omega (arith, e), omega (arith, room))) (λ _. (omega arith, few))

pub raises : (slots id : ℕ) (me : Me (Unit {0}) View) (old : ℕ) → old ≡ me.0.read → old < me.0.seen + me.0.ahead
    → Allows Kept slots id me 1 (λ n. either (n == old) (old + 1) n) (λ n now. (old ≡ me.0.read) × (now ≡ (after_try me.0 n, me.1)))
raises slots id me old is_read room s h len at lt =
    let mine = h.fits id me.0 at in
    let n = slice_index s.words 1 in
    let is : n ≡ h.words.begun = ap (λ ws. slice_index ws 1) h.listed in
    let up = raised h.words.begun old (h.words.pulls + h.words.bound) h.bound (let a = mine.seen in let b = mine.ahead in omega (arith, room, a, b)) in
    let next : ℕ = either (h.words.begun == old) (old + 1) h.words.begun in
    let ws : Words = record { pulls = h.words.pulls; begun = next; stop = h.words.stop; bound = h.words.bound } in
    let rises = up.0 in
    let w : View = after_try me.0 n in (
      w,
      keeps,
      tt,
      change_fits s h ws 1 (either (n == old) (old + 1) n) id me.0 w at refl (λ i. slice_set (h.listed i) 1 (either (is i == old) (old + 1) (is i)))
          (λ by u apart e. let f = h.fits by u e in record {
            own = λ p. let own = f.own p in (own.0, record { made = own.1.made; ahead = own.1.ahead; stop = own.1.stop });
            other = f.other;
            ahead = f.ahead;
            seen = f.seen;
            read = let a = f.read in omega (arith, a, rises);
            found = let a = f.found in omega (arith, a, rises);
            set = f.set;
          })
          record {
            own = λ p. let own = mine.own p in (own.0, record { made = own.1.made; ahead = own.1.ahead; stop = own.1.stop });
            other = λ p. let other = mine.other p in record { made = other.made; ender = other.ender };
            ahead = mine.ahead;
            seen = mine.seen;
            read = let a = mine.read in omega (arith, a, rises);
            found = omega (arith, is, rises);
            set = mine.set;
          }
          up.1 h.low,
      (is_read, refl),
    )

pub pulls : (slots id : ℕ) (me : Me (Unit {0}) View) → me.0.puller ≡ true → me.0.made < 2 ^ 62 → Allows Kept slots id me 0 (λ n. (n + 1) % 2 ^ 64) (λ n now. now ≡ (after_pull me.0, me.1))
pulls slots id me p few s h len at lt =
    let mine = h.fits id me.0 at in
    let own = mine.own p in
    let made = own.1.made in
    let is : slice_index s.words 0 ≡ h.words.pulls = ap (λ ws. slice_index ws 0) h.listed in
    let low : h.words.pulls + 1 < 2 ^ 64 = subst (λ n. n + 1 < 2 ^ 64) made (omega (arith, few)) in
    let next : (slice_index s.words 0 + 1) % 2 ^ 64 ≡ h.words.pulls + 1 = ap (λ n. (n + 1) % 2 ^ 64) is ∙ mod-eq_of_lt low in
    let ws : Words = record { pulls = h.words.pulls + 1; begun = h.words.begun; stop = h.words.stop; bound = h.words.bound } in
    let w : View = after_pull me.0 in (
      w,
      keeps,
      tt,
      change_fits s h ws 0 ((slice_index s.words 0 + 1) % 2 ^ 64) id me.0 w at refl (λ i. slice_set (h.listed i) 0 (next i))
          (λ by u apart e. let f = h.fits by u e in record {
            own = λ q. absurd (other_hired s h id me.0 at p by u apart e q);
            other = f.other;
            ahead = f.ahead;
            seen = let a = f.seen in omega (arith, a);
            read = f.read;
            found = f.found;
            set = f.set;
          })
          record {
            own = λ _. (own.0, record { made = ap (λ n. n + 1) made; ahead = own.1.ahead; stop = own.1.stop });
            other = not_hired w p;
            ahead = mine.ahead;
            seen = let a = mine.seen in omega (arith, a);
            read = mine.read;
            found = mine.found;
            set = mine.set;
          }
          (let b = h.bound in omega (arith, b))
          (subst (λ n. n + 1 ≤ 2 ^ 62) made (omega (arith, few))),
      refl,
    )

pub stops : (slots id : ℕ) (me : Me (Unit {0}) View) → me.0.puller ≡ true → Allows Kept slots id me 2 (λ _. 1) (λ _ now. now ≡ (after_stop me.0, me.1))
stops slots id me p s h len at lt =
    let mine = h.fits id me.0 at in
    let own = mine.own p in
    let ws : Words = record { pulls = h.words.pulls; begun = h.words.begun; stop = 1; bound = h.words.bound } in
    let w : View = after_stop me.0 in (
      w,
      keeps,
      tt,
      change_fits s h ws 2 1 id me.0 w at refl (λ i. slice_set (h.listed i) 2 1)
          (λ by u apart e. let f = h.fits by u e in record {
            own = λ q. absurd (other_hired s h id me.0 at p by u apart e q);
            other = f.other;
            ahead = f.ahead;
            seen = f.seen;
            read = f.read;
            found = f.found;
            set = λ _. refl;
          })
          record {
            own = λ _. (own.0, record { made = own.1.made; ahead = own.1.ahead; stop = refl });
            other = not_hired w p;
            ahead = mine.ahead;
            seen = mine.seen;
            read = mine.read;
            found = mine.found;
            set = λ _. refl;
          }
          h.bound h.low,
      refl,
    )

pub bounds : (slots id n : ℕ) (me : Me (Unit {0}) View) → me.0.puller ≡ true → me.0.ahead ≡ 0 → Allows Kept slots id me 3 (λ _. n) (λ _ now. now ≡ (after_bound me.0 n, me.1))
bounds slots id n me p none s h len at lt =
    let mine = h.fits id me.0 at in
    let own = mine.own p in
    let was : h.words.bound ≡ 0 = sym own.1.ahead ∙ none in
    let ws : Words = record { pulls = h.words.pulls; begun = h.words.begun; stop = h.words.stop; bound = n } in
    let w : View = after_bound me.0 n in (
      w,
      keeps,
      tt,
      change_fits s h ws 3 n id me.0 w at refl (λ i. slice_set (h.listed i) 3 n)
          (λ by u apart e. let f = h.fits by u e in record {
            own = λ q. absurd (other_hired s h id me.0 at p by u apart e q);
            other = f.other;
            ahead = let a = f.ahead in omega (arith, a, was);
            seen = f.seen;
            read = f.read;
            found = f.found;
            set = f.set;
          })
          record {
            own = λ _. (own.0, record { made = own.1.made; ahead = refl; stop = own.1.stop });
            other = not_hired w p;
            ahead = omega arith;
            seen = mine.seen;
            read = mine.read;
            found = mine.found;
            set = mine.set;
          }
          (let b = h.bound in omega (arith, b, was)) h.low,
      refl,
    )

-- a seat that has done nothing fits, wherever it stands
idle : (ws : Words) (puller ahead seen : ℕ) → ahead ≤ ws.bound → seen ≤ ws.pulls → (by : ℕ) → Fits ws puller by (fresh false ahead seen)
idle ws puller ahead seen a b by = record {
  own = λ q. absurd (true≢false (sym q));
  other = λ _. record { made = refl; ender = refl };
  ahead = a;
  seen = b;
  read = omega arith;
  found = omega arith;
  set = λ q. absurd (true≢false (sym q));
}

pub splits : (id : ℕ) (v : View) → Splits Kept id v v (hired_view v)
unfolding change_keeps
splits id v s h at =
    let mine = h.fits id v at in
    let k : IsKept s.words (set s.views id v) = change_keeps s.words s.views h id v v at refl mine in
    push_keeps s.words (set s.views id v) (hired_view v) k (idle h.words h.puller v.ahead v.seen mine.ahead mine.seen)

pub joins : (id : ℕ) (v : View) (other : ℕ) (w : View) → w.puller ≡ false → Joins Kept id v other w v joined_view
unfolding change_keeps
joins id v other w plain s h at apart at' =
    let k : IsKept s.words (set s.views id v) = change_keeps s.words s.views h id v v at refl (h.fits id v at) in
    change_keeps s.words (set s.views id v) k other w joined_view at' (sym plain) (idle h.words h.puller 0 0 (omega arith) (omega arith) other)

only : (u v : View) (by : ℕ) → get_elem? (u ∷ []) by ≡ some v → (by ≡ 0) × (u ≡ v)
only u v zero e = (refl, some-injective u v e)
only u v (suc by) e = absurd (some-ne-none v (sym e))

pub opens : Kept (opening (0 ∷ 0 ∷ 0 ∷ 0 ∷ []) [] opener)
opens = record {
  words = none;
  puller = 0;
  listed = refl;
  pulling = record { view = opener; here = refl; puller = refl };
  fits = λ by u e. let o = only opener u by e in subst (λ (y : ℕ × View). Fits none 0 y.0 y.1) (λ i. (sym o.0 i, o.1 i)) first;
  bound = omega arith;
  low = omega arith;
}
  where
    none : Words
    none = record { pulls = 0; begun = 0; stop = 0; bound = 0 }

    first : Fits none 0 0 opener
    first = record {
      own = λ _. (refl, record { made = refl; ahead = refl; stop = refl });
      other = λ q. absurd (true≢false q);
      ahead = omega arith;
      seen = omega arith;
      read = omega arith;
      found = omega arith;
      set = λ q. absurd (true≢false (sym q));
    }

-- what the rule says at the end
pub record Ended (v : View) (p b : ℕ) : Type 0 where
  pub bound : b ≤ p + v.ahead
  pub pulls : p ≡ v.made
  pub seen : v.seen ≤ p
  pub read : v.read ≤ b

pub puller_ended : (id : ℕ) (v : View) (ws : List ℕ) (xs : List (Unit {0})) (pulls begun : ℕ) → Final (Seen Kept id v) ws xs → v.puller ≡ true → get_elem? ws 0 ≡ some pulls → get_elem? ws 1 ≡ some begun → Ended v pulls begun
puller_ended id v ws xs pulls begun f puller at0 at1 =
    let h : Kept f.0 = f.1.0 in
    let mine = h.fits id v f.1.1 in
    let own = (mine.own puller).1 in
    let listed : word_list h.words ≡ ws = sym h.listed ∙ f.2 in
    let is0 : h.words.pulls ≡ pulls = some-injective h.words.pulls pulls (ap (λ l. get_elem? l 0) listed ∙ at0) in
    let is1 : h.words.begun ≡ begun = some-injective h.words.begun begun (ap (λ l. get_elem? l 1) listed ∙ at1) in
    let bound = h.bound in
    let ahead = own.ahead in
    let seen = mine.seen in
    let read = mine.read in
    record {
      bound = omega (arith, bound, is0, is1, ahead);
      pulls = sym (own.made ∙ is0);
      seen = omega (arith, seen, is0);
      read = omega (arith, read, is1);
    }
