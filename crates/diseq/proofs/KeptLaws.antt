-- Disequalities stay kept as they are looked at again.
use Rattle.std.proofs.Common.{◌≡◌, ◌≢◌, ◌↔◌, ℕ, suc, ◌<◌, ◌+◌, Bool, true, false, ◌&&◌, ◌||◌, not, eqb, List, [], ◌∷◌, ◌++◌, ◌⊎◌, length, drop, drop-cons, map, get_or, Option, Some, None, inl, inr, sym, ap, subst, refl, arith, ◌∙◌, if◌then◌else◌, append_assoc}
use Rattle.std.specs.List.{list_any}
use Rattle.std.specs.Coded.{Coded-set, coded_bool}
use Rattle.std.proofs.Math.Logic.{∥∥₁_elim, ∥∥₁_map}
use Rattle.std.proofs.lemmas.Bool.{or_left, or_right, eq-eqb, eqb-true, true≢false, false_from_ne_true}
use Rattle.std.proofs.lemmas.List.{drop_all}
use Rattle.kan_terms.specs.Tree.{Tree, Tm}
use Rattle.kan_terms.specs.Terms.{sides, tree}
use Rattle.kan_terms.specs.declared.terms.TermPair.{TermPair}
use Rattle.kan_model.specs.Stores.Kept.{is_variable}
use Rattle.unify_core.specs.Walking.{Pairs, ends}
use Rattle.unify_core.specs.Cycles.{HasNoCycle}
use Rattle.unify_core.specs.Solutions.{AddedTo}
use Rattle.unify_core.proofs.GrowthLaws.{Grown}
use Rattle.unify_core.proofs.CycleLaws.{grown}
use Rattle.unify_core.proofs.AddedLaws.{added_solutions}
use Rattle.diseq.specs.Among.{Among}
use Rattle.diseq.specs.Disequalities.{Disequality, SaysAsMuch, NeverEqual, is_identical}
use Rattle.diseq.specs.Kept.{Watchers, IsKept, StandsFor, AreKept, AreWatched}
use Rattle.diseq.specs.Looking.{IsGiven, IsPut, IsTaken, IsWeaker, LooksAt, Settles, SettlesAll, is_settled, is_fine}
use Rattle.diseq.specs.Watching.{is_watchable, is_apart, is_watched_by, watches, is_woken}
use Rattle.diseq.proofs.AmongLaws.{among-left, among-last, among-cases, any-among, none-among}
use Rattle.diseq.proofs.BroughtLaws.{full_solves, unifies_identical, identical_unifies}
use Rattle.diseq.proofs.ListLaws.{and_both}
use Rattle.kan_model.specs.Stores.Unifiers.{Unifies}
use Rattle.diseq.proofs.WatchLaws.{watchable_differs_grown, stays_watchable}

-- saying as much, twice
pub says_twice : (bound : Pairs) (es fs gs : Disequality) → SaysAsMuch bound es fs → SaysAsMuch bound fs gs → SaysAsMuch bound es gs
says_twice bound es fs gs h k f s = (λ u. (k f s).0 ((h f s).0 u), λ u. (h f s).1 ((k f s).1 u))

-- a variable that watches a disequality is the only one
pub watched_once : (x y : ℕ) (es : Disequality) → is_watched_by x es ≡ true → is_watched_by y es ≡ true → eqb y x ≡ true
watched_once x y [] h k = cc
watched_once x y (e ∷ es) h k = by e.left h k
  where
    by : (t : Tm) → is_variable x t ≡ true → is_variable y t ≡ true → eqb y x ≡ true
    by (Tree.leaf z) h k = eq-eqb y x (eqb-true y z k ∙ sym (eqb-true x z h))
    by (Tree.sym s) h k = cc
    by (Tree.str s) h k = cc
    by (Tree.num n) h k = cc
    by (Tree.truth b) h k = cc
    by Tree.nil h k = cc
    by (Tree.pair a b) h k = cc

-- and a watchable one has one
pub has_watcher : (bound : Pairs) (es : Disequality) → is_watchable bound es ≡ true → (x : ℕ) × (is_watched_by x es ≡ true)
has_watcher bound [] h = cc
has_watcher bound (e ∷ es) h = by e.left h
  where
    by : (t : Tm) → is_apart bound t e.right ≡ true → (x : ℕ) × (is_variable x t ≡ true)
    by (Tree.leaf z) h = (z, eq-eqb z z refl)
    by (Tree.sym s) h = cc
    by (Tree.str s) h = cc
    by (Tree.num n) h = cc
    by (Tree.truth b) h = cc
    by Tree.nil h = cc
    by (Tree.pair a b) h = cc

pub taken_nothing : (old : Watchers) (x : ℕ) → IsTaken old x old
taken_nothing old x = record { others = λ y e fs a. a; fewer = λ y fs a. a }

-- the variable that watches a disequality has it
module _ (old new : Watchers) (x : ℕ) (es : Disequality) (watcher : (y : ℕ) → is_watched_by y es ≡ eqb y x) (put : IsPut old x es new) where
  place : (y : ℕ) (c : Bool) → eqb y x ≡ c → new y ≡ (if c then old y ++ es ∷ [] else old y)
  place y c e = put y ∙ ap (λ c. if c then old y ++ es ∷ [] else old y) e

  put_more : (y : ℕ) (fs : Disequality) → Among fs (old y) → (c : Bool) → eqb y x ≡ c → Among fs (new y)
  put_more y fs a true e = subst (Among fs) (sym (place y true e)) (among-left fs (old y) (es ∷ []) a)
  put_more y fs a false e = subst (Among fs) (sym (place y false e)) a

  put_only : (y : ℕ) (fs : Disequality) → Among fs (new y) → (c : Bool) → eqb y x ≡ c → Among fs (old y) ⊎ (fs ≡ es)
  put_only y fs a true e = among-cases fs es (old y) (subst (Among fs) (place y true e) a)
  put_only y fs a false e = inl (subst (Among fs) (place y false e) a)

  pub put_given : IsGiven old es new
  put_given = record {
    listed = λ y h. subst (Among es) (sym (place y true (sym (watcher y) ∙ h))) (among-last es (old y));
    more = λ y fs a. put_more y fs a (eqb y x) refl;
    only = λ y fs a. put_only y fs a (eqb y x) refl;
  }

-- a weaker test
pub kept_weaker : (bound : Pairs) (test weak : Disequality → Bool) → ((es : Disequality) → test es ≡ true → weak es ≡ true) → (asserted waiting : List Disequality) (watching : Watchers) →
    AreKept bound test asserted waiting watching → AreKept bound weak asserted waiting watching
kept_weaker bound test weak f asserted waiting watching kept = record { kept = λ es a. by es (kept.kept es a); waits = kept.waits; stands = kept.stands }
  where
    by : (es : Disequality) → IsKept bound test waiting watching es → IsKept bound weak waiting watching es
    by es (IsKept.holds never) = IsKept.holds never
    by es (IsKept.waits fs a says) = IsKept.waits fs a says
    by es (IsKept.watched x fs a w passes says) = IsKept.watched x fs a w (f fs passes) says

-- one that waits and always holds
pub looked_never : (bound : Pairs) (old : Watchers) (fs : Disequality) → NeverEqual bound fs → LooksAt bound (fs ∷ []) old old true
looked_never bound old fs never test weaker asserted rest kept = record {
  kept = λ es a. by es (kept.kept es a);
  waits = λ gs a. kept.waits gs (among-left gs rest (fs ∷ []) a);
  stands = kept.stands;
}
  where
    by : (es : Disequality) → IsKept bound test (rest ++ fs ∷ []) old es → IsKept bound test rest old es
    by es (IsKept.holds n) = IsKept.holds n
    by es (IsKept.waits gs a says) = elim (among-cases gs fs rest a) [
      | inl b ↦ IsKept.waits gs b says
      | inr e ↦ IsKept.holds (λ f s u. never f s ((subst (λ q. SaysAsMuch bound es q) e says f s).0 u))
    ]
    by es (IsKept.watched x gs a w passes says) = IsKept.watched x gs a w passes says

-- one that is identical
pub identical_among : (bound : Pairs) → Grown bound → (asserted : List Disequality) (fs : Disequality) → StandsFor bound asserted fs → is_identical bound fs ≡ true → list_any (is_identical bound) asserted ≡ true
identical_among bound g asserted fs stands same =
    any-among (is_identical bound) asserted stands.es stands.among
    (unifies_identical bound stands.es ((stands.says (ends bound) (full_solves bound g)).1 (identical_unifies bound fs same)))

pub looked_identical : (bound : Pairs) → Grown bound → (old new : Watchers) (fs : Disequality) → is_identical bound fs ≡ true → LooksAt bound (fs ∷ []) old new false
looked_identical bound g old new fs same test weaker asserted rest kept = identical_among bound g asserted fs (kept.waits fs (among-last fs rest)) same

-- one that another one says as much as, which its variable is given
pub looked_given : (bound : Pairs) (old new : Watchers) (fs gs : Disequality) → SaysAsMuch bound fs gs → is_watchable bound gs ≡ true → IsGiven old gs new → LooksAt bound (fs ∷ []) old new true
looked_given bound old new fs gs as_much watchable given test weaker asserted rest kept = record {
  kept = λ es a. by es (kept.kept es a);
  waits = λ hs a. kept.waits hs (among-left hs rest (fs ∷ []) a);
  stands = λ x hs a. stands_on x hs (given.only x hs a);
}
  where
    by : (es : Disequality) → IsKept bound test (rest ++ fs ∷ []) old es → IsKept bound test rest new es
    by es (IsKept.holds n) = IsKept.holds n
    by es (IsKept.waits hs a says) = elim (among-cases hs fs rest a) [
      | inl b ↦ IsKept.waits hs b says
      | inr e ↦
          let (x, w) = has_watcher bound gs watchable in
          IsKept.watched x gs (given.listed x w) w (weaker gs watchable) (says_twice bound es fs gs (subst (λ q. SaysAsMuch bound es q) e says) as_much)
    ]
    by es (IsKept.watched x hs a w passes says) = IsKept.watched x hs (given.more x hs a) w passes says

    stands_on : (x : ℕ) (hs : Disequality) → Among hs (old x) ⊎ (hs ≡ gs) → StandsFor bound asserted hs
    stands_on x hs (inl a) = kept.stands x hs a
    stands_on x hs (inr e) =
        let it = kept.waits fs (among-last fs rest) in
        record { es = it.es; among = it.among; says = subst (λ q. SaysAsMuch bound it.es q) (sym e) (says_twice bound it.es fs gs it.says as_much) }

-- Those of a chain from its newest on were looked at, and these wait.
abbrev pub Looking : Pairs → List Disequality → List Disequality → Watchers → Watchers → Type 0
Looking bound all left old new =
    (test : Disequality → Bool) → IsWeaker bound test → (asserted rest : List Disequality) → AreKept bound test asserted (rest ++ all) old → AreKept bound test asserted (rest ++ left) new

pub looking_off : (bound : Pairs) (all left older : List Disequality) (newest : Disequality) (start old new : Watchers) → left ≡ older ++ newest ∷ [] → Looking bound all left start old →
    LooksAt bound (newest ∷ []) old new false → LooksAt bound all start new false
looking_off bound all left older newest start old new split looking looked test weaker asserted rest kept =
    looked test weaker asserted (rest ++ older) (subst (λ ws. AreKept bound test asserted ws old) (ap (λ ws. rest ++ ws) split ∙ sym (append_assoc rest older (newest ∷ []))) (looking test weaker asserted rest kept))

-- all that a variable watches wait, and are looked at
module _ (bound : Pairs) (x : ℕ) (old taken : Watchers) (take : IsTaken old x taken) where
  abbrev also : (Disequality → Bool) → Disequality → Bool
  also test es = test es && is_settled bound (Tree.leaf x) es

  weaker_also : (test : Disequality → Bool) → IsWeaker bound test → IsWeaker bound (also test)
  weaker_also test weaker es w = and_both (test es) (is_settled bound (Tree.leaf x) es) (weaker es w) (or_right (not (is_watched_by x es)) (is_watchable bound es) w)

  not_watched : (y : ℕ) (fs : Disequality) → eqb y x ≡ false → is_watched_by y fs ≡ true → not (is_watched_by x fs) ≡ true
  not_watched y fs other w = ap not (false_from_ne_true (is_watched_by x fs) (λ h. true≢false (sym (watched_once x y fs h w) ∙ other)))

  waiting_all : (test : Disequality → Bool) (asserted : List Disequality) → AreKept bound test asserted [] old → AreKept bound (also test) asserted (old x) taken
  waiting_all test asserted kept = record {
    kept = λ es a. by es (kept.kept es a);
    waits = λ fs a. kept.stands x fs a;
    stands = λ y fs a. kept.stands y fs (take.fewer y fs a);
  }
    where
      by : (es : Disequality) → IsKept bound test [] old es → IsKept bound (also test) (old x) taken es
      by es (IsKept.holds n) = IsKept.holds n
      by es (IsKept.waits gs a says) = absurd a
      by es (IsKept.watched y fs a w passes says) = place (eqb y x) refl
        where
          place : (c : Bool) → eqb y x ≡ c → IsKept bound (also test) (old x) taken es
          place true e = IsKept.waits fs (subst (λ z. Among fs (old z)) (eqb-true y x e) a) says
          place false e = IsKept.watched y fs (take.others y e fs a) w
              (and_both (test fs) (is_settled bound (Tree.leaf x) fs) passes (or_left (not (is_watched_by x fs)) (is_watchable bound fs) (not_watched y fs e w))) says

  pub taken_settles : (new : Watchers) (all : List Disequality) (differ : Bool) → all ≡ old x → LooksAt bound all taken new differ → Settles bound (is_settled bound (Tree.leaf x)) old new differ
  taken_settles new all true is looked = λ test weaker asserted kept.
      looked (also test) (weaker_also test weaker) asserted [] (subst (λ ws. AreKept bound (also test) asserted ws taken) (sym is) (waiting_all test asserted kept))
  taken_settles new all false is looked = λ test weaker asserted kept.
      looked (also test) (weaker_also test weaker) asserted [] (subst (λ ws. AreKept bound (also test) asserted ws taken) (sym is) (waiting_all test asserted kept))

-- a term that is no variable watches nothing
pub settled_term : (bound : Pairs) (a : Tm) (old : Watchers) → ((x : ℕ) → a ≢ Tree.leaf x) → Settles bound (is_settled bound a) old old true
settled_term bound a old other test weaker asserted kept =
    kept_weaker bound test (λ es. test es && is_settled bound a es) (λ es h. and_both (test es) (is_settled bound a es) h (or_left (not (watches a es)) (is_watchable bound es) (ap not (no_watch a es other)))) asserted [] old kept
  where
    no_watch : (a : Tm) (es : Disequality) → ((x : ℕ) → a ≢ Tree.leaf x) → watches a es ≡ false
    no_watch (Tree.leaf x) es other = absurd (other x refl)
    no_watch (Tree.sym s) es other = refl
    no_watch (Tree.str s) es other = refl
    no_watch (Tree.num n) es other = refl
    no_watch (Tree.truth b) es other = refl
    no_watch Tree.nil es other = refl
    no_watch (Tree.pair a b) es other = refl

weaker_settled : (bound : Pairs) (a : Tm) → IsWeaker bound (is_settled bound a)
weaker_settled bound a es w = or_right (not (watches a es)) (is_watchable bound es) w

-- both sides of a pair, one after the other
module _ (bound : Pairs) (a b : Tm) (old mid new : Watchers) where
  both_weaker : (test : Disequality → Bool) → IsWeaker bound test → IsWeaker bound (λ es. test es && is_settled bound a es)
  both_weaker test weaker es w = and_both (test es) (is_settled bound a es) (weaker es w) (weaker_settled bound a es w)

  both : (differ : Bool) → Settles bound (is_settled bound a) old mid true → Settles bound (is_settled bound b) mid new differ → Settles bound (λ es. is_settled bound a es && is_settled bound b es) old new differ
  both true one two = λ test weaker asserted kept.
      kept_weaker bound (λ es. (test es && is_settled bound a es) && is_settled bound b es) (λ es. test es && (is_settled bound a es && is_settled bound b es)) (λ es h. regroup (test es) (is_settled bound a es) (is_settled bound b es) h) asserted [] new
      (two (λ es. test es && is_settled bound a es) (both_weaker test weaker) asserted (one test weaker asserted kept))
    where
      regroup : (p q r : Bool) → ((p && q) && r) ≡ true → (p && (q && r)) ≡ true
      regroup true q r h = h
      regroup false q r h = cc
  both false one two = λ test weaker asserted kept. two (λ es. test es && is_settled bound a es) (both_weaker test weaker) asserted (one test weaker asserted kept)

  pub settled_both : (first second : Bool) → Settles bound (is_settled bound a) old mid first → first ≡ true → Settles bound (is_settled bound b) mid new second →
      Settles bound (λ es. is_settled bound a es && is_settled bound b es) old new second
  settled_both first second one on two = both second (subst (Settles bound (is_settled bound a) old mid) on one) two

-- the added pairs from one on are left
abbrev pub Fining : Pairs → List (Tm × Tm) → List (Tm × Tm) → Watchers → Watchers → Type 0
Fining bound added left old new = (asserted : List Disequality) → AreKept bound (is_fine bound added) asserted [] old → AreKept bound (is_fine bound left) asserted [] new

weaker_fine : (bound : Pairs) (pairs : List (Tm × Tm)) → IsWeaker bound (is_fine bound pairs)
weaker_fine bound pairs es w = or_right (is_woken pairs es) (is_watchable bound es) w

module _ (bound : Pairs) (added : List (Tm × Tm)) (pairs : List TermPair) (i : ℕ) (p : TermPair) (start old new : Watchers) (below : i < length pairs) (is : p ≡ get_or pairs i p)
    (fining : Fining bound added (map sides (drop i pairs)) start old) where
  split : drop i pairs ≡ p ∷ drop (i + 1) pairs
  split = let next : suc i ≡ i + 1 = omega arith in drop-cons pairs i p below ∙ ap (λ q. q ∷ drop (suc i) pairs) (sym is) ∙ ap (λ n. p ∷ drop n pairs) next

  abbrev more : List (Tm × Tm)
  more = map sides (drop (i + 1) pairs)

  before : (asserted : List Disequality) → AreKept bound (is_fine bound added) asserted [] start → AreKept bound (is_fine bound (sides p ∷ more)) asserted [] old
  before asserted kept = subst (λ ps. AreKept bound (is_fine bound (map sides ps)) asserted [] old) split (fining asserted kept)

  pub fining_on : (differ : Bool) → Settles bound (λ es. is_settled bound (tree p.first) es && is_settled bound (tree p.rest) es) old new differ → differ ≡ true → Fining bound added more start new
  fining_on differ settles on asserted kept =
      kept_weaker bound (λ es. is_fine bound (sides p ∷ more) es && (is_settled bound (tree p.first) es && is_settled bound (tree p.rest) es)) (is_fine bound more)
      (λ es h. by (watches (tree p.first) es) (watches (tree p.rest) es) (is_woken more es) (is_watchable bound es) h) asserted [] new
      (subst (Settles bound (λ es. is_settled bound (tree p.first) es && is_settled bound (tree p.rest) es) old new) on settles (is_fine bound (sides p ∷ more)) (weaker_fine bound (sides p ∷ more)) asserted (before asserted kept))
    where
      by : (p q r w : Bool) → ((((p || q) || r) || w) && ((not p || w) && (not q || w))) ≡ true → (r || w) ≡ true
      by p q true w h = refl
      by p q false true h = refl
      by true q false false h = cc
      by false true false false h = cc
      by false false false false h = cc

  pub fining_off : (differ : Bool) → Settles bound (λ es. is_settled bound (tree p.first) es && is_settled bound (tree p.rest) es) old new differ → differ ≡ false → SettlesAll bound added start new false
  fining_off differ settles off asserted kept =
      subst (Settles bound (λ es. is_settled bound (tree p.first) es && is_settled bound (tree p.rest) es) old new) off settles (is_fine bound (sides p ∷ more)) (weaker_fine bound (sides p ∷ more)) asserted (before asserted kept)

-- at last none is left
pub fining_done : (bound : Pairs) (added : List (Tm × Tm)) (pairs : List TermPair) (i : ℕ) (start now : Watchers) → (i < length pairs → ⊥) → Fining bound added (map sides (drop i pairs)) start now → SettlesAll bound added start now true
fining_done bound added pairs i start now past fining asserted kept = subst (λ ps. AreKept bound (is_fine bound (map sides ps)) asserted [] now) (drop_all i pairs (omega (arith, past))) (fining asserted kept)

-- at first those that no added pair wakes are watchable
pub fine_first : (older : Pairs) (added : List (Tm × Tm)) (bound : Pairs) → AddedTo older added bound → (asserted : List Disequality) (watching : Watchers) →
    AreKept older (is_watchable older) asserted [] watching → AreKept bound (is_fine bound added) asserted [] watching
fine_first older added bound put asserted watching kept = record {
  kept = λ es a. by es (kept.kept es a);
  waits = λ fs a. absurd a;
  stands = λ x fs a. (let it = kept.stands x fs a in record { es = it.es; among = it.among; says = later it.es fs it.says });
}
  where
    later : (es fs : Disequality) → SaysAsMuch older es fs → SaysAsMuch bound es fs
    later es fs says f s = says f ((added_solutions f older added bound put).0 s).0

    by : (es : Disequality) → IsKept older (is_watchable older) [] watching es → IsKept bound (is_fine bound added) [] watching es
    by es (IsKept.holds never) = IsKept.holds (λ f s. never f ((added_solutions f older added bound put).0 s).0)
    by es (IsKept.waits gs a says) = absurd a
    by es (IsKept.watched x fs a w passes says) = IsKept.watched x fs a w (stays_watchable older added bound put fs passes) (later es fs says)

-- none that is watched is identical
pub watched_differ : (bound : Pairs) → Grown bound → (asserted : List Disequality) (watching : Watchers) → AreKept bound (is_watchable bound) asserted [] watching → list_any (is_identical bound) asserted ≡ false
watched_differ bound g asserted watching kept = none-among (is_identical bound) asserted (λ es a. false_from_ne_true (is_identical bound es) (λ same. by es (kept.kept es a) (identical_unifies bound es same)))
  where
    by : (es : Disequality) → IsKept bound (is_watchable bound) [] watching es → Unifies (ends bound) es → ⊥
    by es (IsKept.holds never) u = never (ends bound) (full_solves bound g) u
    by es (IsKept.waits gs a says) u = absurd a
    by es (IsKept.watched x fs a w passes says) u =
        true≢false (sym (unifies_identical bound fs ((says (ends bound) (full_solves bound g)).0 u)) ∙ watchable_differs_grown bound g fs passes)

-- a test that is known behind a truncation is known
test_known : (a b : Bool) → ∥ a ≡ b ∥₁ → a ≡ b
test_known a b h = ∥∥₁_elim h (Coded-set coded_bool a b) (λ e. e)

-- what looking again at all gives
module _ (bound : Pairs) (h : HasNoCycle bound) (older : Pairs) (added : List (Tm × Tm)) (put : AddedTo older added bound) (asserted : List Disequality) (old new : Watchers)
    (kept : AreWatched older asserted old) (differ : Bool) (settles : SettlesAll bound added old new differ) where
  pub recheck_none : {X : Type 0} → differ ≡ false → (◌≡◌ {A = Option X} None None) ↔ (list_any (is_identical bound) asserted ≡ true)
  recheck_none off = (
    λ e. test_known (list_any (is_identical bound) asserted) true (∥∥₁_map kept (λ k. subst (SettlesAll bound added old new) off settles asserted (fine_first older added bound put asserted old k))),
    λ i. refl,
  )

  pub recheck_watched : differ ≡ true → AreWatched bound asserted new
  recheck_watched on = ∥∥₁_map kept (λ k. subst (SettlesAll bound added old new) on settles asserted (fine_first older added bound put asserted old k))

  pub recheck_some : {X : Type 0} (x : X) → differ ≡ true → (Some x ≡ None) ↔ (list_any (is_identical bound) asserted ≡ true)
  recheck_some x on = (
    λ e. cc,
    λ i. absurd (true≢false (sym i ∙ test_known (list_any (is_identical bound) asserted) false (∥∥₁_map (recheck_watched on) (λ k. watched_differ bound (grown bound h) asserted new k)))),
  )

-- one more
pub added_watched : (bound : Pairs) (fs : Disequality) → is_watchable bound fs ≡ true → (asserted : List Disequality) (old new : Watchers) → IsGiven old fs new → AreKept bound (is_watchable bound) asserted [] old →
    AreKept bound (is_watchable bound) (asserted ++ fs ∷ []) [] new
added_watched bound fs watchable asserted old new given kept = record {
  kept = λ es a. first es (among-cases es fs asserted a);
  waits = λ gs a. absurd a;
  stands = λ x gs a. stands_on x gs (given.only x gs a);
}
  where
    by : (es : Disequality) → IsKept bound (is_watchable bound) [] old es → IsKept bound (is_watchable bound) [] new es
    by es (IsKept.holds n) = IsKept.holds n
    by es (IsKept.waits gs a says) = absurd a
    by es (IsKept.watched x gs a w passes says) = IsKept.watched x gs (given.more x gs a) w passes says

    itself : IsKept bound (is_watchable bound) [] new fs
    itself = let (x, w) = has_watcher bound fs watchable in IsKept.watched x fs (given.listed x w) w watchable (λ f s. (λ u. u, λ u. u))

    first : (es : Disequality) → Among es asserted ⊎ (es ≡ fs) → IsKept bound (is_watchable bound) [] new es
    first es (inl a) = by es (kept.kept es a)
    first es (inr e) = subst (IsKept bound (is_watchable bound) [] new) (sym e) itself

    stands_on : (x : ℕ) (gs : Disequality) → Among gs (old x) ⊎ (gs ≡ fs) → StandsFor bound (asserted ++ fs ∷ []) gs
    stands_on x gs (inl a) = let it = kept.stands x gs a in record { es = it.es; among = among-left it.es asserted (fs ∷ []) it.among; says = it.says }
    stands_on x gs (inr e) = subst (StandsFor bound (asserted ++ fs ∷ [])) (sym e) (record { es = fs; among = among-last fs asserted; says = λ f s. (λ u. u, λ u. u) })
