-- The definitions on small cases: the disequality of (x . y) and (1 . 2), as variables 0 and 1.
use Rattle.std.proofs.Common.{◌≡◌, true, false, pos, [], ◌∷◌, refl}
use Rattle.kan_terms.specs.Tree.{Tree}
use Rattle.unify_core.specs.Solutions.{equation}
use Rattle.diseq.specs.Disequalities.{Disequality, is_identical}
use Rattle.diseq.specs.Watching.{is_watchable, is_woken}

abbrev one_two : Disequality
one_two = equation (Tree.leaf 0) (Tree.num (pos 1)) ∷ equation (Tree.leaf 1) (Tree.num (pos 2)) ∷ []

-- variable 0 watches it, until it is bound
watched_at_first : is_watchable [] one_two ≡ true
watched_at_first = refl

watched_no_more : is_watchable ((0, Tree.num (pos 1)) ∷ []) one_two ≡ false
watched_no_more = refl

-- a pair wakes it on either side, and another pair doesn't
woken_left : is_woken ((Tree.leaf 0, Tree.num (pos 1)) ∷ []) one_two ≡ true
woken_left = refl

woken_right : is_woken ((Tree.leaf 5, Tree.leaf 0) ∷ []) one_two ≡ true
woken_right = refl

asleep : is_woken ((Tree.leaf 1, Tree.num (pos 2)) ∷ []) one_two ≡ false
asleep = refl

-- it is false only where both pairs have the same sides
half_bound : is_identical ((0, Tree.num (pos 1)) ∷ []) one_two ≡ false
half_bound = refl

all_bound : is_identical ((1, Tree.num (pos 2)) ∷ (0, Tree.num (pos 1)) ∷ []) one_two ≡ true
all_bound = refl
