-- What walking and full values are, and that bindings in which nothing is replaced are the solver's replacement.
use Rattle.std.proofs.Common.{◌≡◌, refl}
use Rattle.kan_terms.specs.Tree.{Tree, Tm}
use Rattle.unify_core.specs.Walking.{Pairs, walk}
use Rattle.unify_core.specs.Laws.{IsEnd, WalksToEnd, FullValues, BindingsReplace}
use Rattle.unify_core.proofs.GrowthLaws.{ends-unbound, ends-bound}
use Rattle.unify_core.proofs.CycleLaws.{grown}
use Rattle.unify_core.proofs.WalkLaws.{full-walk, walk-end, walk-bound, walk-unbound, walk-term}
use Rattle.unify_core.proofs.AnswerLaws.{answered, full_unbound, answer_full, solution_factors, factors_solve}

-- a term that is no bound variable walks to itself
stays_there : (bound : Pairs) (t : Tm) → IsEnd bound t → walk bound t ≡ t
stays_there bound (Tree.leaf v) free = walk-unbound bound v (free v refl)
stays_there bound (Tree.sym s) free = walk-term bound (Tree.sym s) (λ y e. cc)
stays_there bound (Tree.str s) free = walk-term bound (Tree.str s) (λ y e. cc)
stays_there bound (Tree.num n) free = walk-term bound (Tree.num n) (λ y e. cc)
stays_there bound (Tree.truth b) free = walk-term bound (Tree.truth b) (λ y e. cc)
stays_there bound Tree.nil free = walk-term bound Tree.nil (λ y e. cc)
stays_there bound (Tree.pair a b) free = walk-term bound (Tree.pair a b) (λ y e. cc)

pub walks_to_end : WalksToEnd
walks_to_end = record {
  goes_on = λ bound x t h found. walk-bound bound (grown bound h) x t found;
  stays = stays_there;
  comes_to_end = λ bound t h x reached. walk-end bound (grown bound h) t x reached;
}

pub full_values : FullValues
full_values = record {
  of_bound = λ bound x t h found. ends-bound bound (grown bound h) x t found;
  of_unbound = ends-unbound;
  none_left = λ bound t y h inside. full_unbound bound (grown bound h) t y inside;
  of_walked = λ bound t h. full-walk bound (grown bound h) t;
}

pub bindings_replace : BindingsReplace
bindings_replace bound h =
    let (s, solved, factors) = answered bound (grown bound h) in
    (s, solved, λ f. (solution_factors bound (grown bound h) s solved f, factors_solve bound s solved f), answer_full bound (grown bound h) s solved)
