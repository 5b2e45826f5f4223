-- Worked examples of what goals mean: solutions, derivations, their bounds, scope, and the trees of tables.
use Rattle.std.proofs.Common.{◌≡◌, true, false, refl, sym, ◌∙◌, [], ◌∷◌, pos, append-nil, true≢false}
use Rattle.kan_terms.specs.Tree.{Tree, Gd}
use Rattle.kan_model.specs.Programs.Goals.{Template, Primitive, Goal, Program}
use Rattle.kan_model.specs.Stores.Store.{Store}
use Rattle.kan_model.specs.Streams.Stream.{Stream, Thunk}
use Rattle.kan_model.specs.Meaning.Holds.{IsSolution}
use Rattle.kan_model.specs.Programs.Scope.{width, is_small, in_scope, is_closed}
use Rattle.kan_model.specs.Meaning.Derivations.{Derivation, Step, steps_of, derives, AreSteps, InMeaning}
use Rattle.kan_model.specs.Streams.Pulls.{answers_within, pulls_for}
use Rattle.kan_model.specs.Streams.Bounds.{top, floor}
use Rattle.kan_model.specs.Programs.Tables.{TermEntry, GoalEntry, Tables, is_grown, are_closed, program_of}
use Rattle.kan_model.proofs.Meaning.DerivationLaws.{spelled_once}

abbrev q : Template
q = Tree.leaf 0

abbrev equal : Template → Template → Goal
equal a b = Goal.prim (Primitive.same a b)

-- relation 0 gives its second argument over and over, and relation 1 only calls itself
abbrev two_relations : Program
two_relations = record {
  relations = record { params = 2; body = Goal.either (equal (Tree.leaf 0) (Tree.leaf 1)) (Goal.call 0 (Tree.leaf 0 ∷ Tree.leaf 1 ∷ [])) }
      ∷ record { params = 0; body = Goal.call 1 [] } ∷ [];
  goals = equal (Tree.leaf 0) (Tree.leaf 1) ∷ Goal.call 0 (Tree.leaf 0 ∷ Tree.leaf 1 ∷ [])
      ∷ Goal.either (equal (Tree.leaf 0) (Tree.leaf 1)) (Goal.call 0 (Tree.leaf 0 ∷ Tree.leaf 1 ∷ [])) ∷ Goal.call 1 [] ∷ [];
}

abbrev is_a : Goal
is_a = equal q (Tree.sym 0)

abbrev a : Gd
a = Tree.sym 0

abbrev b : Gd
b = Tree.sym 1

-- an equation holds of one value and not of another
pub equation_holds : derives two_relations is_a (a ∷ []) Derivation.holds ≡ true
equation_holds = refl

pub equation_fails : derives two_relations is_a (b ∷ []) Derivation.holds ≡ false
equation_fails = refl

-- a value is chosen for a fresh variable
abbrev pair_of_one : Goal
pair_of_one = Goal.fresh 1 (equal q (Tree.pair (Tree.leaf 1) (Tree.leaf 1)))

abbrev one : Gd
one = Tree.num (pos 1)

pub chosen : AreSteps two_relations pair_of_one (Tree.pair one one ∷ []) (Step.choose (one ∷ []) ∷ Step.holds ∷ [])
chosen = (Derivation.choose (one ∷ []) Derivation.holds, refl, refl)

-- with one step more they spell nothing
pub one_step_more : AreSteps two_relations pair_of_one (Tree.pair one one ∷ []) (Step.choose (one ∷ []) ∷ Step.holds ∷ Step.holds ∷ []) → ⊥
one_step_more (d, spells, h) =
    let (same, rest) = spelled_once (Derivation.choose (one ∷ []) Derivation.holds) d (Step.holds ∷ []) [] (spells ∙ sym (append-nil (steps_of d))) in cc

-- a tuple in the meaning of a relation, by way of the second call
pub in_meaning : InMeaning two_relations (record { params = 2; body = Goal.either (equal (Tree.leaf 0) (Tree.leaf 1)) (Goal.call 0 (Tree.leaf 0 ∷ Tree.leaf 1 ∷ [])) }) (a ∷ a ∷ [])
in_meaning = (refl, (Derivation.right (Derivation.enter (Derivation.left Derivation.holds)), refl))

-- an answer behind two relations that only call themselves comes within 3 pulls, and behind three within 7
abbrev behind : Goal → Goal
behind = Goal.either (Goal.call 1 [])

pub behind_two : pulls_for two_relations (behind (behind is_a)) (Derivation.right (Derivation.right Derivation.holds)) ≡ 3
behind_two = refl

pub behind_three : pulls_for two_relations (behind (behind (behind is_a))) (Derivation.right (Derivation.right (Derivation.right Derivation.holds))) ≡ 7
behind_three = refl

-- where a disjunction comes later, an answer behind a relation that only calls itself comes within 2 pulls
pub behind_later : pulls_for two_relations (Goal.later (behind is_a)) (Derivation.enter (Derivation.right Derivation.holds)) ≡ 2
behind_later = refl

-- what comes later has no answer without a pull, and with one those that it has at once
pub no_pull_later : answers_within two_relations (Goal.later is_a) 0 ≡ 0
no_pull_later = refl

pub one_pull_later : answers_within two_relations (Goal.later is_a) 1 ≡ 1
one_pull_later = refl

-- without a pull a call has no answer; within two pulls the first relation has two
pub no_pull : answers_within two_relations (Goal.call 0 (q ∷ q ∷ [])) 0 ≡ 0
no_pull = refl

pub two_pulls : answers_within two_relations (Goal.call 0 (q ∷ q ∷ [])) 2 ≡ 2
two_pulls = refl

-- a second goal waits for the pulls of the first one
pub after_a_call : pulls_for two_relations (Goal.both (Goal.call 0 (q ∷ q ∷ [])) is_a) (Derivation.both (Derivation.enter (Derivation.left Derivation.holds)) Derivation.holds) ≡ 4
after_a_call = refl

-- what comes later holds where its goal does
pub later_holds : derives two_relations (Goal.later is_a) (a ∷ []) (Derivation.enter Derivation.holds) ≡ true
later_holds = refl

-- a string isn't the symbol of the same number
pub string_fails : derives two_relations is_a (Tree.str 0 ∷ []) Derivation.holds ≡ false
string_fails = refl

pub string_holds : derives two_relations (Goal.prim (Primitive.text q)) (Tree.str 0 ∷ []) Derivation.holds ≡ true
string_holds = refl

-- the width of a goal counts fresh variables and the arguments of calls
pub wide : width (Goal.fresh 2 (Goal.both (Goal.call 0 (q ∷ q ∷ [])) is_a)) ≡ 4
wide = refl

pub small : is_small two_relations ≡ true
small = refl

-- a slot that no fresh adds isn't there
pub slot_there : in_scope 1 (Goal.fresh 1 (equal q (Tree.leaf 1))) ≡ true
slot_there = refl

pub slot_missing : in_scope 1 (equal q (Tree.leaf 1)) ≡ false
slot_missing = refl

-- a call with too few arguments is open
pub too_few : is_closed [] (record { relations = two_relations.relations; goals = Goal.call 0 (q ∷ []) ∷ [] }) (is_a ∷ []) ≡ false
too_few = refl

pub closed : is_closed (q ∷ []) two_relations (is_a ∷ []) ≡ true
closed = refl

-- the program as tables
abbrev tables : Tables
tables = record {
  terms = TermEntry.slot 0 ∷ TermEntry.slot 1 ∷ TermEntry.sym 0 ∷ TermEntry.pair 1 2 ∷ [];
  arguments = 0 ∷ 1 ∷ [];
  goals = GoalEntry.same 0 1 ∷ GoalEntry.call 0 0 2 ∷ GoalEntry.either 0 1 ∷ GoalEntry.call 1 2 0 ∷ [];
  relations = record { name = 0; params = 2; body = 2 } ∷ record { name = 1; params = 0; body = 3 } ∷ [];
}

pub trees : program_of tables ≡ two_relations
trees = refl

pub grown : is_grown tables ≡ true
grown = refl

pub all_closed : are_closed tables (3 ∷ []) ≡ true
all_closed = refl

-- a goal of a run that isn't in the table is open, and so is one that uses slot 1
pub not_there : are_closed tables (4 ∷ []) ≡ false
not_there = refl

pub uses_more : are_closed tables (0 ∷ []) ≡ false
uses_more = refl

-- a solution of a store with a disequality and an absence
abbrev store : Store
store = record { prims = Primitive.differ (Tree.leaf 0) (Tree.sym 0) ∷ Primitive.absent 0 (Tree.leaf 1) ∷ []; counter = 2 }

pub solution : IsSolution store (b ∷ Tree.pair b one ∷ [])
solution = (refl, refl)

pub no_solution : IsSolution store (a ∷ one ∷ []) → ⊥
no_solution (long, h) = true≢false (sym h)

-- the counters of what waits for a call lie between the floor and the top
abbrev waiting : Thunk
waiting = Thunk.swap (Stream.ends (store ∷ [])) (Thunk.bind (Goal.fresh 3 is_a) [] (Thunk.call 1 [] (record { prims = []; counter = 7 })))

pub above_all : top waiting ≡ 2097162
above_all = refl

pub below_all : floor waiting ≡ 2
below_all = refl
