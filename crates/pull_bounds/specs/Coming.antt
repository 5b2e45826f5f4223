-- Which stores a stream gives within some pulls, and what appending, running and binding keep of
-- that.
use Rattle.std.specs.Prelude.{ℕ, ◌+◌, ◌*◌, ◌≤◌, List, length, Contains}
use Rattle.kan_terms.specs.Tree.{Tm}
use Rattle.kan_model.specs.Programs.Goals.{Goal, Program}
use Rattle.kan_model.specs.Stores.Store.{Store}
use Rattle.kan_model.specs.Streams.Stream.{Stream, append, bind_all}
use Rattle.kan_model.specs.Streams.Running.{run}
use Rattle.kan_model.specs.Streams.Taking.{stores_within}
use Rattle.kan_model.specs.Streams.Pulls.{answers_within, both_pulls, and_first}

-- a store is among those that a stream gives within some pulls
abbrev pub ComesWithin : Program → ℕ → Stream → Store → Type 0
ComesWithin program pulls s st = Contains (stores_within program pulls s) st

-- what the left stream gives within b pulls comes within twice as many
abbrev pub LeftComes : Type 0
LeftComes =
    (program : Program) (b : ℕ) (s t : Stream) (st : Store) → ComesWithin program b s st →
    ComesWithin program (2 * b) (append s t) st

-- what the right stream gives comes within one more than that
abbrev pub RightComes : Type 0
RightComes =
    (program : Program) (b : ℕ) (s t : Stream) (st : Store) → ComesWithin program b t st →
    ComesWithin program (2 * b + 1) (append s t) st

-- a goal gives no more answers within d pulls than are counted for it, at whatever store and
-- environment
abbrev pub AnswersAreBounded : Type 0
AnswersAreBounded =
    (program : Program) (g : Goal) (env : List Tm) (st : Store) (d : ℕ) →
    length (stores_within program d (run g env st)) ≤ answers_within program g d

-- a store of a stream, and an answer of a goal at it, where the stream gives so many stores by then
abbrev pub BoundComes : Type 0
BoundComes =
    (program : Program) (g : Goal) (env : List Tm) (s : Stream) (b1 b2 : ℕ) (first second : Store) →
    ComesWithin program b1 s first → ComesWithin program b2 (run g env first) second →
    ComesWithin program (both_pulls (length (stores_within program b1 s)) b1 b2)
    (bind_all (run g env) g env s) second

-- an answer of the first goal, and one of the second goal at it, give one of both
abbrev pub BothCome : Type 0
BothCome =
    (program : Program) (g h : Goal) (env : List Tm) (st first second : Store) (b1 b2 : ℕ) →
    ComesWithin program b1 (run g env st) first → ComesWithin program b2 (run h env first) second →
    ComesWithin program (and_first program g b1 b2) (run (Goal.both g h) env st) second
