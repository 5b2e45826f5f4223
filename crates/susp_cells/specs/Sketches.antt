-- Sketches: a program and a suspension of it as numbers, and how deep suspensions stand in one
-- another.
use Rattle.std.specs.Prelude.{◌≡◌, ℕ, suc, max, List, []}
use Rattle.std.proofs.Common.{ap, ◌∙◌}
use Rattle.kan_model.specs.Programs.Goals.{Program}
use Rattle.kan_model.specs.Stores.Store.{bare}
use Rattle.kan_model.specs.Streams.Stream.{Stream, Thunk}
use Rattle.stream_words.specs.Words.{Word, nothing, node, first, word_of, numbers_of, word-back}
use Rattle.stream_words.specs.Spelled.{of_program, to_program, program-back}
use Rattle.stream_words.specs.Spelled.{of_thunk, to_thunk, thunk-back}

abbrev left_part : Word → Word
left_part (node k v w) = v
left_part _ = nothing

abbrev right_part : Word → Word
right_part (node k v w) = w
right_part _ = nothing

-- the sketch of a suspension of a program, and what is read off it
unfoldable pub sketch : Program → Thunk → List ℕ
sketch p t = numbers_of (node first (of_program p) (of_thunk t))

unfoldable pub program_in : List ℕ → Program
program_in ns = to_program (left_part (word_of ns))

unfoldable pub tree_in : List ℕ → Thunk
tree_in ns = to_thunk (right_part (word_of ns))

pub program-read : (p : Program) (t : Thunk) → program_in (sketch p t) ≡ p
unfolding sketch program_in
program-read p t =
    ap (λ w. to_program (left_part w)) (word-back (node first (of_program p) (of_thunk t)))
    ∙ program-back p

pub tree-read : (p : Program) (t : Thunk) → tree_in (sketch p t) ≡ t
unfolding sketch tree_in
tree-read p t =
    ap (λ w. to_thunk (right_part w)) (word-back (node first (of_program p) (of_thunk t)))
    ∙ thunk-back t

-- the sketch of a program alone
abbrev pub program_sketch : Program → List ℕ
program_sketch p = sketch p (Thunk.call 0 [] (bare 0))

-- how many suspensions stand in one another, also in the streams that wait in them
abbrev mutual
  pub nested : Thunk → ℕ
  nested (Thunk.call r args st) = 1
  nested (Thunk.pause g env st) = 1
  nested (Thunk.swap t i) = suc (max (stream_nested t) (nested i))
  nested (Thunk.bind g env i) = suc (nested i)

  pub stream_nested : Stream → ℕ
  stream_nested (Stream.ends hs) = 0
  stream_nested (Stream.goes_on hs i) = nested i
