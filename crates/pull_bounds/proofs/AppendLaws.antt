-- What comes of two streams that are appended.
use Rattle.std.proofs.Common.{ℕ, suc, ◌+◌, ◌*◌, List, arith}
use Rattle.std.proofs.lemmas.List.Elements.{Contains-append_left, Contains-append_right}
use Rattle.kan_model.specs.Programs.Goals.{Program}
use Rattle.kan_model.specs.Stores.Store.{Store}
use Rattle.kan_model.specs.Streams.Stream.{Stream, append}
use Rattle.kan_model.specs.Streams.Running.{force}
use Rattle.pull_bounds.specs.Coming.{LeftComes, RightComes}
use Rattle.pull_bounds.proofs.Within.{Comes, Comes-within, within-Comes, Comes-more}

module _ (program : Program) where
  -- behind a stream that has ended nothing comes later
  behind_ended : (b : ℕ) (hs : List Store) (t : Stream) (st : Store) → Comes program b t st → Comes program b (append (Stream.ends hs) t) st
  behind_ended b hs t st (Comes.last {hs = ks} h) = Comes.last (Contains-append_right hs ks st h)
  behind_ended b hs t st (Comes.head {hs = ks} h) = Comes.head (Contains-append_right hs ks st h)
  behind_ended b hs t st (Comes.pulled h) = Comes.pulled h

  -- where it comes in front of every stream, it comes behind every one, with one pull more
  from_front : (b : ℕ) (t : Stream) (st : Store) → ((u : Stream) → Comes program (2 * b) (append t u) st) → Comes program b t st →
      (s : Stream) → Comes program (2 * b + 1) (append s t) st
  from_front b t st front h (Stream.ends hs) = Comes-more program b (2 * b + 1) (append (Stream.ends hs) t) st (omega arith) (behind_ended b hs t st h)
  from_front b t st front h (Stream.goes_on hs i) =
      Comes-more program (suc (2 * b)) (2 * b + 1) (append (Stream.goes_on hs i) t) st (omega arith) (Comes.pulled (front (force program i)))

  pub Comes-left : (b : ℕ) (s : Stream) (st : Store) → Comes program b s st → (t : Stream) → Comes program (2 * b) (append s t) st
  Comes-left b s st (Comes.last {hs = hs} h) (Stream.ends ks) = Comes.last (Contains-append_left hs ks st h)
  Comes-left b s st (Comes.last {hs = hs} h) (Stream.goes_on ks i) = Comes.head (Contains-append_left hs ks st h)
  Comes-left b s st (Comes.head h) t = Comes.head h
  Comes-left b s st (Comes.pulled {b = c} {hs = hs} {i = i} h) t =
      Comes-more program (suc (2 * c + 1)) (2 * suc c) (append (Stream.goes_on hs i) t) st (omega arith)
      (Comes.pulled (from_front c (force program i) st (Comes-left c (force program i) st h) h t))

  pub Comes-right : (b : ℕ) (s t : Stream) (st : Store) → Comes program b t st → Comes program (2 * b + 1) (append s t) st
  Comes-right b s t st h = from_front b t st (Comes-left b t st h) h s

pub left_comes : LeftComes
left_comes program b s t st h = within-Comes program (2 * b) (append s t) st (Comes-left program b s st (Comes-within program b s st h) t)

pub right_comes : RightComes
right_comes program b s t st h = within-Comes program (2 * b + 1) (append s t) st (Comes-right program b s t st (Comes-within program b t st h))
