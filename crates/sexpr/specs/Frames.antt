-- What is unclosed, kept as stacks.
use Rattle.std.specs.Prelude.{◌≡◌, ℕ, suc, ◌+◌, ◌<◌, ◌≤◌, List, [], ◌∷◌, length, map, Option, None}
use Rattle.std.specs.Prelude.{Some}
use Rattle.std.specs.List.{fold}
use Rattle.kan_grammar.specs.Data.Words.{Shape, Token}
use Rattle.kan_grammar.specs.Data.Written.{Written}
use Rattle.kan_grammar.specs.Data.Enclosing.{Place, top, in_list, after_dot, after_prefix}
use Rattle.kan_grammar.specs.Data.Enclosing.{Enclosing, awaiting, ended}
use Rattle.kan_grammar.specs.Data.Faults.{Fault, fault, refusal, after}
use Rattle.kan_grammar.specs.Texts.TextNames.{GoesOn}
use Rattle.sexpr.specs.Meaning.{shape_of, prefix_of}
use Rattle.sexpr.specs.WrittenForms.{written_form, as_kept}
use Rattle.kan_terms.specs.Table.{Table}
use Rattle.sexpr.specs.declared.data.ReadError.{ReadError}
use Rattle.sexpr.specs.declared.data.ReadError.TheVariants as errors
use Rattle.sexpr.specs.declared.frame.Frame.{Frame}
use Rattle.sexpr.specs.declared.frame.Frame.TheVariants as frames
use Rattle.sexpr.specs.declared.frame.Ended.{Ended}
use Rattle.sexpr.specs.declared.enclosing.Enclosing as stacks

-- after the dot of a list with these elements, of which there is one
abbrev pub after_point : Place Written → ℕ → Shape → List Written → ℕ → Place Written
after_point p at s [] point = in_list p at s []
after_point p at s (e ∷ ds) point = after_dot p at s e ds point

-- the place that a frame opens inside another
abbrev pub inside : Table → Place Written → Frame → Place Written
inside names p (frames.List l) =
    in_list p l.at (shape_of l.shape) (map (written_form names) l.items)
inside names p (frames.Dotted l) =
    after_point p l.at (shape_of l.shape) (map (written_form names) l.items) l.point
inside names p (frames.Prefix at q) = after_prefix p at (prefix_of q)

-- the place inside all frames, of which the last is the innermost
abbrev pub place : Table → stacks.Enclosing → Place Written
place names o = fold (inside names) (top (map (written_form names) o.top)) o.frames.items

-- a list with these elements, of which there is one, whose last datum is there
abbrev pub ended_at : Place Written → ℕ → Shape → List Written → ℕ → Written → Enclosing Written
ended_at p at s [] point d = awaiting p
ended_at p at s (e ∷ ds) point d = ended p at s e ds point d

-- a place, or a list in it whose last datum is there
abbrev pub ended_in : Table → Place Written → Option Ended → Enclosing Written
ended_in names p None = awaiting p
ended_in names p (Some e) =
    ended_at p e.list.at (shape_of e.list.shape)
    (map (written_form names) e.list.items) e.list.point
    (written_form names e.last)

-- what is unclosed
abbrev pub enclosing_of : Table → stacks.Enclosing → Enclosing Written
enclosing_of names o = ended_in names (place names o) o.ended

-- how deep the next datum stands inside one frame more
abbrev pub depth_inside : ℕ → Frame → ℕ
depth_inside n (frames.List l) = n + suc (length l.items)
depth_inside n (frames.Dotted l) = n + length l.items
depth_inside n (frames.Prefix at q) = n + 2

-- a list whose last datum is there is still to be put at its place
abbrev pub HasRoom : Option Ended → ℕ → Type 0
HasRoom None n = Unit {0}
HasRoom (Some e) n = n < 2050

-- the depth that is kept is that inside all frames
pub record HasDepth (o : stacks.Enclosing) : Type 0 where
  pub inside_all : o.depth ≡ fold depth_inside 0 o.frames.items
  pub bounded : o.depth ≤ 2050
  pub room : HasRoom o.ended o.depth

-- a token is taken under a table: no question refuses it, and what is unclosed is what comes after
-- it
abbrev pub Takes : Table → stacks.Enclosing → stacks.Enclosing → ℕ → Token → Type 0
Takes names old new at t =
    (refusal (enclosing_of names old) at t ≡ None)
    × (enclosing_of names new ≡ after as_kept (enclosing_of names old) at t)

-- and under each table that goes on where this one ends
abbrev pub TakesToken : Table → stacks.Enclosing → stacks.Enclosing → ℕ → Token → Type 0
TakesToken names old new at t = (later : Table) → GoesOn names later → Takes later old new at t

-- an error is the refusal that the questions give, or want of memory
abbrev pub Refuses : ReadError → Option Fault → Type 0
Refuses (errors.Fault at r) asked = asked ≡ Some (fault at r)
Refuses errors.Memory asked = Unit {0}

-- a token is refused
abbrev pub RefusesToken : ReadError → stacks.Enclosing → ℕ → Token → Type 0
RefusesToken e o at t = (names : Table) → Refuses e (refusal (enclosing_of names o) at t)
