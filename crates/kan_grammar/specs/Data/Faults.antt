-- The faults of a text: the questions at each token in their order, the two at the end, and the
-- reading that asks them.
use Rattle.std.specs.Prelude.{ℕ, Bool, true, false, nat_le, if◌then◌else◌, List, [], ◌∷◌, Option}
use Rattle.std.specs.Prelude.{Some, None}
use Rattle.std.specs.Str.{is_utf8}
use Rattle.std.specs.Str.Lossy.{utf8_valid_len}
use Rattle.kan_refusals.specs.declared.refusals.Refusal.{Refusal}
use Rattle.kan_grammar.specs.Data.Tokens.{Placed, placed, tokens}
use Rattle.kan_grammar.specs.Data.Words.{out_of_range, reserved, Shape, round, square, Token}
use Rattle.kan_grammar.specs.Data.Words.{opening, closing, prefix, dot, atom, bad_string, bad}
use Rattle.kan_grammar.specs.Data.Written.{deepest}
use Rattle.kan_grammar.specs.Data.Enclosing.{Build, top, in_list, after_dot, after_prefix}
use Rattle.kan_grammar.specs.Data.Enclosing.{Enclosing, awaiting, ended, depth, innermost_shape}
use Rattle.kan_grammar.specs.Data.Enclosing.{put}

-- an offset and the refusal that stands there
pub data Fault : Type 0 where
  fault : ℕ → Refusal → Fault

-- the token is bad
abbrev pub is_bad : ℕ → Token → Option Fault
is_bad at bad = Some (fault at Refusal.BadToken)
is_bad at _ = None

-- the token begins with a quotation mark and is no string
abbrev pub is_bad_string : ℕ → Token → Option Fault
is_bad_string at bad_string = Some (fault at Refusal.BadString)
is_bad_string at _ = None

-- the token is a close, directly after a prefix
abbrev pub closes_prefix : {D : Type 0} → Token → Enclosing D → Option Fault
closes_prefix (closing s) (awaiting (after_prefix outer at p)) = Some (fault at Refusal.BadToken)
closes_prefix _ _ = None

-- the shape of the innermost list
abbrev pub innermost : {D : Type 0} → Enclosing D → Option Shape
innermost (awaiting p) = innermost_shape p
innermost (ended outer at s e ds point d) = Some s

-- there is a shape, and it is this
abbrev pub is_shape : Option Shape → Shape → Bool
is_shape (Some round) round = true
is_shape (Some square) square = true
is_shape _ _ = false

-- the token is a close, and no list is unclosed or the innermost unclosed list has the other shape
abbrev pub is_stray : {D : Type 0} → ℕ → Token → Enclosing D → Option Fault
is_stray at (closing s) o =
    if is_shape (innermost o) s then None else Some (fault at Refusal.StrayClose)
is_stray at _ o = None

-- the token is a close, directly after a dot
abbrev pub closes_dot : {D : Type 0} → Token → Enclosing D → Option Fault
closes_dot (closing r) (awaiting (after_dot outer at s e ds point)) =
    Some (fault point Refusal.BadDot)
closes_dot _ _ = None

-- the token is a dot, and not one directly inside a list after an element and after no other dot
abbrev pub is_misplaced : {D : Type 0} → ℕ → Token → Enclosing D → Option Fault
is_misplaced at dot (awaiting (in_list outer start s (d ∷ ds))) = None
is_misplaced at dot _ = Some (fault at Refusal.BadDot)
is_misplaced at _ _ = None

-- the token begins a datum
abbrev pub begins : Token → Bool
begins (opening s) = true
begins (prefix p) = true
begins (atom a) = true
begins _ = false

-- the token begins a second datum after a dot in its list
abbrev pub is_second : {D : Type 0} → Token → Enclosing D → Option Fault
is_second t (ended outer start s e ds point d) =
    if begins t then Some (fault point Refusal.BadDot) else None
is_second t (awaiting p) = None

-- the token begins a datum that stands too deep
abbrev pub is_too_deep : {D : Type 0} → ℕ → Token → Enclosing D → Option Fault
is_too_deep at t (awaiting p) =
    if begins t
    then (if nat_le (depth p) deepest then None else Some (fault at Refusal.TooDeep)) else None
is_too_deep at t (ended outer start s e ds point d) = None

-- the token is a number out of range
abbrev pub is_out_of_range : ℕ → Token → Option Fault
is_out_of_range at (atom out_of_range) = Some (fault at Refusal.NumberRange)
is_out_of_range at _ = None

-- the token is a reserved name
abbrev pub is_reserved_name : ℕ → Token → Option Fault
is_reserved_name at (atom reserved) = Some (fault at Refusal.ReservedName)
is_reserved_name at _ = None

-- the first answer
abbrev pub first_fault : List (Option Fault) → Option Fault
first_fault [] = None
first_fault (Some f ∷ more) = Some f
first_fault (None ∷ more) = first_fault more

-- the questions at a token, in their order
abbrev pub refusal : {D : Type 0} → Enclosing D → ℕ → Token → Option Fault
refusal o at t =
    first_fault (is_bad at t ∷ is_bad_string at t ∷ closes_prefix t o ∷ is_stray at t o
    ∷ closes_dot t o ∷ is_misplaced at t o ∷ is_second t o ∷ is_too_deep at t o
    ∷ is_out_of_range at t ∷ is_reserved_name at t ∷ [])

-- what is unclosed after a token that no question refuses
abbrev pub after : {D : Type 0} → Build D → Enclosing D → ℕ → Token → Enclosing D
after b (awaiting p) at (opening s) = awaiting (in_list p at s [])
after b (awaiting p) at (prefix q) = awaiting (after_prefix p at q)
after b (awaiting p) at (atom a) = put b p (b.of_atom at a)
after b (awaiting (in_list outer start s (e ∷ ds))) at dot =
    awaiting (after_dot outer start s e ds at)
after b (awaiting (in_list outer start s ds)) at (closing r) = put b outer (b.of_list start s ds at)
after b (ended outer start s e ds point d) at (closing r) =
    put b outer (b.of_dotted start s (e ∷ ds) point d at)
after b o at t = o

-- a reading goes on with what is unclosed, or has stopped at a fault
pub data Progress (D : Type 0) : Type 0 where
  going : Enclosing D → Progress D
  stopped : Fault → Progress D

-- a fault stops the reading
abbrev pub settle : {D : Type 0} → Option Fault → Enclosing D → Progress D
settle None o = going o
settle (Some f) o = stopped f

-- the reading after one token more
abbrev pub step : {D : Type 0} → Build D → Progress D → Placed → Progress D
step b (going o) (placed at t) = settle (refusal o at t) (after b o at t)
step b (stopped f) t = stopped f

-- the reading after some tokens more
unfoldable pub run : {D : Type 0} → Build D → Progress D → List Placed → Progress D
run b s [] = s
run b s (t ∷ ts) = run b (step b s t) ts

-- a text has data or a first fault
pub data Reading (D : Type 0) : Type 0 where
  data_are : List D → Reading D
  refused : Fault → Reading D

-- at the end: a prefix without its datum, and no list opened after it; else an unclosed list
abbrev pub answer_at_end : {D : Type 0} → Enclosing D → Reading D
answer_at_end (awaiting (top ds)) = data_are ds
answer_at_end (awaiting (after_prefix outer at p)) = refused (fault at Refusal.BadToken)
answer_at_end (awaiting (in_list outer at s ds)) = refused (fault at Refusal.UnclosedList)
answer_at_end (awaiting (after_dot outer at s e ds point)) = refused (fault at Refusal.UnclosedList)
answer_at_end (ended outer at s e ds point d) = refused (fault at Refusal.UnclosedList)

-- what a reading comes to at the end
abbrev pub finish : {D : Type 0} → Progress D → Reading D
finish (going o) = answer_at_end o
finish (stopped f) = refused f

-- at the start nothing is unclosed
abbrev pub beginning : {D : Type 0} → Progress D
beginning = going (awaiting (top []))

-- the data that tokens are, or the first fault
unfoldable pub read_tokens : {D : Type 0} → Build D → List Placed → Reading D
read_tokens b ts = finish (run b beginning ts)

-- bytes that are no UTF-8 are refused first, where they stop being it
abbrev pub read_if : {D : Type 0} → Build D → Bool → List ℕ → Reading D
read_if b true bytes = read_tokens b (tokens bytes)
read_if b false bytes = refused (fault (utf8_valid_len bytes) Refusal.NotUtf8)

-- the data that a text's bytes are, or the first fault
unfoldable pub read_text : {D : Type 0} → Build D → List ℕ → Reading D
read_text b bytes = read_if b (is_utf8 bytes) bytes
