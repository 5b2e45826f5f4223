-- How stacks of frames grow and shrink, and which questions they answer.
use Rattle.std.proofs.Common.{◌≡◌, ℕ, suc, ◌+◌, ◌<◌, ◌≤◌, true, false, List, [], ◌∷◌, ◌++◌, length, map, refl, sym, ap, ◌∙◌, arith}
use Rattle.std.specs.Prelude.{None, Some, Result, Ok, Err, OnOk, nat_le}
use Rattle.std.specs.List.{fold}
use Rattle.std.proofs.lemmas.Bool.Decides.{nat_tests}
use Rattle.kan_refusals.specs.declared.refusals.Refusal.{Refusal}
use Rattle.kan_grammar.specs.Data.Words.{Atom, Shape, Token, opening, closing, prefix, dot, atom, bad_string, bad, symbol, string, number, truth, out_of_range, reserved}
use Rattle.kan_grammar.specs.Data.Written.{Written, single, deepest, is_allowed_atom}
use Rattle.kan_grammar.specs.Data.Enclosing.{Place, top, awaiting, depth, put}
use Rattle.kan_grammar.specs.Data.Faults.{fault, refusal, after, begins, first_fault, is_out_of_range, is_reserved_name}
use Rattle.sexpr.specs.Meaning.{prefix_of, shape_of}
use Rattle.sexpr.specs.WrittenForms.{written_form, as_kept}
use Rattle.kan_terms.specs.Table.{Table}
use Rattle.sexpr.specs.Frames.{after_point, inside, place, enclosing_of, depth_inside, HasDepth, Takes}
use Rattle.sexpr.specs.declared.data.Datum.{Datum}
use Rattle.sexpr.specs.declared.data.Prefix.{Prefix}
use Rattle.sexpr.specs.declared.frame.ListFrame.{ListFrame}
use Rattle.sexpr.specs.declared.frame.Frame.{Frame}
use Rattle.sexpr.specs.declared.frame.Frame.TheVariants as frames
use Rattle.sexpr.specs.declared.enclosing.Enclosing as stacks

-- a fold over one item more
pub fold_push : {A X : Type 0} (f : A → X → A) (a : A) (xs : List X) (x : X) → fold f a (xs ++ x ∷ []) ≡ f (fold f a xs) x
fold_push f a [] x = refl
fold_push f a (y ∷ xs) x = fold_push f (f a y) xs x

map_count : {A B : Type 0} (f : A → B) (xs : List A) → length (map f xs) ≡ length xs
map_count f [] = refl
map_count f (x ∷ xs) = ap suc (map_count f xs)

point_depth : (names : Table) (p : Place Written) (at : ℕ) (s : Shape) (ds : List Datum) (point : ℕ) → 0 < length ds → depth (after_point p at s (map (written_form names) ds) point) ≡ depth p + length ds
point_depth names p at s [] point h = absurd (omega arith)
point_depth names p at s (d ∷ ds) point h = ap (λ n. depth p + suc n) (map_count (written_form names) ds)

inside_depth : (names : Table) (p : Place Written) (f : Frame) → depth (inside names p f) ≡ depth_inside (depth p) f
inside_depth names p (frames.List l) = ap (λ n. depth p + suc n) (map_count (written_form names) l.items)
inside_depth names p (frames.Dotted l) = point_depth names p l.at (shape_of l.shape) l.items l.point l.has_first
inside_depth names p (frames.Prefix at q) = refl

frames_depth : (names : Table) (p : Place Written) (fs : List Frame) → depth (fold (inside names) p fs) ≡ fold depth_inside (depth p) fs
frames_depth names p [] = refl
frames_depth names p (f ∷ fs) = frames_depth names (inside names p f) fs ∙ ap (λ n. fold depth_inside n fs) (inside_depth names p f)

-- what is kept as the depth is that of the next datum
pub depth_is : (names : Table) (o : stacks.Enclosing) → o.depth ≡ fold depth_inside 0 o.frames.items → depth (place names o) ≡ o.depth
depth_is names o h = frames_depth names (top (map (written_form names) o.top)) o.frames.items ∙ sym h

-- one frame more
pub grown_place : (names : Table) (o n : stacks.Enclosing) (f : Frame) → n.top ≡ o.top → n.frames.items ≡ o.frames.items ++ f ∷ [] → place names n ≡ inside names (place names o) f
grown_place names o n f t e = rw (t, e) (fold_push (inside names) (top (map (written_form names) o.top)) o.frames.items f)

-- which questions refuse a token that begins a datum
asked_deep : (p : Place Written) (at : ℕ) (t : Token) → begins t ≡ true → nat_le (depth p) deepest ≡ false → refusal (awaiting p) at t ≡ Some (fault at Refusal.TooDeep)
asked_deep p at (opening s) b h = rw h refl
asked_deep p at (prefix q) b h = rw h refl
asked_deep p at (atom a) b h = rw h refl
asked_deep p at (closing s) b h = absurd cc
asked_deep p at dot b h = absurd cc
asked_deep p at bad_string b h = absurd cc
asked_deep p at bad b h = absurd cc

asked_last : (p : Place Written) (at : ℕ) (t : Token) → begins t ≡ true → nat_le (depth p) deepest ≡ true → refusal (awaiting p) at t ≡ first_fault (is_out_of_range at t ∷ is_reserved_name at t ∷ [])
asked_last p at (opening s) b h = rw h refl
asked_last p at (prefix q) b h = rw h refl
asked_last p at (atom a) b h = rw h refl
asked_last p at (closing s) b h = absurd cc
asked_last p at dot b h = absurd cc
asked_last p at bad_string b h = absurd cc
asked_last p at bad b h = absurd cc

enclosing_awaits : (names : Table) (o : stacks.Enclosing) → o.ended ≡ None → enclosing_of names o ≡ awaiting (place names o)
enclosing_awaits names o e = rw e refl

pub refused_deep : (names : Table) (o : stacks.Enclosing) (at : ℕ) → HasDepth o → o.ended ≡ None → 2048 < o.depth → (t : Token) → begins t ≡ true → refusal (enclosing_of names o) at t ≡ Some (fault at Refusal.TooDeep)
refused_deep names o at d e h t b =
    let k : depth (place names o) ≡ o.depth = depth_is names o d.inside_all in
    ap (λ x. refusal x at t) (enclosing_awaits names o e) ∙ asked_deep (place names o) at t b (rw k (grind (arith, nat_tests)))

-- where a datum may begin, only what it is can be refused
pub refused_last : (names : Table) (o : stacks.Enclosing) (at : ℕ) → HasDepth o → o.ended ≡ None → o.depth ≤ 2048 → (t : Token) → begins t ≡ true → refusal (enclosing_of names o) at t ≡ first_fault (is_out_of_range at t ∷ is_reserved_name at t ∷ [])
refused_last names o at d e h t b =
    let k : depth (place names o) ≡ o.depth = depth_is names o d.inside_all in
    ap (λ x. refusal x at t) (enclosing_awaits names o e) ∙ asked_last (place names o) at t b (rw k (grind (arith, nat_tests)))

-- an atom that a datum may be
allowed_last : (at : ℕ) (a : Atom) → is_allowed_atom a ≡ true → first_fault (is_out_of_range at (atom a) ∷ is_reserved_name at (atom a) ∷ []) ≡ None
allowed_last at (symbol s) h = refl
allowed_last at (string s) h = refl
allowed_last at (number n) h = refl
allowed_last at (truth b) h = refl
allowed_last at out_of_range h = absurd cc
allowed_last at reserved h = absurd cc

-- a token that opens a frame is taken
takes_frame : (names : Table) (o n : stacks.Enclosing) (f : Frame) (at : ℕ) (t : Token) → o.ended ≡ None → refusal (enclosing_of names o) at t ≡ None → after as_kept (awaiting (place names o)) at t ≡ awaiting (inside names (place names o) f) → n.top ≡ o.top → n.frames.items ≡ o.frames.items ++ f ∷ [] → n.ended ≡ None → Takes names o n at t
takes_frame names o n f at t e r a s g m = (r, enclosing_awaits names n m ∙ ap awaiting (grown_place names o n f s g) ∙ sym a ∙ ap (λ x. after as_kept x at t) (sym (enclosing_awaits names o e)))

pub takes_opening : (names : Table) (o n : stacks.Enclosing) (l : ListFrame) (at : ℕ) → HasDepth o → o.ended ≡ None → o.depth ≤ 2048 → l.items ≡ [] → l.at ≡ at → n.top ≡ o.top → n.frames.items ≡ o.frames.items ++ frames.List l ∷ [] → n.ended ≡ None → Takes names o n at (opening (shape_of l.shape))
takes_opening names o n l at d e h i a s g m =
    takes_frame names o n (frames.List l) at (opening (shape_of l.shape)) e (refused_last names o at d e h (opening (shape_of l.shape)) refl) (rw (i, a) refl) s g m

pub takes_prefix : (names : Table) (o n : stacks.Enclosing) (q : Prefix) (at : ℕ) → HasDepth o → o.ended ≡ None → o.depth ≤ 2048 → n.top ≡ o.top → n.frames.items ≡ o.frames.items ++ frames.Prefix at q ∷ [] → n.ended ≡ None → Takes names o n at (prefix (prefix_of q))
takes_prefix names o n q at d e h s g m = takes_frame names o n (frames.Prefix at q) at (prefix (prefix_of q)) e (refused_last names o at d e h (prefix (prefix_of q)) refl) refl s g m

-- what follows where a call succeeds
pub on_ok : {T E : Type 0} {P Q : Type 0} (r : Result T E) → (P → Q) → OnOk r P → OnOk r Q
on_ok (Ok x) f p = f p
on_ok (Err e) f p = p

-- a datum of one token is taken
pub takes_single : (names : Table) (o n : stacks.Enclosing) (at : ℕ) (a : Atom) (d : Datum) → HasDepth o → o.ended ≡ None → o.depth ≤ 2048 → is_allowed_atom a ≡ true → written_form names d ≡ single at a → enclosing_of names n ≡ put as_kept (place names o) (written_form names d) → Takes names o n at (atom a)
takes_single names o n at a d k e h allowed w p =
    (refused_last names o at k e h (atom a) refl ∙ allowed_last at a allowed, p ∙ ap (put as_kept (place names o)) w ∙ ap (λ x. after as_kept x at (atom a)) (sym (enclosing_awaits names o e)))
