-- Readings of the same tokens agree but for what is built: what a map carries over, a reading carries over.
use Rattle.std.proofs.Common.{◌≡◌, ℕ, suc, Bool, true, false, List, [], ◌∷◌, ◌++◌, map, length, refl, sym, ap, ◌∙◌, append_assoc, append-nil}
use Rattle.std.specs.Prelude.{Option, Some, None}
use Rattle.std.specs.Str.{is_utf8}
use Rattle.kan_grammar.specs.Data.Tokens.{Placed, placed, tokens}
use Rattle.kan_grammar.specs.Data.Words.{Shape, Token, opening, closing, prefix, dot, atom, bad_string, bad}
use Rattle.kan_grammar.specs.Data.Written.{Written, Within, close, dotted}
use Rattle.kan_grammar.specs.Data.Enclosing.{Build, Place, top, in_list, after_dot, after_prefix, Enclosing, awaiting, ended, depth, put, row, as_written}
use Rattle.kan_grammar.specs.Data.Faults.{Fault, refusal, after, Progress, going, stopped, settle, step, run, finish, beginning, read_tokens, read_if, read_text}
use Rattle.kan_grammar.specs.Data.Builds.{build_datum, build_within, Carries, map_reading}

abbrev map_place : {C D : Type 0} → (C → D) → Place C → Place D
map_place f (top ds) = top (map f ds)
map_place f (in_list outer at s ds) = in_list (map_place f outer) at s (map f ds)
map_place f (after_dot outer at s e ds point) = after_dot (map_place f outer) at s (f e) (map f ds) point
map_place f (after_prefix outer at p) = after_prefix (map_place f outer) at p

abbrev map_enclosing : {C D : Type 0} → (C → D) → Enclosing C → Enclosing D
map_enclosing f (awaiting p) = awaiting (map_place f p)
map_enclosing f (ended outer at s e ds point d) = ended (map_place f outer) at s (f e) (map f ds) point (f d)

abbrev map_progress : {C D : Type 0} → (C → D) → Progress C → Progress D
map_progress f (going o) = going (map_enclosing f o)
map_progress f (stopped x) = stopped x

map-snoc : {C D : Type 0} (f : C → D) (xs : List C) (x : C) → map f (xs ++ x ∷ []) ≡ map f xs ++ f x ∷ []
map-snoc f [] x = refl
map-snoc f (y ∷ xs) x = ap (λ ys. f y ∷ ys) (map-snoc f xs x)

map-length : {C D : Type 0} (f : C → D) (xs : List C) → length (map f xs) ≡ length xs
map-length f [] = refl
map-length f (x ∷ xs) = ap suc (map-length f xs)

depth-map : {C D : Type 0} (f : C → D) (p : Place C) → depth (map_place f p) ≡ depth p
depth-map f (top ds) = refl
depth-map f (in_list outer at s ds) = rw (depth-map f outer, map-length f ds)
depth-map f (after_dot outer at s e ds point) = rw (depth-map f outer, map-length f ds)
depth-map f (after_prefix outer at p) = rw (depth-map f outer)

-- the questions don't see what is built
refusal-map : {C D : Type 0} (f : C → D) (o : Enclosing C) (at : ℕ) (t : Token) → refusal (map_enclosing f o) at t ≡ refusal o at t
refusal-map f (awaiting p) at (opening s) = rw (depth-map f p)
refusal-map f (awaiting p) at (prefix q) = rw (depth-map f p)
refusal-map f (awaiting p) at (atom a) = rw (depth-map f p)
refusal-map f (awaiting (top ds)) at (closing r) = refl
refusal-map f (awaiting (in_list outer start s ds)) at (closing r) = refl
refusal-map f (awaiting (after_dot outer start s e ds point)) at (closing r) = refl
refusal-map f (awaiting (after_prefix outer start q)) at (closing r) = refl
refusal-map f (awaiting (top ds)) at dot = refl
refusal-map f (awaiting (in_list outer start s [])) at dot = refl
refusal-map f (awaiting (in_list outer start s (e ∷ ds))) at dot = refl
refusal-map f (awaiting (after_dot outer start s e ds point)) at dot = refl
refusal-map f (awaiting (after_prefix outer start q)) at dot = refl
refusal-map f (awaiting p) at bad_string = refl
refusal-map f (awaiting p) at bad = refl
refusal-map f (ended outer start s e ds point d) at (opening r) = refl
refusal-map f (ended outer start s e ds point d) at (closing r) = refl
refusal-map f (ended outer start s e ds point d) at (prefix q) = refl
refusal-map f (ended outer start s e ds point d) at dot = refl
refusal-map f (ended outer start s e ds point d) at (atom a) = refl
refusal-map f (ended outer start s e ds point d) at bad_string = refl
refusal-map f (ended outer start s e ds point d) at bad = refl

put-map : {C D : Type 0} (a : Build C) (b : Build D) (f : C → D) → Carries a b f → (p : Place C) (d : C) → put b (map_place f p) (f d) ≡ map_enclosing f (put a p d)
put-map a b f c (top ds) d = ap (λ xs. awaiting (top xs)) (sym (map-snoc f ds d))
put-map a b f c (in_list outer at s ds) d = ap (λ xs. awaiting (in_list (map_place f outer) at s xs)) (sym (map-snoc f ds d))
put-map a b f c (after_dot outer at s e ds point) d = refl
put-map a b f c (after_prefix outer at p) d = ap (put b (map_place f outer)) (sym (c.prefixes at p d)) ∙ put-map a b f c outer (a.of_prefixed at p d)

after-map : {C D : Type 0} (a : Build C) (b : Build D) (f : C → D) → Carries a b f → (o : Enclosing C) (at : ℕ) (t : Token) → after b (map_enclosing f o) at t ≡ map_enclosing f (after a o at t)
after-map a b f c (awaiting p) at (opening s) = refl
after-map a b f c (awaiting p) at (prefix q) = refl
after-map a b f c (awaiting p) at (atom x) = ap (put b (map_place f p)) (sym (c.atoms at x)) ∙ put-map a b f c p (a.of_atom at x)
after-map a b f c (awaiting (top ds)) at (closing r) = refl
after-map a b f c (awaiting (in_list outer start s ds)) at (closing r) = ap (put b (map_place f outer)) (sym (c.lists start s ds at)) ∙ put-map a b f c outer (a.of_list start s ds at)
after-map a b f c (awaiting (after_dot outer start s e ds point)) at (closing r) = refl
after-map a b f c (awaiting (after_prefix outer start q)) at (closing r) = refl
after-map a b f c (awaiting (top ds)) at dot = refl
after-map a b f c (awaiting (in_list outer start s [])) at dot = refl
after-map a b f c (awaiting (in_list outer start s (e ∷ ds))) at dot = refl
after-map a b f c (awaiting (after_dot outer start s e ds point)) at dot = refl
after-map a b f c (awaiting (after_prefix outer start q)) at dot = refl
after-map a b f c (awaiting p) at bad_string = refl
after-map a b f c (awaiting p) at bad = refl
after-map a b f c (ended outer start s e ds point d) at (opening r) = refl
after-map a b f c (ended outer start s e ds point d) at (closing r) = ap (put b (map_place f outer)) (sym (c.dotted_lists start s (e ∷ ds) point d at)) ∙ put-map a b f c outer (a.of_dotted start s (e ∷ ds) point d at)
after-map a b f c (ended outer start s e ds point d) at (prefix q) = refl
after-map a b f c (ended outer start s e ds point d) at dot = refl
after-map a b f c (ended outer start s e ds point d) at (atom x) = refl
after-map a b f c (ended outer start s e ds point d) at bad_string = refl
after-map a b f c (ended outer start s e ds point d) at bad = refl

settled-map : {C D : Type 0} (f : C → D) (r : Option Fault) (o : Enclosing C) → settle r (map_enclosing f o) ≡ map_progress f (settle r o)
settled-map f None o = refl
settled-map f (Some x) o = refl

step-map : {C D : Type 0} (a : Build C) (b : Build D) (f : C → D) → Carries a b f → (p : Progress C) (t : Placed) → step b (map_progress f p) t ≡ map_progress f (step a p t)
step-map a b f c (going o) (placed at t) =
    ap (λ r. settle r (after b (map_enclosing f o) at t)) (refusal-map f o at t)
    ∙ ap (settle (refusal o at t)) (after-map a b f c o at t)
    ∙ settled-map f (refusal o at t) (after a o at t)
step-map a b f c (stopped x) t = refl

run-map : {C D : Type 0} (a : Build C) (b : Build D) (f : C → D) → Carries a b f → (p : Progress C) (ts : List Placed) → run b (map_progress f p) ts ≡ map_progress f (run a p ts)
unfolding run
run-map a b f c p [] = refl
run-map a b f c p (t ∷ ts) = ap (λ q. run b q ts) (step-map a b f c p t) ∙ run-map a b f c (step a p t) ts

finish-map : {C D : Type 0} (f : C → D) (p : Progress C) → finish (map_progress f p) ≡ map_reading f (finish p)
finish-map f (going (awaiting (top ds))) = refl
finish-map f (going (awaiting (in_list outer at s ds))) = refl
finish-map f (going (awaiting (after_dot outer at s e ds point))) = refl
finish-map f (going (awaiting (after_prefix outer at p))) = refl
finish-map f (going (ended outer at s e ds point d)) = refl
finish-map f (stopped x) = refl

-- readings of tokens and of texts carry over
pub read_tokens-map : {C D : Type 0} (a : Build C) (b : Build D) (f : C → D) → Carries a b f → (ts : List Placed) → read_tokens b ts ≡ map_reading f (read_tokens a ts)
unfolding read_tokens
read_tokens-map a b f c ts = ap finish (run-map a b f c beginning ts) ∙ finish-map f (run a beginning ts)

pub read_text-map : {C D : Type 0} (a : Build C) (b : Build D) (f : C → D) → Carries a b f → (bytes : List ℕ) → read_text b bytes ≡ map_reading f (read_text a bytes)
unfolding read_text
read_text-map a b f c bytes = by_utf8 (is_utf8 bytes)
  where
    by_utf8 : (u : Bool) → read_if b u bytes ≡ map_reading f (read_if a u bytes)
    by_utf8 true = read_tokens-map a b f c (tokens bytes)
    by_utf8 false = refl

made-row : {D : Type 0} (b : Build D) (start : ℕ) (s : Shape) (es : List D) (ds : List Written) (inner : Within) → build_within b start s es (row ds inner) ≡ build_within b start s (es ++ map (build_datum b) ds) inner
made-row b start s es [] inner = ap (λ xs. build_within b start s xs inner) (sym (append-nil es))
made-row b start s es (d ∷ ds) inner = made-row b start s (es ++ build_datum b d ∷ []) ds inner ∙ ap (λ xs. build_within b start s xs inner) (append_assoc es (build_datum b d ∷ []) (map (build_datum b) ds))

-- what a build makes of data as they are written is what it reads
pub made_carries : {D : Type 0} (b : Build D) → Carries as_written b (build_datum b)
made_carries b = record {
  atoms = λ at x. refl;
  lists = λ at s ds end. made-row b at s [] ds (close end);
  dotted_lists = λ at s ds point d end. made-row b at s [] ds (dotted point d end);
  prefixes = λ at p d. refl;
}
