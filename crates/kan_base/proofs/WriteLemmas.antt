-- What writes of the rest of a piece put together.
use Rattle.std.proofs.Common.{◌≡◌, ℕ, ◌+◌, ◌-◌, List, length, take, drop, Option, sym, subst, arith, length-drop, take-append-drop}
use Rattle.std.specs.Io.KnownBytes.{Appends}
use Rattle.std.proofs.KnownBytes.{Appends-trans}
use Rattle.std.proofs.Math.Seq.{take-add}
use Rattle.std.proofs.lemmas.List.{take_all}
use Rattle.kan_base.specs.Writes.{Writes, PutsFront}

-- the rest of a piece that begins at a place is as long as is left from there
rest_whole : (done : ℕ) (piece : List ℕ) → take (length piece - done) (drop done piece) ≡ drop done piece
rest_whole done piece = take_all (length piece - done) (drop done piece) (omega (arith, length-drop done piece))

-- the bytes that were put, and then the first n of the rest
pub Appends-more : (a b c : Option (List ℕ)) (done n : ℕ) (piece : List ℕ) → Appends a b (take done piece)
    → Writes b c n (take (length piece - done) (drop done piece)) → Appends a c (take (done + n) piece)
Appends-more a b c done n piece p q =
    let step : Appends b c (take n (drop done piece)) = subst (λ rest. Appends b c (take n rest)) (rest_whole done piece) q.put in
    subst (Appends a c) (sym (take-add done n piece)) (Appends-trans a b c (take done piece) (take n (drop done piece)) p step)

-- a front of the piece was put, and then nothing more
pub front_put : (a b c : Option (List ℕ)) (done : ℕ) (piece : List ℕ) → Appends a b (take done piece) → c ≡ b → PutsFront a c piece
front_put a b c done piece p same = record {
  front = take done piece;
  rest = drop done piece;
  parts = sym (take-append-drop done piece);
  put = subst (λ after. Appends a after (take done piece)) (sym same) p;
}
