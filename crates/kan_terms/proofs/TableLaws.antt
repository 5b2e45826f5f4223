-- The laws of tables of names, and what a set of texts says of its table.
use Rattle.std.specs.Prelude.{◌≡◌, ◌≢◌, ℕ, suc, zero, ◌+◌, ◌<◌, Bool, true, false, not, ◌||◌, List, [], ◌∷◌, ◌++◌, Option, None, Some, is_some, if◌then◌else◌, cond, option_map, bytes_eq, length, map, refl, nat_lt, position}
use Rattle.std.specs.List.{list_any, position_or_len}
use Rattle.std.proofs.Common.{sym, ◌∙◌, ap, arith, get_or}
use Rattle.std.proofs.lemmas.Bool.{lt-ltb, true≢false}
use Rattle.std.proofs.lemmas.Bool.Decides.{nat_tests}
use Rattle.std.proofs.lemmas.Slice.Eq.{bytes_eq-Decides}
use Rattle.std.proofs.lemmas.List.Quantifiers.{all_pairs_push}
use Rattle.std.proofs.lemmas.List.{length-map, length_push, map-append}
use Rattle.std.proofs.lemmas.Option.{slice_get_within, get_or_from_slice_get}
use Rattle.kan_terms.specs.Table.{number_of, name_of, IsDistinct, with_text}

-- a number below another, each one higher
suc-below : (n len : ℕ) → nat_lt (1 + n) (suc len) ≡ nat_lt n len
suc-below n len = grind (arith, nat_tests)

shifted : (b : Bool) (n : ℕ) → cond b (Some (1 + n)) None ≡ option_map (λ k. suc k) (cond b (Some n) None)
shifted true n = ap Some (omega arith)
shifted false n = refl

-- the index of the first item that passes, by whether the head passes
position-cons : (b : Bool) (n len : ℕ)
    → cond (nat_lt (cond (not b) (1 + n) 0) (suc len)) (Some (cond (not b) (1 + n) 0)) None ≡ (if b then Some 0 else option_map (λ k. suc k) (cond (nat_lt n len) (Some n) None))
position-cons true n len = rw (lt-ltb 0 (suc len) (omega arith))
position-cons false n len = rw (suc-below n len) (shifted (nat_lt n len) n)

-- the index at which a set finds a text is the number of the text
pub position-number_of : {K : Type 0} (bytes : K → List ℕ) (keys : List K) (text : List ℕ) → position (λ k. bytes_eq text (bytes k)) keys ≡ number_of (map bytes keys) text
position-number_of bytes [] text = refl
position-number_of bytes (k ∷ keys) text =
    position-cons (bytes_eq text (bytes k)) (position_or_len (λ k. bytes_eq text (bytes k)) keys) (length keys)
    ∙ ap (λ r. if bytes_eq text (bytes k) then Some 0 else option_map (λ k. suc k) r) (position-number_of bytes keys text)

-- whether a number stands, where the tail's is shifted
is_some-number : (b : Bool) (r : Option ℕ) → is_some (if b then Some 0 else option_map (λ k. suc k) r) ≡ (b || is_some r)
is_some-number true r = refl
is_some-number false None = refl
is_some-number false (Some n) = refl

-- a set has a text exactly where the text has a number
pub list_any-number_of : {K : Type 0} (bytes : K → List ℕ) (keys : List K) (text : List ℕ) → list_any (λ k. bytes_eq text (bytes k)) keys ≡ is_some (number_of (map bytes keys) text)
list_any-number_of bytes [] text = refl
list_any-number_of bytes (k ∷ keys) text =
    ap (λ r. bytes_eq text (bytes k) || r) (list_any-number_of bytes keys text) ∙ sym (is_some-number (bytes_eq text (bytes k)) (number_of (map bytes keys) text))

-- a text that has no number is not the head, and has none in the tail
none-split : (b : Bool) (r : Option ℕ) → (if b then Some 0 else option_map (λ k. suc k) r) ≡ None → (b ≡ false) × (r ≡ None)
none-split true r e = cc
none-split false None e = (refl, refl)
none-split false (Some n) e = cc

-- a text that has a number is the head, or has a number in the tail
Some-same : (m n : ℕ) → Some m ≡ Some n → m ≡ n
Some-same m n e = cc

some-split : (b : Bool) (r : Option ℕ) (n : ℕ) → (if b then Some 0 else option_map (λ k. suc k) r) ≡ Some (suc n) → (b ≡ false) × (r ≡ Some n)
some-split true r n e = absurd (omega (arith, Some-same 0 (suc n) e))
some-split false None n e = cc
some-split false (Some m) n e = (refl, ap Some (omega (arith, Some-same (suc m) (suc n) e)))

zero-split : (b : Bool) (r : Option ℕ) → (if b then Some 0 else option_map (λ k. suc k) r) ≡ Some 0 → b ≡ true
zero-split true r e = refl
zero-split false None e = cc
zero-split false (Some m) e = absurd (omega (arith, Some-same (suc m) 0 e))

-- a new text at the end of a table has the table's length for its number
pub number_of-push : (table : List (List ℕ)) (text : List ℕ) → number_of table text ≡ None → number_of (table ++ text ∷ []) text ≡ Some (length table)
number_of-push [] text none = rw ((bytes_eq-Decides text text).1 refl)
number_of-push (first ∷ rest) text none =
    let split = none-split (bytes_eq text first) (number_of rest text) none in
    rw (split.0, number_of-push rest text split.1)

-- the text at a number is the text that has it
pub name_of-number_of : (table : List (List ℕ)) (text : List ℕ) (n : ℕ) → number_of table text ≡ Some n → name_of table n ≡ Some text
name_of-number_of [] text n e = cc
name_of-number_of (first ∷ rest) text zero e =
    ap Some (sym ((bytes_eq-Decides text first).0 (zero-split (bytes_eq text first) (number_of rest text) e)))
name_of-number_of (first ∷ rest) text (suc n) e =
    name_of-number_of rest text n (some-split (bytes_eq text first) (number_of rest text) n e).1

-- a text that has no number stands nowhere in the table
pub absent-number_of : (table : List (List ℕ)) (text : List ℕ) → number_of table text ≡ None → (k : ℕ) (d : List ℕ) → k < length table → get_or table k d ≢ text
absent-number_of [] text none k d within = absurd (omega arith)
absent-number_of (first ∷ rest) text none zero d within = λ same.
    let split = none-split (bytes_eq text first) (number_of rest text) none in
    true≢false (sym ((bytes_eq-Decides text first).1 (sym same)) ∙ split.0)
absent-number_of (first ∷ rest) text none (suc k) d within =
    absent-number_of rest text (none-split (bytes_eq text first) (number_of rest text) none).1 k d (omega arith)

-- interning in a table without doubles makes none
pub IsDistinct-push : (table : List (List ℕ)) (text : List ℕ) → IsDistinct table → number_of table text ≡ None → IsDistinct (table ++ text ∷ [])
IsDistinct-push table text distinct none =
    all_pairs_push (λ x y. x ≢ y) table text distinct (λ k d within. absent-number_of table text none k d within)

-- texts that differ fail the test
ne_bytes : (x y : List ℕ) → x ≢ y → bytes_eq x y ≡ false
ne_bytes x y differ = by (bytes_eq x y) refl
  where
    by : (b : Bool) → bytes_eq x y ≡ b → b ≡ false
    by true e = absurd (differ ((bytes_eq-Decides x y).0 e))
    by false e = refl

-- the rest of a table without doubles has none
IsDistinct-tail : (first : List ℕ) (rest : List (List ℕ)) → IsDistinct (first ∷ rest) → IsDistinct rest
IsDistinct-tail first rest distinct i j d below within = distinct (suc i) (suc j) d (omega arith) (omega arith)

-- a text and the number at which it stands determine each other
pub number_of-name_of : (table : List (List ℕ)) (text : List ℕ) (n : ℕ) → IsDistinct table → name_of table n ≡ Some text → number_of table text ≡ Some n
number_of-name_of [] text n distinct e = cc
number_of-name_of (first ∷ rest) text zero distinct e = rw ((bytes_eq-Decides text first).1 (sym (same-text first text e))) refl
  where
    same-text : (x y : List ℕ) → Some x ≡ Some y → x ≡ y
    same-text x y e = cc
number_of-name_of (first ∷ rest) text (suc n) distinct e =
    let within = slice_get_within rest n text e in
    let differs : first ≢ text = λ same. distinct 0 (suc n) first (omega arith) (omega arith) (same ∙ sym (get_or_from_slice_get rest n text first e)) in
    let fails : bytes_eq text first ≡ false = ne_bytes text first (λ same. differs (sym same)) in
    let later = number_of-name_of rest text n (IsDistinct-tail first rest distinct) e in
    rw (fails, later) refl

-- interning makes no doubles
pub IsDistinct-with_text : (table : List (List ℕ)) (text : List ℕ) → IsDistinct table → IsDistinct (with_text table text)
IsDistinct-with_text table text distinct = by (number_of table text) refl
  where
    by : (r : Option ℕ) → number_of table text ≡ r → IsDistinct (with_text table text)
    by (Some n) e = rw e distinct
    by None e = rw e (IsDistinct-push table text distinct e)

-- interning keeps the numbers that texts have
pub number_of-append : (table more : List (List ℕ)) (text : List ℕ) (n : ℕ) → number_of table text ≡ Some n → number_of (table ++ more) text ≡ Some n
number_of-append [] more text n e = cc
number_of-append (first ∷ rest) more text zero e = rw (zero-split (bytes_eq text first) (number_of rest text) e) refl
number_of-append (first ∷ rest) more text (suc n) e =
    let split = some-split (bytes_eq text first) (number_of rest text) n e in
    rw (split.0, number_of-append rest more text n split.1) refl

pub number_of-with_text : (table : List (List ℕ)) (new text : List ℕ) (n : ℕ) → number_of table text ≡ Some n → number_of (with_text table new) text ≡ Some n
number_of-with_text table new text n e = by (is_some (number_of table new))
  where
    by : (b : Bool) → number_of (if b then table else table ++ new ∷ []) text ≡ Some n
    by true = e
    by false = number_of-append table (new ∷ []) text n e

-- interning keeps the texts that numbers have
pub name_of-append : (table more : List (List ℕ)) (text : List ℕ) (n : ℕ) → name_of table n ≡ Some text → name_of (table ++ more) n ≡ Some text
name_of-append [] more text n e = cc
name_of-append (first ∷ rest) more text zero e = e
name_of-append (first ∷ rest) more text (suc n) e = name_of-append rest more text n e

-- the keys of a set after an insertion are the table with the text
with_text-keys : {K : Type 0} (bytes : K → List ℕ) (keys : List K) (owned : K)
    → map bytes (if list_any (λ k. bytes_eq (bytes owned) (bytes k)) keys then keys else keys ++ owned ∷ []) ≡ with_text (map bytes keys) (bytes owned)
with_text-keys {K} bytes keys owned =
    choose (list_any (λ k. bytes_eq (bytes owned) (bytes k)) keys)
    ∙ ap (λ b. if b then map bytes keys else map bytes keys ++ bytes owned ∷ []) (list_any-number_of bytes keys (bytes owned))
  where
    choose : (b : Bool) → map bytes (if b then keys else keys ++ owned ∷ []) ≡ (if b then map bytes keys else map bytes keys ++ bytes owned ∷ [])
    choose true = refl
    choose false = map-append bytes keys (owned ∷ [])

-- an inserted text has the index that the set gives for its number
pushed-number : {K : Type 0} (bytes : K → List ℕ) (keys : List K) (text : List ℕ)
    → number_of (map bytes keys ++ text ∷ []) text ≡ Some (position_or_len (λ k. bytes_eq text (bytes k)) keys)
pushed-number bytes [] text = rw ((bytes_eq-Decides text text).1 refl) refl
pushed-number {K} bytes (key ∷ keys) text =
    ap (λ r. if bytes_eq text (bytes key) then Some 0 else option_map (λ k. suc k) r) (pushed-number bytes keys text)
    ∙ choose (bytes_eq text (bytes key)) (position_or_len (λ k. bytes_eq text (bytes k)) keys)
  where
    choose : (b : Bool) (n : ℕ) → (if b then Some 0 else option_map (λ k. suc k) (Some n)) ≡ Some (cond (not b) (1 + n) 0)
    choose true n = refl
    choose false n = ap Some (omega arith)

-- a table without a text gets it at its end
with_text-new : (table : List (List ℕ)) (text : List ℕ) → number_of table text ≡ None → with_text table text ≡ table ++ text ∷ []
with_text-new table text none = rw none refl

-- what the insertion of a new text in a set of texts does to the table
pub record Inserts {K : Type 0} (bytes : K → List ℕ) (keys new : List K) (text : List ℕ) (number : ℕ) : Type 0 where
  pub table : map bytes new ≡ with_text (map bytes keys) text
  pub number_is : number_of (map bytes new) text ≡ Some number
  pub distinct : IsDistinct (map bytes keys) → IsDistinct (map bytes new)
  pub longer : length new ≡ length keys + 1

pub Inserts-full : {K : Type 0} (bytes : K → List ℕ) (keys new : List K) (owned : K) (text : List ℕ) (number : ℕ)
    → bytes owned ≡ text → number_of (map bytes keys) text ≡ None
    → new ≡ (if list_any (λ k. bytes_eq (bytes owned) (bytes k)) keys then keys else keys ++ owned ∷ [])
    → number ≡ position_or_len (λ k. bytes_eq (bytes owned) (bytes k)) keys
    → Inserts bytes keys new text number
Inserts-full {K} bytes keys new owned text number same none is_new is_number =
    let table : map bytes new ≡ with_text (map bytes keys) text =
    ap (map bytes) is_new ∙ with_text-keys bytes keys owned ∙ ap (with_text (map bytes keys)) same in
    let pushed : map bytes new ≡ map bytes keys ++ text ∷ [] = table ∙ with_text-new (map bytes keys) text none in
    let at : number ≡ position_or_len (λ k. bytes_eq text (bytes k)) keys = is_number ∙ ap (λ t. position_or_len (λ k. bytes_eq t (bytes k)) keys) same in
    record {
      table = table;
      number_is = rw (pushed, at) (pushed-number bytes keys text);
      distinct = λ d. rw table (IsDistinct-with_text (map bytes keys) text d);
      longer = omega (arith, length-map new bytes, length-map keys bytes, ap length pushed, length_push (map bytes keys) text);
    }
