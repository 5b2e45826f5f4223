-- What is written of runs, piece after piece.
use Rattle.std.proofs.Common.{◌≡◌, ℕ, zero, suc, ◌+◌, ◌<◌, ◌≤◌, true, Option, Some, None, Ok, Err, ap₂, subst, length-append, List, [], ◌∷◌, ◌++◌, map, take, drop, Bool, false, length, refl, sym, ◌∙◌, ap, arith, append-nil, append_assoc, inl, inr}
use Rattle.std.proofs.Math.ListN.{get_or}
use Rattle.std.specs.Prelude.{◌⊎◌, Result, ◌||◌, nat_lt, ◌&&◌}
use Rattle.std.proofs.lemmas.Bool.{and_parts}
use Rattle.std.specs.Result.{IsErrAnd}
use Rattle.std.proofs.lemmas.List.{length-map}
use Rattle.std.specs.List.{list_all}
use Rattle.std.specs.Io.KnownBytes.{Appends}
use Rattle.std.proofs.KnownBytes.{Appends-nil, Appends-trans}
use Rattle.std.proofs.lemmas.Grind.{flat_map-append}
use Rattle.kan_base.specs.Faults.{one_more}
use Rattle.kan_base.specs.Views.{SinkView}
use Rattle.kan_base.specs.Writes.{PutsFront}
use Rattle.kan_model.specs.Programs.Goals.{Program, Query, Goal}
use Rattle.kan_model.specs.Programs.Nodes.{goal_place}
use Rattle.kan_model.specs.Programs.Closed as programs
use Rattle.kan_model.specs.Programs.Scope.{is_closed, is_low, calls_there, body_in_scope, in_scope}
use Rattle.kan_model.specs.Programs.Tables.{are_closed, templates_of, program_of, goal_at, goals_of}
use Rattle.kanren_run.proofs.DeclaredTypes as declared
use Rattle.kan_model.specs.Stores.Store.{Store}
use Rattle.kan_terms.specs.Table.{Table}
use Rattle.kan_model.specs.Streams.Taking.{Taken, take_query}
use Rattle.kan_model.specs.Answers.Output.{answer_line, summary_line, taken_text, runs_output}
use Rattle.kan_search.specs.Batches.{Advances, batch_then, ending_of}
use Rattle.kan_model.specs.Programs.Closed.{query_of}
use Rattle.kan_search.specs.declared.batch.Ended.{Ended}
use Rattle.kanren_run.specs.Writing.{Puts, Stops, Written, WritesNext, Continues, CanRun, answer_lines, end_text, rest_text}
use Rattle.kanren_run.specs.declared.writing.Stop.{Stop}
use Rattle.kanren_run.specs.declared.writing.Stop.TheVariants.{Fault, Memory}
use Rattle.kan_grammar.specs.Texts.Reply.{is_spent}
use Rattle.kanren_run.specs.Answers.{spends}
use Rattle.kan_model.specs.Answers.Answer.{HasNames}
use Rattle.kanren_run.specs.Tags.{is_query_named}
use Rattle.kan_model.specs.Each.{Each}

-- the lines of the answers so far, and of one more
pub lines_more : {X : Type 0} (table : Table) (means : X → Store) (xs : List X) (i : ℕ) (d : X) → i < length xs →
    answer_lines table (map means (take (suc i) xs)) ≡ answer_lines table (map means (take i xs)) ++ answer_line table (means (get_or xs i d))
lines_more table means [] i d within = absurd (omega (arith, within))
lines_more table means (x ∷ xs) zero d within = append-nil (answer_line table (means x))
lines_more table means (x ∷ xs) (suc i) d within =
    ap (λ l. answer_line table (means x) ++ l) (lines_more table means xs i d (omega (arith, within)))
    ∙ sym (append_assoc (answer_line table (means x)) (answer_lines table (map means (take i xs))) (answer_line table (means (get_or xs i d))))

-- a text with the lines of one more
pub text_more : {X : Type 0} (table : Table) (means : X → Store) (xs : List X) (i : ℕ) (x : X) (before text new : List ℕ) → i < length xs → x ≡ get_or xs i x →
    text ≡ before ++ answer_lines table (map means (take i xs)) → new ≡ text ++ answer_line table (means x) → new ≡ before ++ answer_lines table (map means (take (i + 1) xs))
text_more table means xs i x before text new within is so_far added =
    let next : i + 1 ≡ suc i = omega arith in
    added ∙ ap (λ t. t ++ answer_line table (means x)) so_far
    ∙ append_assoc before (answer_lines table (map means (take i xs))) (answer_line table (means x))
    ∙ ap (λ l. before ++ l) (ap (λ y. answer_lines table (map means (take i xs)) ++ answer_line table (means y)) is ∙ sym (lines_more table means xs i x within)
    ∙ ap (λ k. answer_lines table (map means (take k xs))) (sym next))

-- a fact of each is one of that at a place
pub each-at : {X : Type 0} (P : Store → Type 0) (means : X → Store) (xs : List X) (i : ℕ) (d : X) → i < length xs → Each P (map means xs) → P (means (get_or xs i d))
each-at P means [] i d within each = absurd (omega (arith, within))
each-at P means (x ∷ xs) zero d within (first, rest) = first
each-at P means (x ∷ xs) (suc i) d within (first, rest) = each-at P means xs i d (omega (arith, within)) rest

-- what is written of a batch and of what is left after it
rest-batch_then : (table : Table) (n p : ℕ) (sts : List Store) (k : ℕ) (t : Taken) → rest_text table n p (batch_then sts k t) ≡ answer_lines table sts ++ rest_text table (n + length sts) (p + k) t
rest-batch_then table n p sts k t =
    let counts : n + length (sts ++ t.stores) ≡ n + length sts + length t.stores = let l = length-append sts t.stores in omega (arith, l) in
    let pulled : p + (k + t.pulls) ≡ p + k + t.pulls = omega arith in
    ap₂ (λ a b. answer_lines table (sts ++ t.stores) ++ summary_line a b t.ending) counts pulled
    ∙ ap (λ l. l ++ summary_line (n + length sts + length t.stores) (p + k + t.pulls) t.ending) (flat_map-append (answer_line table) sts t.stores)
    ∙ append_assoc (answer_lines table sts) (answer_lines table t.stores) (summary_line (n + length sts + length t.stores) (p + k + t.pulls) t.ending)

-- pieces of a text, put one after the other
pub written_more : (text rest last piece : List ℕ) (a b c : SinkView) → Written text a b rest → rest ≡ piece ++ last → Appends b.put c.put piece → c.faults ≡ b.faults → Written text a c last
written_more text rest last piece a b c w parts put still = record {
  front = w.front ++ piece;
  parts = w.parts ∙ ap (λ l. w.front ++ l) parts ∙ sym (append_assoc w.front piece last);
  put_front = Appends-trans a.put b.put c.put w.front piece w.put_front put;
  still = still ∙ w.still;
}

pub written_on : (text rest last : List ℕ) (a b c : SinkView) → Written text a b rest → Written rest b c last → Written text a c last
written_on text rest last a b c w v = written_more text rest last v.front a b c w v.parts v.put_front v.still

-- a front of what is left is one of the whole text
front_on : (text rest : List ℕ) (a b c : Option (List ℕ)) (front : List ℕ) → text ≡ front ++ rest → Appends a b front → PutsFront b c rest → PutsFront a c text
front_on text rest a b c front parts put next = record {
  front = front ++ next.front;
  rest = next.rest;
  parts = parts ∙ ap (λ l. front ++ l) next.parts ∙ sym (append_assoc front next.front next.rest);
  put = Appends-trans a b c front next.front put next.put;
}

pub stops_on : (text rest : List ℕ) (s : Stop) (a b c : SinkView) → Written text a b rest → Stops rest b c s → Stops text a c s
stops_on text rest Fault a b c w (front, more) =
    (front_on text rest a.put b.put c.put w.front w.parts w.put_front front, more ∙ ap one_more w.still)
stops_on text rest Memory a b c w (front, still) = (front_on text rest a.put b.put c.put w.front w.parts w.put_front front, still ∙ w.still)

-- want of memory before anything was put
pub nothing_put : (text : List ℕ) (a : SinkView) → Stops text a a Memory
nothing_put text a = (record { front = []; rest = text; parts = refl; put = Appends-nil a.put }, refl)

-- what was put of a front is put of the whole
pub front_stops : (text front rest : List ℕ) (s : Stop) (a b : SinkView) → text ≡ front ++ rest → Stops front a b s → Stops text a b s
front_stops text front rest Fault a b parts (w, more) =
    (record { front = w.front; rest = w.rest ++ rest; parts = parts ∙ ap (λ l. l ++ rest) w.parts ∙ append_assoc w.front w.rest rest; put = w.put }, more)
front_stops text front rest Memory a b parts (w, still) =
    (record { front = w.front; rest = w.rest ++ rest; parts = parts ∙ ap (λ l. l ++ rest) w.parts ∙ append_assoc w.front w.rest rest; put = w.put }, still)

-- the lines of a batch, and those that are left after it
batch_parts : (table : Table) (round : ℕ) (before : Taken) (n p : ℕ) (sts : List Store) (ended : Option Ended) (after : Taken) (m q : ℕ) → Advances round before p sts ended after q → m ≡ n + length sts →
    rest_text table n p before ≡ answer_lines table sts ++ rest_text table m q after
batch_parts table round before n p sts ended after m q adv counted =
    ap (rest_text table n p) adv.joins ∙ rest-batch_then table n p sts adv.made after
    ∙ ap₂ (λ a b. answer_lines table sts ++ rest_text table a b after) (sym counted) (sym adv.counted)

-- a batch that doesn't end a run takes something of what is left
batch_less : (round : ℕ) (before : Taken) (p : ℕ) (sts : List Store) (after : Taken) (q : ℕ) → 1 ≤ round → Advances round before p sts None after q → length after.stores + after.pulls < length before.stores + before.pulls
batch_less round before p sts after q some adv =
    let stores : length before.stores ≡ length sts + length after.stores = ap (λ (t : Taken). length t.stores) adv.joins ∙ length-append sts after.stores in
    let pulls : before.pulls ≡ adv.made + after.pulls = ap (λ (t : Taken). t.pulls) adv.joins in
    from adv.ends stores pulls
  where
    from : (length sts ≡ 1024) ⊎ (adv.made ≡ round) → length before.stores ≡ length sts + length after.stores → before.pulls ≡ adv.made + after.pulls → length after.stores + after.pulls < length before.stores + before.pulls
    from (inl full) stores pulls = omega (arith, full, stores, pulls)
    from (inr whole) stores pulls = omega (arith, whole, stores, pulls, some)

-- the stores that are left after a batch are among those that were left before it
each-after : (P : Store → Type 0) (xs ys : List Store) → Each P (xs ++ ys) → Each P ys
each-after P [] ys each = each
each-after P (x ∷ xs) ys (first, rest) = each-after P xs ys rest

each-front : (P : Store → Type 0) (xs ys : List Store) → Each P (xs ++ ys) → Each P xs
each-front P [] ys each = tt
each-front P (x ∷ xs) ys (first, rest) = (first, each-front P xs ys rest)

pub batch_named : (table : Table) (round : ℕ) (before : Taken) (p : ℕ) (sts : List Store) (ended : Option Ended) (after : Taken) (q : ℕ) → Advances round before p sts ended after q → Each (HasNames table) before.stores → Each (HasNames table) sts
batch_named table round before p sts ended after q adv each =
    each-front (HasNames table) sts after.stores (subst (λ (t : Taken). Each (HasNames table) t.stores) adv.joins each)

-- how many answers there are after a batch
pub batch_counted : {X : Type 0} (means : X → Store) (xs : List X) (m n k : ℕ) → m ≡ n + k → k ≡ length xs → m ≡ n + length (map means xs)
batch_counted means xs m n k sum counted = sum ∙ ap (λ l. n + l) (counted ∙ sym (length-map xs means))

-- what is written of a run that ends by a batch
last_lines : (table : Table) (round : ℕ) (before : Taken) (n p : ℕ) (sts : List Store) (e : Ended) (after : Taken) (m q : ℕ) → Advances round before p sts (Some e) after q → m ≡ n + length sts →
    rest_text table n p before ≡ answer_lines table sts ++ end_text m q (Some e)
last_lines table round before n p sts e after m q adv counted =
    batch_parts table round before n p sts (Some e) after m q adv counted ∙ ap (λ t. answer_lines table sts ++ rest_text table m q t) adv.ends
    ∙ ap₂ (λ x y. answer_lines table sts ++ summary_line x y (ending_of e)) (omega arith) (omega arith)

-- what is written by a batch, and what is left
next_lines : (table : Table) (round : ℕ) (before : Taken) (n p : ℕ) (sts : List Store) (ended : Option Ended) (after : Taken) (m q : ℕ) → Advances round before p sts ended after q → m ≡ n + length sts →
    (rest : List ℕ) × (rest_text table n p before ≡ (answer_lines table sts ++ end_text m q ended) ++ rest)
next_lines table round before n p sts None after m q adv counted =
    (rest_text table m q after, batch_parts table round before n p sts None after m q adv counted ∙ ap (λ l. l ++ rest_text table m q after) (sym (append-nil (answer_lines table sts))))
next_lines table round before n p sts (Some e) after m q adv counted = ([], last_lines table round before n p sts e after m q adv counted ∙ sym (append-nil (answer_lines table sts ++ end_text m q (Some e))))

-- what the writing of a batch makes of the writing of a run, where the count of pulls is read after it
pub next_written : (table : Table) (round : ℕ) (before : Taken) (n p : ℕ) (sts : List Store) (ended : Option Ended) (after : Taken) (m q r : ℕ) (a b : SinkView) →
    1 ≤ round → Each (HasNames table) before.stores → Advances round before p sts ended after q → m ≡ n + length sts → r ≡ q →
    Appends a.put b.put (answer_lines table sts ++ end_text m r ended) × (b.faults ≡ a.faults) → WritesNext table before n p after m q a b (Ok ended)
next_written table round before n p sts None after m q r a b some each adv counted read (put, still) = record {
  written = record { front = answer_lines table sts; parts = batch_parts table round before n p sts None after m q adv counted; put_front = subst (Appends a.put b.put) (append-nil (answer_lines table sts)) put; still = still };
  named = each-after (HasNames table) sts after.stores (subst (λ (t : Taken). Each (HasNames table) t.stores) adv.joins each);
  ending = sym (ap (λ (t : Taken). t.ending) adv.joins);
  less = batch_less round before p sts after q some adv;
}
next_written table round before n p sts (Some e) after m q r a b some each adv counted read (put, still) = (
  subst (Appends a.put b.put) (ap (λ k. answer_lines table sts ++ end_text m k (Some e)) read ∙ sym (last_lines table round before n p sts e after m q adv counted)) put,
  still,
  sym (ap (λ (t : Taken). t.ending) adv.joins ∙ ap (λ (t : Taken). t.ending) adv.ends),
)

pub next_stopped : (table : Table) (round : ℕ) (before : Taken) (n p : ℕ) (sts : List Store) (ended : Option Ended) (after : Taken) (m q r : ℕ) (a b : SinkView) (s : Stop) →
    Advances round before p sts ended after q → m ≡ n + length sts → r ≡ q → Stops (answer_lines table sts ++ end_text m r ended) a b s → Stops (rest_text table n p before) a b s
next_stopped table round before n p sts ended after m q r a b s adv counted read stopped =
    let (rest, parts) = next_lines table round before n p sts ended after m q adv counted in
    front_stops (rest_text table n p before) (answer_lines table sts ++ end_text m r ended) rest s a b
    (parts ∙ ap (λ k. (answer_lines table sts ++ end_text m k ended) ++ rest) (sym read)) stopped

-- a failure as a result
pub err_puts : {A : Type 0} (text : List ℕ) (a b : SinkView) (s : Stop) (r : Result A Stop) → IsErrAnd r (λ e. e ≡ s) → Stops text a b s → Puts text a b r
err_puts text a b s (Ok x) is stops = absurd is
err_puts text a b s (Err e) is stops = subst (Stops text a b) (sym is) stops

-- want of memory before the next lines were put
pub next_wanted : (table : Table) (before after : Taken) (n p m q : ℕ) (a : SinkView) (r : Result (Option Ended) Stop) → IsErrAnd r (λ s. s ≡ Memory) → WritesNext table before n p after m q a a r
next_wanted table before after n p m q a (Ok x) wanted = absurd wanted
next_wanted table before after n p m q a (Err s) wanted = subst (λ t. Stops (rest_text table n p before) a a t) (sym wanted) (nothing_put (rest_text table n p before) a)

-- the last lines, after others, and lines after which more come
pub run_ended : (total : List ℕ) (table : Table) (before : Taken) (n p : ℕ) (after : Taken) (m q : ℕ) (a b c : SinkView) (o : Option Ended) (e : Ended) → o ≡ Some e →
    Written total a b (rest_text table n p before) → WritesNext table before n p after m q b c (Ok o) → Appends a.put c.put total × (c.faults ≡ a.faults)
run_ended total table before n p after m q a b c o e is w next =
    let (put, still, ending) = subst (λ x. WritesNext table before n p after m q b c (Ok x)) is next in
    (subst (Appends a.put c.put) (sym w.parts) (Appends-trans a.put b.put c.put w.front (rest_text table n p before) w.put_front put), still ∙ w.still)

pub run_goes_on : (table : Table) (before : Taken) (n p : ℕ) (after : Taken) (m q : ℕ) (b c : SinkView) (o : Option Ended) → ((e : Ended) → o ≡ Some e → ⊥) → WritesNext table before n p after m q b c (Ok o) →
    Continues table before n p after m q b c
run_goes_on table before n p after m q b c None isnt next = next
run_goes_on table before n p after m q b c (Some e) isnt next = elim (isnt e refl) [ ]

-- what is to be written of a run at its start
pub start_text : (table : Table) (p : ℕ) (t u : Taken) → p ≡ 0 → t ≡ u → rest_text table 0 p t ≡ taken_text table u
start_text table p t u none same =
    ap₂ (λ k x. rest_text table 0 k x) none same ∙ ap₂ (λ n k. answer_lines table u.stores ++ summary_line n k u.ending) (omega arith) (omega arith)

-- the items from a place on
pub drop_at : {X : Type 0} (xs : List X) (i : ℕ) (x : X) → i < length xs → x ≡ get_or xs i x → drop i xs ≡ x ∷ drop (i + 1) xs
drop_at xs i x within is = let next : suc i ≡ i + 1 = omega arith in from xs i x within is ∙ ap (λ k. x ∷ drop k xs) next
  where
    from : {X : Type 0} (xs : List X) (i : ℕ) (x : X) → i < length xs → x ≡ get_or xs i x → drop i xs ≡ x ∷ drop (suc i) xs
    from [] i x within is = absurd (omega (arith, within))
    from (y ∷ xs) zero x within is = ap (λ z. z ∷ xs) (sym is)
    from (y ∷ xs) (suc i) x within is = from xs i x (omega (arith, within)) is

-- the lines of a run, and then those of the later ones
pub runs_more : (table : Table) (program : Program) (fuel : ℕ) (means : declared.Query → Query) (qs : List declared.Query) (i : ℕ) (q : declared.Query) → i < length qs → q ≡ get_or qs i q →
    runs_output table program fuel (map means (drop i qs)) ≡ taken_text table (take_query program fuel (means q)) ++ runs_output table program fuel (map means (drop (i + 1) qs))
runs_more table program fuel means qs i q within is = ap (λ l. runs_output table program fuel (map means l)) (drop_at qs i q within is)

-- whether a run spent its fuel, among those so far and this one and the later ones
pub spends_more : (program : Program) (fuel : ℕ) (means : declared.Query → Query) (qs : List declared.Query) (i : ℕ) (q : declared.Query) (spent now all : Bool) → i < length qs → q ≡ get_or qs i q →
    now ≡ is_spent (take_query program fuel (means q)).ending → (spent || spends program fuel (map means (drop i qs))) ≡ all → ((spent || now) || spends program fuel (map means (drop (i + 1) qs))) ≡ all
spends_more program fuel means qs i q spent now all within is told so_far =
    or_assoc spent now (spends program fuel (map means (drop (i + 1) qs)))
    ∙ ap (λ b. spent || (b || spends program fuel (map means (drop (i + 1) qs)))) told
    ∙ sym (ap (λ l. spent || spends program fuel (map means l)) (drop_at qs i q within is)) ∙ so_far
  where
    or_assoc : (a b c : Bool) → ((a || b) || c) ≡ (a || (b || c))
    or_assoc true b c = refl
    or_assoc false b c = refl

-- each of some queries may be run
one_of : {X Y : Type 0} (test : Y → Bool) (means : X → Y) (xs : List X) (i : ℕ) (x : X) → i < length xs → x ≡ get_or xs i x → list_all test (map means xs) ≡ true → list_all test (means x ∷ []) ≡ true
one_of test means [] i x within is all = absurd (omega (arith, within))
one_of test means (y ∷ xs) zero x within is all = rw is (rw (and_parts (test (means y)) (list_all test (map means xs)) all).0 refl)
one_of test means (y ∷ xs) (suc i) x within is all = one_of test means xs i x (omega (arith, within)) is (and_parts (test (means y)) (list_all test (map means xs)) all).1

one_scoped : (gs : List Goal) (qs : List declared.Query) (i : ℕ) (q : declared.Query) → i < length qs → q ≡ get_or qs i q → list_all (in_scope 1) (map (goal_at gs) (map goal_place qs)) ≡ true → list_all (in_scope 1) (goal_at gs q.goal ∷ []) ≡ true
one_scoped gs [] i q within is all = absurd (omega (arith, within))
one_scoped gs (y ∷ qs) zero q within is all =
    subst (λ x. list_all (in_scope 1) (goal_at gs x.goal ∷ []) ≡ true) (sym is) (rw (and_parts (in_scope 1 (goal_at gs y.goal)) (list_all (in_scope 1) (map (goal_at gs) (map goal_place qs))) all).0 refl)
one_scoped gs (y ∷ qs) (suc i) q within is all = one_scoped gs qs i q (omega (arith, within)) is (and_parts (in_scope 1 (goal_at gs y.goal)) (list_all (in_scope 1) (map (goal_at gs) (map goal_place qs))) all).1

both_hold : (a b : Bool) → a ≡ true → b ≡ true → (a && b) ≡ true
both_hold a b ea eb = rw (ea, eb) refl

one_closed : (program : declared.Program) (qs : List declared.Query) (i : ℕ) (q : declared.Query) → i < length qs → q ≡ get_or qs i q → are_closed (programs.tables program) (map goal_place qs) ≡ true → are_closed (programs.tables program) (q.goal ∷ []) ≡ true
one_closed program qs i q within is all =
    let ts = programs.tables program in
    let low = list_all is_low (templates_of ts.terms) in
    let calls = list_all (calls_there (program_of ts).relations) (program_of ts).goals in
    let bodies = list_all body_in_scope (program_of ts).relations in
    let parts = and_parts (list_all (λ g. nat_lt g (length ts.goals)) (map goal_place qs)) (is_closed (templates_of ts.terms) (program_of ts) (map (goal_at (goals_of ts)) (map goal_place qs))) all in
    let scopes = and_parts (low && calls && bodies) (list_all (in_scope 1) (map (goal_at (goals_of ts)) (map goal_place qs))) parts.1 in
    both_hold (list_all (λ g. nat_lt g (length ts.goals)) (q.goal ∷ [])) (is_closed (templates_of ts.terms) (program_of ts) (goal_at (goals_of ts) q.goal ∷ []))
    (one_of (λ g. nat_lt g (length ts.goals)) goal_place qs i q within is parts.0)
    (both_hold (low && calls && bodies) (list_all (in_scope 1) (goal_at (goals_of ts) q.goal ∷ [])) scopes.0 (one_scoped (goals_of ts) qs i q within is scopes.1))

can-one : (table : Table) (program : declared.Program) (qs : List declared.Query) (i : ℕ) (q : declared.Query) → i < length qs → q ≡ get_or qs i q → CanRun table program qs → CanRun table program (q ∷ [])
can-one table program qs i q within is can = record {
  closed = one_closed program qs i q within is can.closed;
  small = can.small;
  bodies = can.bodies;
  goals = one_of (is_query_named table) (query_of program) qs i q within is can.goals;
}

-- the same of the item at a place, whatever stands for one past the end
at_place : {X : Type 0} (xs : List X) (i : ℕ) (d e : X) → i < length xs → get_or xs i d ≡ get_or xs i e
at_place [] i d e within = absurd (omega (arith, within))
at_place (x ∷ xs) zero d e within = refl
at_place (x ∷ xs) (suc i) d e within = at_place xs i d e (omega (arith, within))

pub can-at : (table : Table) (program : declared.Program) (qs : List declared.Query) (i : ℕ) (d : declared.Query) → i < length qs → CanRun table program qs → CanRun table program (get_or qs i d ∷ [])
can-at table program qs i d within can = can-one table program qs i (get_or qs i d) within (at_place qs i d (get_or qs i d) within) can

pub runs-written : (table : Table) (program : Program) (fuel : ℕ) (means : declared.Query → Query) (qs : List declared.Query) (i : ℕ) (d : declared.Query) (total : List ℕ) (a b c : SinkView) → i < length qs →
    Written total a b (runs_output table program fuel (map means (drop i qs))) → Appends b.put c.put (taken_text table (take_query program fuel (means (get_or qs i d)))) × (c.faults ≡ b.faults) →
    Written total a c (runs_output table program fuel (map means (drop (i + 1) qs)))
runs-written table program fuel means qs i d total a b c within w (put, still) =
    written_more total _ (runs_output table program fuel (map means (drop (i + 1) qs))) (taken_text table (take_query program fuel (means (get_or qs i d)))) a b c w
    (runs_more table program fuel means qs i (get_or qs i d) within (at_place qs i d (get_or qs i d) within)) put still

pub runs-stopped : (table : Table) (program : Program) (fuel : ℕ) (means : declared.Query → Query) (qs : List declared.Query) (i : ℕ) (d : declared.Query) (total : List ℕ) (s : Stop) (a b c : SinkView) → i < length qs →
    Written total a b (runs_output table program fuel (map means (drop i qs))) → Stops (taken_text table (take_query program fuel (means (get_or qs i d)))) b c s → Stops total a c s
runs-stopped table program fuel means qs i d total s a b c within w stopped =
    stops_on total (runs_output table program fuel (map means (drop i qs))) s a b c w
    (front_stops (runs_output table program fuel (map means (drop i qs))) (taken_text table (take_query program fuel (means (get_or qs i d)))) (runs_output table program fuel (map means (drop (i + 1) qs))) s b c
    (runs_more table program fuel means qs i (get_or qs i d) within (at_place qs i d (get_or qs i d) within)) stopped)

pub spends-at : (program : Program) (fuel : ℕ) (means : declared.Query → Query) (qs : List declared.Query) (i : ℕ) (d : declared.Query) (spent now all : Bool) → i < length qs →
    now ≡ is_spent (take_query program fuel (means (get_or qs i d))).ending → (spent || spends program fuel (map means (drop i qs))) ≡ all → ((spent || now) || spends program fuel (map means (drop (i + 1) qs))) ≡ all
spends-at program fuel means qs i d spent now all within told so_far = spends_more program fuel means qs i (get_or qs i d) spent now all within (at_place qs i d (get_or qs i d) within) told so_far
