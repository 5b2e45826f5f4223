-- Runs of programs whose tags have names, and of programs with the same relations.
use Rattle.std.proofs.Common.{◌≡◌, ℕ, zero, suc, Bool, true, false, List, [], ◌∷◌, ◌++◌, Option, Some, None, refl, ◌∙◌, ap, ap₂}
use Rattle.std.specs.Prelude.{slice_get, ◌||◌, nat_lt, length}
use Rattle.std.specs.List.{list_all}
use Rattle.std.proofs.lemmas.Bool.{and_from, and_parts}
use Rattle.kan_terms.specs.Tree.{Tree, Tm}
use Rattle.kan_model.specs.Programs.Goals.{Primitive, Goal, Template, Relation, Program, Query, on_sides}
use Rattle.kan_model.specs.Stores.Store.{Store, bare, with_prim, with_fresh}
use Rattle.kan_model.specs.Stores.Kept.{is_kept}
use Rattle.kan_model.specs.Answers.Answer.{tags_of, HasNames}
use Rattle.kan_model.specs.Streams.Stream.{Stream, Thunk, empty, one, append, append_each, bind_all}
use Rattle.kan_model.specs.Streams.Running.{run, force, enter, start, assert, instance, instances, name_pairs, named_store, variables}
use Rattle.kan_model.specs.Streams.Taking.{Taken, Ending, give, take, take_query, nothing_more, with_answer, with_pull}
use Rattle.kan_terms.specs.Table.{Table}
use Rattle.kan_model.specs.Answers.Output.{runs_output, taken_text}
use Rattle.kan_grammar.specs.Texts.Reply.{is_spent}
use Rattle.kanren_run.specs.Answers.{spends}
use Rattle.kanren_run.specs.Tags.{is_named, are_named, is_body_named}
use Rattle.kan_model.specs.Each.{Each}

-- forcing asks a program for its relations alone
force-same : (p q : Program) → p.relations ≡ q.relations → (t : Thunk) → force p t ≡ force q t
force-same p q e (Thunk.call r args st) = ap (λ rs. enter (slice_get rs r) args st) e
force-same p q e (Thunk.pause g env st) = refl
force-same p q e (Thunk.swap t i) = ap (append t) (force-same p q e i)
force-same p q e (Thunk.bind g env i) = ap (bind_all (run g env) g env) (force-same p q e i)

give-same : (a b : Option ℕ → Taken) → ((l : Option ℕ) → a l ≡ b l) → (hs : List Store) (l : Option ℕ) → give a hs l ≡ give b hs l
give-same a b e [] None = e None
give-same a b e [] (Some zero) = refl
give-same a b e [] (Some (suc n)) = e (Some (suc n))
give-same a b e (st ∷ sts) None = ap (with_answer st) (give-same a b e sts None)
give-same a b e (st ∷ sts) (Some zero) = refl
give-same a b e (st ∷ sts) (Some (suc n)) = ap (with_answer st) (give-same a b e sts (Some n))

take-same : (p q : Program) → p.relations ≡ q.relations → (f : ℕ) (s : Stream) (l : Option ℕ) → take p f s l ≡ take q f s l
take-same p q e zero (Stream.ends hs) l = refl
take-same p q e zero (Stream.goes_on hs i) l = refl
take-same p q e (suc f) (Stream.ends hs) l = refl
take-same p q e (suc f) (Stream.goes_on hs i) l =
    give-same (λ rest. with_pull (take p f (force p i) rest)) (λ rest. with_pull (take q f (force q i) rest))
    (λ rest. ap with_pull (take-same p q e f (force p i) rest ∙ ap (λ s. take q f s rest) (force-same p q e i))) hs l

pub runs-same : (table : Table) (p q : Program) → p.relations ≡ q.relations → (f : ℕ) (qs : List Query) → runs_output table p f qs ≡ runs_output table q f qs
runs-same table p q e f [] = refl
runs-same table p q e f (x ∷ xs) = ap₂ (λ a b. a ++ b) (ap (taken_text table) (take-same p q e f (start x.goal) x.limit)) (runs-same table p q e f xs)

pub spends-same : (p q : Program) → p.relations ≡ q.relations → (f : ℕ) (qs : List Query) → spends p f qs ≡ spends q f qs
spends-same p q e f [] = refl
spends-same p q e f (x ∷ xs) = ap₂ (λ a b. a || b) (ap (λ (t : Taken). is_spent t.ending) (take-same p q e f (start x.goal) x.limit)) (spends-same p q e f xs)

-- streams whose stores have tags with names alone, also those that come later
abbrev mutual
  pub StreamHas : Table → Stream → Type 0
  StreamHas table (Stream.ends hs) = Each (HasNames table) hs
  StreamHas table (Stream.goes_on hs i) = Each (HasNames table) hs × ThunkHas table i

  pub ThunkHas : Table → Thunk → Type 0
  ThunkHas table (Thunk.call r args st) = HasNames table st
  ThunkHas table (Thunk.pause g env st) = (are_named table g ≡ true) × HasNames table st
  ThunkHas table (Thunk.swap t i) = StreamHas table t × ThunkHas table i
  ThunkHas table (Thunk.bind g env i) = (are_named table g ≡ true) × ThunkHas table i

each-append : (P : Store → Type 0) (xs ys : List Store) → Each P xs → Each P ys → Each P (xs ++ ys)
each-append P [] ys ex ey = ey
each-append P (x ∷ xs) ys (px, ex) ey = (px, each-append P xs ys ex ey)

append-has : (table : Table) (s t : Stream) → StreamHas table s → StreamHas table t → StreamHas table (append s t)
append-has table (Stream.ends hs) (Stream.ends ks) eh ek = each-append (HasNames table) hs ks eh ek
append-has table (Stream.ends hs) (Stream.goes_on ks i) eh (ek, ei) = (each-append (HasNames table) hs ks eh ek, ei)
append-has table (Stream.goes_on hs i) t (eh, ei) et = (eh, (et, ei))

each_append-has : (table : Table) (f : Store → Stream) → ((st : Store) → HasNames table st → StreamHas table (f st)) → (hs : List Store) (last : Stream) → Each (HasNames table) hs → StreamHas table last → StreamHas table (append_each f hs last)
each_append-has table f each [] last eh el = el
each_append-has table f each (st ∷ sts) last (e, eh) el = append-has table (f st) (append_each f sts last) (each st e) (each_append-has table f each sts last eh el)

bind-has : (table : Table) (f : Store → Stream) (g : Goal) (env : List Tm) → ((st : Store) → HasNames table st → StreamHas table (f st)) → are_named table g ≡ true → (s : Stream) → StreamHas table s → StreamHas table (bind_all f g env s)
bind-has table f g env each eg (Stream.ends hs) eh = each_append-has table f each hs empty eh tt
bind-has table f g env each eg (Stream.goes_on hs i) (eh, ei) = each_append-has table f each hs (Stream.goes_on [] (Thunk.bind g env i)) eh (tt, (eg, ei))

-- one primitive more
last-has : (table : Table) (p : Primitive Tm) → is_named table p ≡ true → list_all (λ tag. nat_lt tag (length table.symbols)) (tags_of (p ∷ [])) ≡ true
last-has table (Primitive.same a b) e = refl
last-has table (Primitive.differ a b) e = refl
last-has table (Primitive.symbol a) e = refl
last-has table (Primitive.number a) e = refl
last-has table (Primitive.text a) e = refl
last-has table (Primitive.absent tag a) e = and_from (nat_lt tag (length table.symbols)) true e refl

more-has : (table : Table) (ps : List (Primitive Tm)) (p : Primitive Tm) → list_all (λ tag. nat_lt tag (length table.symbols)) (tags_of ps) ≡ true → is_named table p ≡ true → list_all (λ tag. nat_lt tag (length table.symbols)) (tags_of (ps ++ p ∷ [])) ≡ true
more-has table [] p e ep = last-has table p ep
more-has table (Primitive.same a b ∷ ps) p e ep = more-has table ps p e ep
more-has table (Primitive.differ a b ∷ ps) p e ep = more-has table ps p e ep
more-has table (Primitive.symbol a ∷ ps) p e ep = more-has table ps p e ep
more-has table (Primitive.number a ∷ ps) p e ep = more-has table ps p e ep
more-has table (Primitive.text a ∷ ps) p e ep = more-has table ps p e ep
more-has table (Primitive.absent tag a ∷ ps) p e ep =
    let parts = and_parts (nat_lt tag (length table.symbols)) (list_all (λ tag. nat_lt tag (length table.symbols)) (tags_of ps)) e in
    and_from (nat_lt tag (length table.symbols)) (list_all (λ tag. nat_lt tag (length table.symbols)) (tags_of (ps ++ p ∷ []))) parts.0 (more-has table ps p parts.1 ep)

named-has : (table : Table) (st : Store) (ts : List Tm) → HasNames table st → HasNames table (name_pairs st ts).store
named-has table st [] e = e
named-has table st (Tree.pair a b ∷ ts) e =
    named-has table (named_store st (Tree.pair a b)) ts (more-has table st.prims (Primitive.same (Tree.leaf st.counter) (Tree.pair a b)) e refl)
named-has table st (Tree.leaf v ∷ ts) e = named-has table st ts e
named-has table st (Tree.sym s ∷ ts) e = named-has table st ts e
named-has table st (Tree.str s ∷ ts) e = named-has table st ts e
named-has table st (Tree.num n ∷ ts) e = named-has table st ts e
named-has table st (Tree.truth b ∷ ts) e = named-has table st ts e
named-has table st (Tree.nil ∷ ts) e = named-has table st ts e

kept-has : (table : Table) (b : Bool) (st : Store) → HasNames table st → StreamHas table (elim b as (λ v. Stream) [ true ↦ one st | false ↦ empty ])
kept-has table true st e = (e, tt)
kept-has table false st e = tt

-- the tag of a primitive is that of its instance
sides-named : (table : Table) (env : List Tm) (p : Primitive Template) → is_named table p ≡ true → is_named table (on_sides (instance env) p) ≡ true
sides-named table env (Primitive.same a b) e = refl
sides-named table env (Primitive.differ a b) e = refl
sides-named table env (Primitive.symbol a) e = refl
sides-named table env (Primitive.number a) e = refl
sides-named table env (Primitive.text a) e = refl
sides-named table env (Primitive.absent tag a) e = e

assert-has : (table : Table) (p : Primitive Tm) (st : Store) → is_named table p ≡ true → HasNames table st → StreamHas table (assert st p)
assert-has table p st ep e = kept-has table (is_kept (with_prim st p)) (with_prim st p) (more-has table st.prims p e ep)

run-has : (table : Table) (g : Goal) (env : List Tm) (st : Store) → are_named table g ≡ true → HasNames table st → StreamHas table (run g env st)
run-has table (Goal.prim p) env st eg e = assert-has table (on_sides (instance env) p) st (sides-named table env p eg) e
run-has table Goal.succeed env st eg e = (e, tt)
run-has table Goal.fail env st eg e = tt
run-has table (Goal.both g h) env st eg e =
    let parts = and_parts (are_named table g) (are_named table h) eg in
    bind-has table (run h env) h env (λ a ea. run-has table h env a parts.1 ea) parts.1 (run g env st) (run-has table g env st parts.0 e)
run-has table (Goal.either g h) env st eg e =
    let parts = and_parts (are_named table g) (are_named table h) eg in
    append-has table (run g env st) (run h env st) (run-has table g env st parts.0 e) (run-has table h env st parts.1 e)
run-has table (Goal.fresh k g) env st eg e = run-has table g (env ++ variables st.counter k) (with_fresh st k) eg e
run-has table (Goal.later g) env st eg e = (tt, (eg, e))
run-has table (Goal.call r args) env st eg e = (tt, named-has table st (instances env args) e)

enter-has : (table : Table) (rs : List Relation) (r : ℕ) (args : List Tm) (st : Store) → list_all (is_body_named table) rs ≡ true → HasNames table st → StreamHas table (enter (slice_get rs r) args st)
enter-has table [] r args st er e = tt
enter-has table (x ∷ rs) zero args st er e = run-has table x.body args st (and_parts (are_named table x.body) (list_all (is_body_named table) rs) er).0 e
enter-has table (x ∷ rs) (suc r) args st er e = enter-has table rs r args st (and_parts (are_named table x.body) (list_all (is_body_named table) rs) er).1 e

force-has : (table : Table) (p : Program) → list_all (is_body_named table) p.relations ≡ true → (t : Thunk) → ThunkHas table t → StreamHas table (force p t)
force-has table p ep (Thunk.call r args st) e = enter-has table p.relations r args st ep e
force-has table p ep (Thunk.pause g env st) (eg, e) = run-has table g env st eg e
force-has table p ep (Thunk.swap t i) (et, ei) = append-has table t (force p i) et (force-has table p ep i ei)
force-has table p ep (Thunk.bind g env i) (eg, ei) = bind-has table (run g env) g env (λ a ea. run-has table g env a eg ea) eg (force p i) (force-has table p ep i ei)

give-has : (table : Table) (others : Option ℕ → Taken) → ((l : Option ℕ) → Each (HasNames table) (others l).stores) → (hs : List Store) (l : Option ℕ) → Each (HasNames table) hs → Each (HasNames table) (give others hs l).stores
give-has table others each [] None eh = each None
give-has table others each [] (Some zero) eh = tt
give-has table others each [] (Some (suc n)) eh = each (Some (suc n))
give-has table others each (st ∷ sts) None (e, eh) = (e, give-has table others each sts None eh)
give-has table others each (st ∷ sts) (Some zero) eh = tt
give-has table others each (st ∷ sts) (Some (suc n)) (e, eh) = (e, give-has table others each sts (Some n) eh)

take-has : (table : Table) (p : Program) → list_all (is_body_named table) p.relations ≡ true → (f : ℕ) (s : Stream) (l : Option ℕ) → StreamHas table s → Each (HasNames table) (take p f s l).stores
take-has table p ep zero (Stream.ends hs) l es = give-has table (λ rest. nothing_more Ending.end) (λ rest. tt) hs l es
take-has table p ep zero (Stream.goes_on hs i) l (eh, ei) = give-has table (λ rest. nothing_more Ending.fuel) (λ rest. tt) hs l eh
take-has table p ep (suc f) (Stream.ends hs) l es = give-has table (λ rest. nothing_more Ending.end) (λ rest. tt) hs l es
take-has table p ep (suc f) (Stream.goes_on hs i) l (eh, ei) =
    give-has table (λ rest. with_pull (take p f (force p i) rest)) (λ rest. take-has table p ep f (force p i) rest (force-has table p ep i ei)) hs l eh

-- all tags in the answers of a run have names
pub taken-has : (table : Table) (p : Program) (f : ℕ) (q : Query) → list_all (is_body_named table) p.relations ≡ true → are_named table q.goal ≡ true → Each (HasNames table) (take_query p f q).stores
taken-has table p f q ep eq = take-has table p ep f (start q.goal) q.limit (run-has table q.goal (Tree.leaf 0 ∷ []) (bare 1) eq refl)
