-- Stacks of streams while the table of suspensions grows, and steps of the tasks in the words of the code.
use Rattle.std.proofs.Common.{◌≡◌, suc, ◌<◌, ◌≤◌, List, [], ◌∷◌, ◌++◌, length, refl, sym, ◌∙◌, ap, ap₂, subst, arith, map}
use Rattle.std.specs.Prelude.{Option, Some, None, option_map, IfSome, Result, Ok, Err, OnOk}
use Rattle.kan_terms.specs.Tree.{Tm}
use Rattle.kan_model.specs.Programs.Goals.{Goal, Program}
use Rattle.kan_model.specs.Stores.Store as facts
use Rattle.kan_model.specs.Streams.Stream as model
use Rattle.kan_model.specs.Streams.Running.{run}
use Rattle.stream_core.specs.Tasks as pending
use Rattle.stream_core.specs.Tasks.{Becomes, count, streams_after}
use Rattle.kan_model.specs.Each.{Each}
use Rattle.stream_core.specs.Suspensions.{Stays, StreamBelongs, stream, going_on}
use Rattle.stream_core.specs.CodeTasks.{stack}
use Rattle.stream_core.specs.declared.streams.Stream.{Stream}
use Rattle.stream_core.proofs.StackLaws.{stack-length}
use Rattle.stream_core.proofs.TaskLaws.{becomes-stream, becomes-appended, becomes-closed, becomes-bound}

tail-stays : {I : Type 0} (belonged belongs : I → Type 0) (was is : I → model.Thunk) → Stays belonged was belongs is → (o : Option I) → IfSome o belonged → option_map is o ≡ option_map was o
tail-stays belonged belongs was is grows None h = refl
tail-stays belonged belongs was is grows (Some i) h = ap Some (grows i h).1

tail-belongs : {I : Type 0} (belonged belongs : I → Type 0) (was is : I → model.Thunk) → Stays belonged was belongs is → (o : Option I) → IfSome o belonged → IfSome o belongs
tail-belongs belonged belongs was is grows None h = h
tail-belongs belonged belongs was is grows (Some i) h = (grows i h).0

-- a stream stands for what it stood for
pub stream-stays : {I St : Type 0} (belonged belongs : I → Type 0) (was is : I → model.Thunk) (means : St → facts.Store) → Stays belonged was belongs is →
    (s : Stream I St) → StreamBelongs belonged s → stream is means s ≡ stream was means s
stream-stays belonged belongs was is means grows s h = ap (going_on (map means s.heads)) (tail-stays belonged belongs was is grows s.tail h)

pub stack-stays : {I St : Type 0} (belonged belongs : I → Type 0) (was is : I → model.Thunk) (means : St → facts.Store) → Stays belonged was belongs is →
    (ss : List (Stream I St)) → Each (StreamBelongs belonged) ss → stack (stream is means) ss ≡ stack (stream was means) ss
stack-stays belonged belongs was is means grows [] h = refl
stack-stays belonged belongs was is means grows (s ∷ ss) (h, hs) =
    ap₂ (λ t ts. ts ++ t ∷ []) (stream-stays belonged belongs was is means grows s h) (stack-stays belonged belongs was is means grows ss hs)

pub all-belong : {I St : Type 0} (belonged belongs : I → Type 0) (was is : I → model.Thunk) → Stays belonged was belongs is →
    (ss : List (Stream I St)) → Each (StreamBelongs belonged) ss → Each (StreamBelongs belongs) ss
all-belong belonged belongs was is grows [] h = tt
all-belong belonged belongs was is grows (s ∷ ss) (h, hs) = (tail-belongs belonged belongs was is grows s.tail h, all-belong belonged belongs was is grows ss hs)

pub stays-twice : {I : Type 0} (b1 b2 b3 : I → Type 0) (t1 t2 t3 : I → model.Thunk) → Stays b1 t1 b2 t2 → Stays b2 t2 b3 t3 → Stays b1 t1 b3 t3
stays-twice b1 b2 b3 t1 t2 t3 one two id h = let (there, same) = one id h in let (now, still) = two id there in (now, still ∙ same)

pub stays-same : {I : Type 0} (b : I → Type 0) (t : I → model.Thunk) → Stays b t b t
stays-same b t id h = (h, refl)

-- steps where the tasks and streams are those that a law has
pub becomes-moved : (program : Program) (ts us us' : List pending.Task) (vs ws ws' : List model.Stream) → Becomes program ts vs us ws → us' ≡ us → ws' ≡ ws → Becomes program ts vs us' ws'
becomes-moved program ts us us' vs ws ws' step is are = rw (is, are) step

pub becomes-goal : (program : Program) (g h : Goal) (env : List Tm) (st : facts.Store) (ts us us' : List pending.Task) (vs ws ws' : List model.Stream) → g ≡ h →
    Becomes program (pending.Task.run_at h env st ∷ ts) vs us ws → us' ≡ us → ws' ≡ ws → Becomes program (pending.Task.run_at g env st ∷ ts) vs us' ws'
becomes-goal program g h env st ts us us' vs ws ws' same step is are = rw (same, is, are) step

-- each goal takes a task
pub count-some : (g : Goal) (env : List Tm) (st : facts.Store) → 0 < count g env st
count-some (Goal.prim p) env st = omega arith
count-some Goal.succeed env st = omega arith
count-some Goal.fail env st = omega arith
count-some (Goal.both g h) env st = omega arith
count-some (Goal.either g h) env st = omega arith
count-some (Goal.fresh k g) env st = omega arith
count-some (Goal.later g) env st = omega arith
count-some (Goal.call r args) env st = omega arith

-- a goal's stream on top
pub becomes-given : (program : Program) (g : Goal) (env : List Tm) (st : facts.Store) (ts us : List pending.Task) (vs ws ws' : List model.Stream) (s : model.Stream) →
    us ≡ ts → s ≡ run g env st → ws ≡ vs → ws' ≡ s ∷ ws → Becomes program (pending.Task.run_at g env st ∷ ts) vs us ws'
becomes-given program g env st ts us vs ws ws' s is made same grown =
    becomes-moved program _ _ _ _ _ _ (becomes-stream program g env st ts vs (count-some g env st)) is (grown ∙ ap₂ (λ x xs. x ∷ xs) made same)

-- what follows where a call gave a value
pub on-ok : {T E : Type 0} (r : Result T E) (P Q : Type 0) → (P → Q) → OnOk r P → OnOk r Q
on-ok (Ok x) P Q f h = f h
on-ok (Err e) P Q f h = h

-- the two streams on top appended
pub becomes-top : (program : Program) (ts : List pending.Task) (vs ws : List model.Stream) (s t made : model.Stream) (rest : List model.Stream) →
    vs ≡ s ∷ t ∷ rest → ws ≡ made ∷ rest → made ≡ model.append s t → Becomes program (pending.Task.append_two ∷ ts) vs ts ws
becomes-top program ts vs ws s t made rest old new is = rw (old, new, is) (becomes-appended program s t ts rest)

-- the empty stream appended to the one on top
pub becomes-top-closed : (program : Program) (ts : List pending.Task) (vs ws : List model.Stream) (s made : model.Stream) (rest : List model.Stream) →
    vs ≡ s ∷ rest → ws ≡ made ∷ rest → made ≡ model.append s model.empty → Becomes program (pending.Task.append_empty ∷ ts) vs ts ws
becomes-top-closed program ts vs ws s made rest old new is = rw (old, new, is) (becomes-closed program s ts rest)

pub heads-going : (hs : List facts.Store) (o : Option model.Thunk) → model.heads (going_on hs o) ≡ hs
heads-going hs None = refl
heads-going hs (Some t) = refl

-- a goal bound to the stream on top
pub becomes-bound-top : (program : Program) (g : Goal) (env : List Tm) (ts us : List pending.Task) (vs ws rest : List model.Stream) (s made : model.Stream) (hs : List facts.Store) →
    vs ≡ s ∷ rest → us ≡ pending.run_each g env hs ts → model.heads s ≡ hs → ws ≡ made ∷ rest → made ≡ pending.bound_last g env s → Becomes program (pending.Task.bind_to g env ∷ ts) vs us ws
becomes-bound-top program g env ts us vs ws rest s made hs old new has grown is =
    let step : Becomes program (pending.Task.bind_to g env ∷ ts) (s ∷ rest) (pending.run_each g env hs ts) (pending.bound_last g env s ∷ rest) =
    subst (λ h. Becomes program (pending.Task.bind_to g env ∷ ts) (s ∷ rest) (pending.run_each g env h ts) (pending.bound_last g env s ∷ rest)) has (becomes-bound program g env s ts rest) in
    rw (old, new, grown, is) step

pub first-ready : (program : Program) (ts us : List pending.Task) (t : pending.Task) (vs : List model.Stream) → ts ≡ t ∷ us → pending.AreReady program ts vs → pending.AreReady program (t ∷ us) vs
first-ready program ts us t vs is ready = subst (λ xs. pending.AreReady program xs vs) is ready

pub step-streams_after : (program : Program) (ts us ws : List pending.Task) (t : pending.Task) (vs xs : List model.Stream) (whole : List model.Stream) → ts ≡ t ∷ us → Becomes program (t ∷ us) vs ws xs → streams_after ts vs ≡ whole → streams_after ws xs ≡ whole
step-streams_after program ts us ws t vs xs whole is step kept = step.same ∙ ap (λ ys. streams_after ys vs) (sym is) ∙ kept

pub step-fewer : (program : Program) (ts us ws : List pending.Task) (t : pending.Task) (vs xs : List model.Stream) → ts ≡ t ∷ us → Becomes program (t ∷ us) vs ws xs → pending.AreReady program ts vs → pending.tasks_to_do ws xs < pending.tasks_to_do ts vs
step-fewer program ts us ws t vs xs is step ready = rw is (step.fewer (first-ready program ts us t vs is ready))

-- the one stream when no task is left
pub top-is : (ts : List pending.Task) (vs rest whole : List model.Stream) (s : model.Stream) → ts ≡ [] → streams_after ts vs ≡ whole → vs ≡ s ∷ rest → length whole ≡ 1 → whole ≡ s ∷ []
top-is ts vs rest whole s none kept top one = go rest (sym kept ∙ ap (λ xs. streams_after xs vs) none ∙ top)
  where
    go : (xs : List model.Stream) → whole ≡ s ∷ xs → whole ≡ s ∷ []
    go [] is = is
    go (x ∷ xs) is = let long : length whole ≡ suc (suc (length xs)) = ap length is in let bad : ⊥ = omega (arith, one, long) in absurd bad

pub none-streams_after : (ts : List pending.Task) (vs whole : List model.Stream) → ts ≡ [] → streams_after ts vs ≡ whole → vs ≡ [] → length whole ≡ 1 → ⊥
none-streams_after ts vs whole none kept empty one =
    let long : length whole ≡ 0 = ap length (sym kept ∙ ap (λ xs. streams_after xs vs) none ∙ empty) in omega (arith, one, long)

-- what the stacks of a run and of a binding leave
pub run-streams_after : (g : Goal) (env env' : List Tm) (st : facts.Store) (ts : List pending.Task) (vs : List model.Stream) → ts ≡ pending.Task.run_at g env' st ∷ [] → vs ≡ [] → env' ≡ env →
    streams_after ts vs ≡ run g env st ∷ []
run-streams_after g env env' st ts vs is none same = ap₂ streams_after is none ∙ ap (λ e. run g e st ∷ []) same

pub bind-streams_after : (g : Goal) (env env' : List Tm) (s : model.Stream) (ts : List pending.Task) (vs : List model.Stream) → ts ≡ pending.Task.bind_to g env' ∷ [] → vs ≡ s ∷ [] → env' ≡ env →
    streams_after ts vs ≡ model.bind_all (run g env) g env s ∷ []
bind-streams_after g env env' s ts vs is one same = ap₂ streams_after is one ∙ ap (λ e. model.bind_all (run g e) g e s ∷ []) same

-- a stream that goes on, in front of another one
pub append-going : (hs : List facts.Store) (o : Option model.Thunk) (i whole : model.Thunk) (t : model.Stream) → o ≡ Some i → whole ≡ model.Thunk.swap t i →
    model.Stream.goes_on hs whole ≡ model.append (going_on hs o) t
append-going hs o i whole t is made = rw (is, made) refl

-- what variables lie below doesn't hang on the stores that come first
pub below-going : (env : List Tm) (hs : List facts.Store) (o : Option model.Thunk) → pending.AreBelowRest env (going_on hs o) → pending.AreBelowRest env (going_on [] o)
below-going env hs None h = h
below-going env hs (Some i) h = h

pub bound-going : (g : Goal) (env : List Tm) (hs : List facts.Store) (o : Option model.Thunk) → pending.bound_last g env (going_on [] o) ≡ pending.bound_last g env (going_on hs o)
bound-going g env hs None = refl
bound-going g env hs (Some i) = refl

pub none-to-bind : (program : Program) (g : Goal) (env : List Tm) (ts : List pending.Task) (vs : List model.Stream) → vs ≡ [] → pending.AreReady program (pending.Task.bind_to g env ∷ ts) vs → ⊥
none-to-bind program g env ts vs none ready = subst (pending.AreReady program (pending.Task.bind_to g env ∷ ts)) none ready

pub two-to-append : {X : Type 0} (f : X → model.Stream) (program : Program) (ts : List pending.Task) (vs : List X) → pending.AreReady program (pending.Task.append_two ∷ ts) (stack f vs) → 2 ≤ length vs
two-to-append f program ts vs ready = subst (λ n. 2 ≤ n) (stack-length f vs) (go (stack f vs) ready)
  where
    go : (xs : List model.Stream) → pending.AreReady program (pending.Task.append_two ∷ ts) xs → 2 ≤ length xs
    go [] h = absurd h
    go (x ∷ []) h = absurd h
    go (x ∷ y ∷ xs) h = omega arith

pub one-to-append : {X : Type 0} (f : X → model.Stream) (program : Program) (ts : List pending.Task) (vs : List X) → pending.AreReady program (pending.Task.append_empty ∷ ts) (stack f vs) → 0 < length vs
one-to-append f program ts vs ready = subst (λ n. 0 < n) (stack-length f vs) (go (stack f vs) ready)
  where
    go : (xs : List model.Stream) → pending.AreReady program (pending.Task.append_empty ∷ ts) xs → 0 < length xs
    go [] h = absurd h
    go (x ∷ xs) h = omega arith

-- the goal of the first task may be bound to the stream on top
pub top-may-bind : (program : Program) (g : Goal) (env : List Tm) (ts : List pending.Task) (vs rest : List model.Stream) (s : model.Stream) → vs ≡ s ∷ rest →
    pending.AreReady program (pending.Task.bind_to g env ∷ ts) vs → pending.MayBind program g env s
top-may-bind program g env ts vs rest s is ready = (subst (pending.AreReady program (pending.Task.bind_to g env ∷ ts)) is ready).0

pub only-one : {s t : model.Stream} → s ∷ [] ≡ t ∷ [] → s ≡ t
only-one same = cc
