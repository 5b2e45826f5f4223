-- What waits on a stack when tasks are put on it.
use Rattle.std.proofs.Common.{◌≡◌, ◌+◌, ◌<◌, List, [], ◌∷◌, ◌++◌, refl, sym, ◌∙◌, ap, append_assoc, append-nil, arith}
use Rattle.std.specs.List.{flat_map}
use Rattle.std.proofs.lemmas.Grind.{flat_map-append}
use Rattle.kan_terms.specs.Tree.{leaves}
use Rattle.kan_terms.specs.Table.{Table}
use Rattle.kan_grammar.specs.Texts.Sited.{Sited}
use Rattle.kan_grammar.specs.Data.Faults.{Fault}
use Rattle.kan_grammar.specs.Texts.TermForms.{Use}
use Rattle.goal_forms.specs.Steps.TermSteps.{task_form, task_size, step_form, step_size}
use Rattle.goal_syntax.specs.Judging.TermsLeft.{own_uses, task_uses, later_uses, waiting_uses, waiting_size}
use Rattle.goal_forms.specs.declared.term.Task.{Task}
use Rattle.goal_forms.specs.declared.term.Step.{Step}
use Rattle.goal_forms.specs.declared.term.Step.TheVariants.{Variable, Misshapen, Symbol, Text, Number, Truth, Nil, Pair, Same}

-- a task put on top comes first
pub waiting_uses-push : (ds : List Sited) (t : Table) (tasks : List Task) (task : Task) → waiting_uses ds t (tasks ++ task ∷ []) ≡ task_uses ds t task ++ waiting_uses ds t tasks
waiting_uses-push ds t [] task = sym (append-nil (task_uses ds t task))
waiting_uses-push ds t (u ∷ tasks) task = rw (waiting_uses-push ds t tasks task) (append_assoc (task_uses ds t task) (waiting_uses ds t tasks) (task_uses ds t u))

pub waiting_size-push : (ds : List Sited) (tasks : List Task) (task : Task) → waiting_size ds (tasks ++ task ∷ []) ≡ task_size ds task + waiting_size ds tasks
waiting_size-push ds [] task = omega arith
waiting_size-push ds (u ∷ tasks) task = rw (waiting_size-push ds tasks task) (omega arith)

-- one task is put on the stack
pub one_waits : (ds : List Sited) (t : Table) (old new : List Task) (a : Task) → new ≡ old ++ a ∷ [] → waiting_uses ds t new ≡ task_uses ds t a ++ waiting_uses ds t old
one_waits ds t old new a e = ap (waiting_uses ds t) e ∙ waiting_uses-push ds t old a

pub one_waits_size : (ds : List Sited) (old new : List Task) (a : Task) → new ≡ old ++ a ∷ [] → waiting_size ds new ≡ task_size ds a + waiting_size ds old
one_waits_size ds old new a e = ap (waiting_size ds) e ∙ waiting_size-push ds old a

-- two tasks are put on the stack
pub two_wait : (ds : List Sited) (t : Table) (old middle new : List Task) (a d : Task) → middle ≡ old ++ d ∷ [] → new ≡ middle ++ a ∷ [] →
    waiting_uses ds t new ≡ (task_uses ds t a ++ task_uses ds t d) ++ waiting_uses ds t old
two_wait ds t old middle new a d e f =
    one_waits ds t middle new a f ∙ ap (λ w. task_uses ds t a ++ w) (one_waits ds t old middle d e) ∙ sym (append_assoc (task_uses ds t a) (task_uses ds t d) (waiting_uses ds t old))

pub two_wait_size : (ds : List Sited) (old middle new : List Task) (a d : Task) → middle ≡ old ++ d ∷ [] → new ≡ middle ++ a ∷ [] →
    waiting_size ds new ≡ (task_size ds a + task_size ds d) + waiting_size ds old
two_wait_size ds old middle new a d e f =
    let first = one_waits_size ds middle new a f in
    let second = one_waits_size ds old middle d e in
    omega arith

-- what a step itself uses and what its tasks use is what its term uses
pub step-uses : (ds : List Sited) (t : Table) (s : Step) → own_uses s ++ later_uses ds t s ≡ leaves (step_form ds t s)
step-uses ds t (Variable at x) = refl
step-uses ds t (Misshapen at) = refl
step-uses ds t (Symbol x) = refl
step-uses ds t (Text s) = refl
step-uses ds t (Number n) = refl
step-uses ds t (Truth b) = refl
step-uses ds t Nil = refl
step-uses ds t (Pair a d) = refl
step-uses ds t (Same a) = refl

-- the top task is opened: its own faults are noted, and its tasks wait
pub judged_step : (f : Use → List Fault) (ds : List Sited) (t : Table) (noted more whole : List Fault) (s : Step) (old popped new : List Task) (task : Task) →
    old ≡ popped ++ task ∷ [] → step_form ds t s ≡ task_form ds t task → more ≡ noted ++ flat_map f (own_uses s) → waiting_uses ds t new ≡ later_uses ds t s ++ waiting_uses ds t popped →
    noted ++ flat_map f (waiting_uses ds t old) ≡ whole → more ++ flat_map f (waiting_uses ds t new) ≡ whole
judged_step f ds t noted more whole s old popped new task split form judged waits kept =
    let uses : waiting_uses ds t old ≡ own_uses s ++ waiting_uses ds t new =
    one_waits ds t popped old task split ∙ ap (λ u. leaves u ++ waiting_uses ds t popped) (sym form) ∙ ap (λ u. u ++ waiting_uses ds t popped) (sym (step-uses ds t s))
    ∙ append_assoc (own_uses s) (later_uses ds t s) (waiting_uses ds t popped) ∙ ap (λ w. own_uses s ++ w) (sym waits) in
    ap (λ m. m ++ flat_map f (waiting_uses ds t new)) judged ∙ append_assoc noted (flat_map f (own_uses s)) (flat_map f (waiting_uses ds t new))
    ∙ ap (λ m. noted ++ m) (sym (flat_map-append f (own_uses s) (waiting_uses ds t new))) ∙ ap (λ u. noted ++ flat_map f u) (sym uses) ∙ kept

-- then fewer parts are left to be read
pub judged_smaller : (ds : List Sited) (s : Step) (old popped new : List Task) (task : Task) → old ≡ popped ++ task ∷ [] → step_size ds s < task_size ds task →
    waiting_size ds new ≡ step_size ds s + waiting_size ds popped → waiting_size ds new < waiting_size ds old
judged_smaller ds s old popped new task split smaller waits =
    let size = one_waits_size ds popped old task split in
    omega arith
