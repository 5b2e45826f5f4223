-- What waits on a stack of goals.
use Rattle.std.proofs.Common.{◌≡◌, ℕ, ◌+◌, ◌<◌, List, [], ◌∷◌, ◌++◌, length, map, reverse, refl, sym, ◌∙◌, ap, append_assoc, append-nil, arith, Option, Some, None}
use Rattle.std.specs.Prelude.{Bool, true, false}
use Rattle.std.proofs.Math.Seq.{take-append_seam}
use Rattle.std.proofs.lemmas.List.{reverse-append}
use Rattle.kan_terms.specs.Table.{Table}
use Rattle.kan_grammar.specs.Texts.Sited.{Sited, site, is_proper}
use Rattle.kan_grammar.specs.Data.Faults.{Fault}
use Rattle.kan_grammar.specs.Texts.GoalForms.{GoalForm, none, all_of, misshapen, goal_forms, clause_forms}
use Rattle.kan_grammar.specs.Texts.TopForms.{Defined}
use Rattle.kan_grammar.specs.Texts.Binders.{binder}
use Rattle.kan_grammar.specs.Texts.Resolved.{Names, within}
use Rattle.kan_grammar.specs.Texts.TextFaults.{goal_faults, goals_faults}
use Rattle.goal_forms.specs.Parts.{site_at}
use Rattle.goal_forms.specs.Shapes.{parts}
use Rattle.goal_forms.specs.Steps.TermSteps.{site_size}
use Rattle.goal_forms.specs.Steps.GoalSteps.{step_goal, step_goal_size}
use Rattle.goal_syntax.specs.Judging.GoalsLeft.{own_faults, fresh_faults, inner_faults, inner_waiting, stack_faults, stack_parts, waiting_parts}
use Rattle.goal_forms.specs.Steps.GoalSteps.{inner_names}
use Rattle.goal_forms.specs.declared.goal.Goal as opened
use Rattle.goal_forms.specs.declared.goal.Goal.TheVariants.{Succeed, Fail, Same, Differ, Symbol, Number, Text, Absent, Fresh, AllOf, OneOf, Clauses, Call, Misshapen}
use Rattle.goal_syntax.specs.declared.judge_goal.Waiting.{Waiting}
use Rattle.goal_syntax.specs.declared.judge_goal.Waiting.TheVariants as waiting

-- the faults of a goal's own parts and those of its goals are all its faults
pub goal-faults : (rs : List Defined) (t : Table) (ds : List Sited) (ns : Names) (g : opened.Goal) → own_faults rs t ds ns g ++ inner_faults rs t ds ns g ≡ goal_faults rs ns (step_goal ds t g)
goal-faults rs t ds ns Succeed = refl
goal-faults rs t ds ns Fail = refl
goal-faults rs t ds ns (Same a b) = append-nil _
goal-faults rs t ds ns (Differ a b) = append-nil _
goal-faults rs t ds ns (Symbol a) = append-nil _
goal-faults rs t ds ns (Number a) = append-nil _
goal-faults rs t ds ns (Text a) = append-nil _
goal-faults rs t ds ns (Absent a b) = append-nil _
goal-faults rs t ds ns (Fresh b gs) = refl
goal-faults rs t ds ns (AllOf gs) = refl
goal-faults rs t ds ns (OneOf gs) = refl
goal-faults rs t ds ns (Clauses cs) = refl
goal-faults rs t ds ns (Call at s args) = append-nil _
goal-faults rs t ds ns (Misshapen at) = refl

-- what is put on a stack comes first
pub top-push : (ws : List Waiting) (w : Waiting) → reverse (ws ++ w ∷ []) ≡ w ∷ reverse ws
top-push ws w = reverse-append ws (w ∷ [])

pub parts-push : (ds : List Sited) (ws vs : List Waiting) → stack_parts ds (ws ++ vs) ≡ stack_parts ds ws + stack_parts ds vs
parts-push ds [] vs = omega arith
parts-push ds (w ∷ ws) vs = rw (parts-push ds ws vs) (omega arith)

-- what waits of a goal, after the faults of its binder, has the faults of its goals
pub inner-stack : (rs : List Defined) (t : Table) (ds : List Sited) (ns : Names) (g : opened.Goal) (ws : List Waiting) →
    fresh_faults t ds g ++ stack_faults rs t ds (inner_names t ds ns g) (reverse (ws ++ inner_waiting ns g)) ≡ inner_faults rs t ds ns g ++ stack_faults rs t ds ns (reverse ws)
inner-stack rs t ds ns Succeed ws = ap (λ l. stack_faults rs t ds ns (reverse l)) (append-nil ws)
inner-stack rs t ds ns Fail ws = ap (λ l. stack_faults rs t ds ns (reverse l)) (append-nil ws)
inner-stack rs t ds ns (Same a b) ws = ap (λ l. stack_faults rs t ds ns (reverse l)) (append-nil ws)
inner-stack rs t ds ns (Differ a b) ws = ap (λ l. stack_faults rs t ds ns (reverse l)) (append-nil ws)
inner-stack rs t ds ns (Symbol a) ws = ap (λ l. stack_faults rs t ds ns (reverse l)) (append-nil ws)
inner-stack rs t ds ns (Number a) ws = ap (λ l. stack_faults rs t ds ns (reverse l)) (append-nil ws)
inner-stack rs t ds ns (Text a) ws = ap (λ l. stack_faults rs t ds ns (reverse l)) (append-nil ws)
inner-stack rs t ds ns (Absent a b) ws = ap (λ l. stack_faults rs t ds ns (reverse l)) (append-nil ws)
inner-stack rs t ds ns (Fresh b gs) ws =
    let bound = binder t (site_at ds b) in
    let top : reverse (ws ++ waiting.Leave (length ns) ∷ waiting.Goals gs ∷ []) ≡ waiting.Goals gs ∷ waiting.Leave (length ns) ∷ reverse ws = reverse-append ws (waiting.Leave (length ns) ∷ waiting.Goals gs ∷ []) in
    let inside : Names = within ns bound.value in
    ap (λ l. bound.faults ++ stack_faults rs t ds inside l) top
    ∙ ap (λ (n : Names). bound.faults ++ (goals_faults rs inside (goal_forms t (site_at ds gs)) ++ stack_faults rs t ds n (reverse ws))) (take-append_seam ns (map (λ s. Some s) bound.value))
    ∙ sym (append_assoc bound.faults (goals_faults rs inside (goal_forms t (site_at ds gs))) (stack_faults rs t ds ns (reverse ws)))
inner-stack rs t ds ns (AllOf gs) ws = ap (stack_faults rs t ds ns) (top-push ws (waiting.Goals gs))
inner-stack rs t ds ns (OneOf gs) ws = ap (stack_faults rs t ds ns) (top-push ws (waiting.Goals gs))
inner-stack rs t ds ns (Clauses cs) ws = ap (stack_faults rs t ds ns) (top-push ws (waiting.Clauses cs))
inner-stack rs t ds ns (Call at s args) ws = ap (λ l. stack_faults rs t ds ns (reverse l)) (append-nil ws)
inner-stack rs t ds ns (Misshapen at) ws = ap (λ l. stack_faults rs t ds ns (reverse l)) (append-nil ws)

pub inner-parts : (ds : List Sited) (ns : Names) (g : opened.Goal) → stack_parts ds (inner_waiting ns g) ≡ step_goal_size ds g
inner-parts ds ns Succeed = refl
inner-parts ds ns Fail = refl
inner-parts ds ns (Same a b) = refl
inner-parts ds ns (Differ a b) = refl
inner-parts ds ns (Symbol a) = refl
inner-parts ds ns (Number a) = refl
inner-parts ds ns (Text a) = refl
inner-parts ds ns (Absent a b) = refl
inner-parts ds ns (Fresh b gs) = omega arith
inner-parts ds ns (AllOf gs) = omega arith
inner-parts ds ns (OneOf gs) = omega arith
inner-parts ds ns (Clauses cs) = omega arith
inner-parts ds ns (Call at s args) = refl
inner-parts ds ns (Misshapen at) = refl

-- a goal is judged: its own faults are noted and those of its binder, and its goals wait in its scope
pub judged_goal : (rs : List Defined) (t : Table) (ds : List Sited) (before ns inside : Names) (noted own all : List Fault) (old new : List Waiting) (g : opened.Goal) (form : GoalForm) →
    step_goal ds t g ≡ form → before ≡ ns → own ≡ noted ++ own_faults rs t ds before g → all ≡ own ++ fresh_faults t ds g → inside ≡ inner_names t ds ns g → new ≡ old ++ inner_waiting ns g →
    all ++ stack_faults rs t ds inside (reverse new) ≡ noted ++ (goal_faults rs ns form ++ stack_faults rs t ds ns (reverse old))
judged_goal rs t ds before ns inside noted own all old new g form opens same judged bound scoped waits =
    let mine : List Fault = own_faults rs t ds ns g in
    let fresh : List Fault = fresh_faults t ds g in
    let inner : List Fault = inner_faults rs t ds ns g in
    let below : List Fault = stack_faults rs t ds ns (reverse old) in
    let after : List Fault = stack_faults rs t ds inside (reverse new) in
    let all_is : all ≡ (noted ++ mine) ++ fresh = bound ∙ ap (λ l. l ++ fresh) (judged ∙ ap (λ n. noted ++ own_faults rs t ds n g) same) in
    let inner_is : fresh ++ after ≡ inner ++ below =
    ap (λ n. fresh ++ stack_faults rs t ds n (reverse new)) scoped ∙ ap (λ l. fresh ++ stack_faults rs t ds (inner_names t ds ns g) (reverse l)) waits ∙ inner-stack rs t ds ns g old in
    let form_is : mine ++ inner ≡ goal_faults rs ns form = goal-faults rs t ds ns g ∙ ap (goal_faults rs ns) opens in
    ap (λ l. l ++ after) all_is ∙ append_assoc (noted ++ mine) fresh after ∙ append_assoc noted mine (fresh ++ after) ∙ ap (λ l. noted ++ (mine ++ l)) inner_is
    ∙ ap (λ l. noted ++ l) (sym (append_assoc mine inner below)) ∙ ap (λ l. noted ++ (l ++ below)) form_is

pub judged_parts : (ds : List Sited) (ns : Names) (old new : List Waiting) (g : opened.Goal) (size : ℕ) → step_goal_size ds g < size → new ≡ old ++ inner_waiting ns g →
    stack_parts ds new < size + stack_parts ds old
judged_parts ds ns old new g size smaller waits =
    let grown : stack_parts ds new ≡ stack_parts ds old + stack_parts ds (inner_waiting ns g) = ap (stack_parts ds) waits ∙ parts-push ds old (inner_waiting ns g) in
    let inner = inner-parts ds ns g in
    omega arith

-- a datum with two parts is a pair of them
pub parts-is : (s a d : Sited) → Some (a, d) ≡ parts s → (at : ℕ) × (s ≡ Sited.pair at a d)
parts-is (Sited.name at s) a d e = cc
parts-is (Sited.text at n) a d e = cc
parts-is (Sited.num at n) a d e = cc
parts-is (Sited.bool at b) a d e = cc
parts-is (Sited.nil at) a d e = cc
parts-is (Sited.pair at b c) a d e = (at, ap (λ p. Sited.pair at (left p) (right p)) (sym e))
  where
    left : Option (Sited × Sited) → Sited
    left None = a
    left (Some p) = p.0

    right : Option (Sited × Sited) → Sited
    right None = d
    right (Some p) = p.1

pub goals-none : (t : Table) (s : Sited) → None ≡ parts s → goal_forms t s ≡ none
goals-none t (Sited.name at s) e = refl
goals-none t (Sited.text at n) e = refl
goals-none t (Sited.num at n) e = refl
goals-none t (Sited.bool at b) e = refl
goals-none t (Sited.nil at) e = refl
goals-none t (Sited.pair at b c) e = cc

pub clauses-none : (t : Table) (s : Sited) → None ≡ parts s → clause_forms t s ≡ none
clauses-none t (Sited.name at s) e = refl
clauses-none t (Sited.text at n) e = refl
clauses-none t (Sited.num at n) e = refl
clauses-none t (Sited.bool at b) e = refl
clauses-none t (Sited.nil at) e = refl
clauses-none t (Sited.pair at b c) e = cc

-- the first of some goals waits, and the others
pub first_parts : (ds : List Sited) (place : ℕ) (a d : ℕ) (ws mid new : List Waiting) (v w : Waiting) → Some (site_at ds a, site_at ds d) ≡ parts (site_at ds place) →
    mid ≡ ws ++ v ∷ [] → new ≡ mid ++ w ∷ [] → waiting_parts ds v ≡ site_size (site_at ds d) → waiting_parts ds w ≡ site_size (site_at ds a) →
    stack_parts ds new < site_size (site_at ds place) + stack_parts ds ws
first_parts ds place a d ws mid new v w e f g sv sw =
    let size : site_size (site_at ds place) ≡ 1 + site_size (site_at ds a) + site_size (site_at ds d) = ap site_size (parts-is (site_at ds place) (site_at ds a) (site_at ds d) e).1 in
    let grown : stack_parts ds new ≡ stack_parts ds mid + stack_parts ds (w ∷ []) = ap (stack_parts ds) g ∙ parts-push ds mid (w ∷ []) in
    let before : stack_parts ds mid ≡ stack_parts ds ws + stack_parts ds (v ∷ []) = ap (stack_parts ds) f ∙ parts-push ds ws (v ∷ []) in
    omega arith

-- what comes next is taken from the stack, and reads more than what it leaves there
pub next_parts : (ds : List Sited) (old popped new : List Waiting) (next : Waiting) → old ≡ popped ++ next ∷ [] → stack_parts ds new < waiting_parts ds next + stack_parts ds popped →
    stack_parts ds new < stack_parts ds old
next_parts ds old popped new next split smaller =
    let size : stack_parts ds old ≡ stack_parts ds popped + stack_parts ds (next ∷ []) = ap (stack_parts ds) split ∙ parts-push ds popped (next ∷ []) in
    omega arith

-- the first of some clauses waits where it is a list, and the others
pub first_clause : (rs : List Defined) (t : Table) (ds : List Sited) (ns : Names) (place a d : ℕ) (ws mid new : List Waiting) → Some (site_at ds a, site_at ds d) ≡ parts (site_at ds place) →
    true ≡ is_proper (site_at ds a) → mid ≡ ws ++ waiting.Clauses d ∷ [] → new ≡ mid ++ waiting.Goals a ∷ [] →
    stack_faults rs t ds ns (reverse new) ≡ stack_faults rs t ds ns (waiting.Clauses place ∷ reverse ws)
first_clause rs t ds ns place a d ws mid new e proper f g =
    let goals : List Fault = goals_faults rs ns (goal_forms t (site_at ds a)) in
    let others : List Fault = goals_faults rs ns (clause_forms t (site_at ds d)) in
    let below : List Fault = stack_faults rs t ds ns (reverse ws) in
    let split : clause_forms t (site_at ds place) ≡ clause_forms t (Sited.pair (parts-is (site_at ds place) (site_at ds a) (site_at ds d) e).0 (site_at ds a) (site_at ds d)) =
    ap (clause_forms t) (parts-is (site_at ds place) (site_at ds a) (site_at ds d) e).1 in
    let top : reverse new ≡ waiting.Goals a ∷ waiting.Clauses d ∷ reverse ws = ap reverse g ∙ top-push mid (waiting.Goals a) ∙ ap (λ l. waiting.Goals a ∷ l) (ap reverse f ∙ top-push ws (waiting.Clauses d)) in
    ap (stack_faults rs t ds ns) top ∙ sym (append_assoc goals others below)
    ∙ ap (λ g. (goal_faults rs ns g ++ others) ++ below) (clause_is (is_proper (site_at ds a)) proper)
    ∙ sym (ap (λ gs. goals_faults rs ns gs ++ below) split)
  where
    clause_is : (b : Bool) → true ≡ b → all_of (goal_forms t (site_at ds a)) ≡ elim b as (λ x. GoalForm) [ true ↦ all_of (goal_forms t (site_at ds a)) | false ↦ misshapen (site (site_at ds a)) ]
    clause_is true h = refl
    clause_is false h = cc

pub bad_clause_parts : (ds : List Sited) (place a d : ℕ) (ws mid : List Waiting) (v : Waiting) → Some (site_at ds a, site_at ds d) ≡ parts (site_at ds place) →
    mid ≡ ws ++ v ∷ [] → waiting_parts ds v ≡ site_size (site_at ds d) → stack_parts ds mid < site_size (site_at ds place) + stack_parts ds ws
bad_clause_parts ds place a d ws mid v e f sv =
    let size : site_size (site_at ds place) ≡ 1 + site_size (site_at ds a) + site_size (site_at ds d) = ap site_size (parts-is (site_at ds place) (site_at ds a) (site_at ds d) e).1 in
    let before : stack_parts ds mid ≡ stack_parts ds ws + stack_parts ds (v ∷ []) = ap (stack_parts ds) f ∙ parts-push ds ws (v ∷ []) in
    omega arith
