-- The tree at a place is that of the entry there.
use Rattle.std.proofs.Common.{◌≡◌, ℕ, suc, zero, ◌+◌, ◌<◌, ◌≤◌, true, List, [], ◌∷◌, ◌++◌, length, refl, sym, ◌∙◌, ap, ap₂, arith, add-zero, zero-add}
use Rattle.std.specs.Prelude.{nat_lt, slice_get, unwrap_or, Some, None, Option}
use Rattle.std.proofs.lemmas.Bool.{and_parts, ltb-true}
use Rattle.std.proofs.lemmas.List.{length-append}
use Rattle.kan_terms.specs.Tree.{Tree}
use Rattle.kan_model.specs.Programs.Goals.{Template, Goal}
use Rattle.kan_model.specs.Programs.Tables.{TermEntry, GoalEntry, Tables, template_at, goal_at, template_of, templates_after, templates_of, goal_of, goals_after, goals_of, is_term_grown, terms_grown, is_goal_grown, goals_grown, is_grown}
use Rattle.kan_model.proofs.Programs.TableLaws.{template_at-more, grown-parts, templates-length, goals-length}
use Rattle.std.proofs.lemmas.Option.{slice_get_past}

-- what stood in a table stays
template-stays : (ts : List Template) (es : List TermEntry) (i : ℕ) → i < length ts → template_at (templates_after ts es) i ≡ template_at ts i
template-stays ts [] i within = refl
template-stays ts (e ∷ es) i within =
    let one = length-append ts (template_of ts e ∷ []) in
    template-stays (ts ++ template_of ts e ∷ []) es i (omega (arith, within, one)) ∙ template_at-more ts (template_of ts e) i within

at-end : {X : Type 0} (xs : List X) (x d : X) → unwrap_or (slice_get (xs ++ x ∷ []) (length xs)) d ≡ x
at-end [] x d = refl
at-end (y ∷ xs) x d = at-end xs x d

template-same : (ts us : List Template) (n : ℕ) (e : TermEntry) → ((i : ℕ) → i < n → template_at us i ≡ template_at ts i) → is_term_grown n e ≡ true → template_of us e ≡ template_of ts e
template-same ts us n (TermEntry.slot i) same h = refl
template-same ts us n (TermEntry.sym s) same h = refl
template-same ts us n (TermEntry.str s) same h = refl
template-same ts us n (TermEntry.num m) same h = refl
template-same ts us n (TermEntry.truth b) same h = refl
template-same ts us n TermEntry.nil same h = refl
template-same ts us n (TermEntry.pair a b) same h =
    let (left, right) = and_parts (nat_lt a n) (nat_lt b n) h in ap₂ Tree.pair (same a (ltb-true a n left)) (same b (ltb-true b n right))

template-after : (ts : List Template) (es : List TermEntry) (i : ℕ) (e : TermEntry) → terms_grown (length ts) es ≡ true → slice_get es i ≡ Some e →
    template_at (templates_after ts es) (length ts + i) ≡ template_of (templates_after ts es) e
template-after ts [] i e grown is = cc
template-after ts (d ∷ es) zero e grown is =
    let (first, rest) = and_parts (is_term_grown (length ts) d) (terms_grown (suc (length ts)) es) grown in
    let us = templates_after ts (d ∷ es) in
    let one = length-append ts (template_of ts d ∷ []) in
    let same : d ≡ e = cc in
    ap (template_at us) (add-zero (length ts))
    ∙ template-stays (ts ++ template_of ts d ∷ []) es (length ts) (omega (arith, one))
    ∙ at-end ts (template_of ts d) Tree.nil
    ∙ sym (template-same ts us (length ts) d (λ i within. template-stays ts (d ∷ es) i within) first) ∙ ap (template_of us) same
template-after ts (d ∷ es) (suc i) e grown is =
    let (first, rest) = and_parts (is_term_grown (length ts) d) (terms_grown (suc (length ts)) es) grown in
    let one = length-append ts (template_of ts d ∷ []) in
    let long : suc (length ts) ≡ length (ts ++ template_of ts d ∷ []) = omega (arith, one) in
    let place : length ts + suc i ≡ length (ts ++ template_of ts d ∷ []) + i = omega (arith, one) in
    ap (template_at (templates_after ts (d ∷ es))) place
    ∙ template-after (ts ++ template_of ts d ∷ []) es i e (ap (λ n. terms_grown n es) (sym long) ∙ rest) is

-- the template at a place is that of its entry
pub template-entry : (tables : Tables) (i : ℕ) (e : TermEntry) → is_grown tables ≡ true → slice_get tables.terms i ≡ Some e →
    template_at (templates_of tables.terms) i ≡ template_of (templates_of tables.terms) e
template-entry tables i e grown is =
    ap (template_at (templates_of tables.terms)) (sym (zero-add i)) ∙ template-after [] tables.terms i e (grown-parts tables grown).terms is

goal_at-more : (gs : List Goal) (g : Goal) (i : ℕ) → i < length gs → goal_at (gs ++ g ∷ []) i ≡ goal_at gs i
goal_at-more [] g i within = let none : ⊥ = omega (arith, within) in absurd none
goal_at-more (h ∷ gs) g zero within = refl
goal_at-more (h ∷ gs) g (suc i) within = goal_at-more gs g i (omega (arith, within))

goal-stays : (ts : List Template) (args : List ℕ) (gs : List Goal) (es : List GoalEntry) (i : ℕ) → i < length gs → goal_at (goals_after ts args gs es) i ≡ goal_at gs i
goal-stays ts args gs [] i within = refl
goal-stays ts args gs (e ∷ es) i within =
    let one = length-append gs (goal_of ts args gs e ∷ []) in
    goal-stays ts args (gs ++ goal_of ts args gs e ∷ []) es i (omega (arith, within, one)) ∙ goal_at-more gs (goal_of ts args gs e) i within

goal-like : (tables : Tables) (ts : List Template) (args : List ℕ) (gs hs : List Goal) (n : ℕ) (e : GoalEntry) → ((i : ℕ) → i < n → goal_at hs i ≡ goal_at gs i) →
    is_goal_grown tables n e ≡ true → goal_of ts args hs e ≡ goal_of ts args gs e
goal-like tables ts args gs hs n GoalEntry.succeed same h = refl
goal-like tables ts args gs hs n GoalEntry.fail same h = refl
goal-like tables ts args gs hs n (GoalEntry.same a b) same h = refl
goal-like tables ts args gs hs n (GoalEntry.differ a b) same h = refl
goal-like tables ts args gs hs n (GoalEntry.symbol a) same h = refl
goal-like tables ts args gs hs n (GoalEntry.number a) same h = refl
goal-like tables ts args gs hs n (GoalEntry.text a) same h = refl
goal-like tables ts args gs hs n (GoalEntry.absent tag a) same h = refl
goal-like tables ts args gs hs n (GoalEntry.both a b) same h =
    let (left, right) = and_parts (nat_lt a n) (nat_lt b n) h in ap₂ Goal.both (same a (ltb-true a n left)) (same b (ltb-true b n right))
goal-like tables ts args gs hs n (GoalEntry.either a b) same h =
    let (left, right) = and_parts (nat_lt a n) (nat_lt b n) h in ap₂ Goal.either (same a (ltb-true a n left)) (same b (ltb-true b n right))
goal-like tables ts args gs hs n (GoalEntry.fresh k a) same h = ap (Goal.fresh k) (same a (ltb-true a n h))
goal-like tables ts args gs hs n (GoalEntry.later a) same h = ap Goal.later (same a (ltb-true a n h))
goal-like tables ts args gs hs n (GoalEntry.call r at k) same h = refl

goal-after : (tables : Tables) (ts : List Template) (args : List ℕ) (gs : List Goal) (es : List GoalEntry) (i : ℕ) (e : GoalEntry) → goals_grown tables (length gs) es ≡ true → slice_get es i ≡ Some e →
    goal_at (goals_after ts args gs es) (length gs + i) ≡ goal_of ts args (goals_after ts args gs es) e
goal-after tables ts args gs [] i e grown is = cc
goal-after tables ts args gs (d ∷ es) zero e grown is =
    let (first, rest) = and_parts (is_goal_grown tables (length gs) d) (goals_grown tables (suc (length gs)) es) grown in
    let hs = goals_after ts args gs (d ∷ es) in
    let one = length-append gs (goal_of ts args gs d ∷ []) in
    let same : d ≡ e = cc in
    ap (goal_at hs) (add-zero (length gs))
    ∙ goal-stays ts args (gs ++ goal_of ts args gs d ∷ []) es (length gs) (omega (arith, one))
    ∙ at-end gs (goal_of ts args gs d) Goal.fail
    ∙ sym (goal-like tables ts args gs hs (length gs) d (λ i within. goal-stays ts args gs (d ∷ es) i within) first) ∙ ap (goal_of ts args hs) same
goal-after tables ts args gs (d ∷ es) (suc i) e grown is =
    let (first, rest) = and_parts (is_goal_grown tables (length gs) d) (goals_grown tables (suc (length gs)) es) grown in
    let one = length-append gs (goal_of ts args gs d ∷ []) in
    let long : suc (length gs) ≡ length (gs ++ goal_of ts args gs d ∷ []) = omega (arith, one) in
    let place : length gs + suc i ≡ length (gs ++ goal_of ts args gs d ∷ []) + i = omega (arith, one) in
    ap (goal_at (goals_after ts args gs (d ∷ es))) place
    ∙ goal-after tables ts args (gs ++ goal_of ts args gs d ∷ []) es i e (ap (λ n. goals_grown tables n es) (sym long) ∙ rest) is

-- the goal at a place is that of its entry
pub goal-entry : (tables : Tables) (i : ℕ) (e : GoalEntry) → is_grown tables ≡ true → slice_get tables.goals i ≡ Some e →
    goal_at (goals_of tables) i ≡ goal_of (templates_of tables.terms) tables.arguments (goals_of tables) e
goal-entry tables i e grown is =
    ap (goal_at (goals_of tables)) (sym (zero-add i)) ∙ goal-after tables (templates_of tables.terms) tables.arguments [] tables.goals i e (grown-parts tables grown).goals is

-- the template of what may be an entry
abbrev pub template_found : List Template → Option TermEntry → Template
template_found ts None = Tree.nil
template_found ts (Some e) = template_of ts e

past-end : {X : Type 0} (xs : List X) (i : ℕ) → slice_get xs i ≡ None → length xs ≤ i
past-end [] i h = omega arith
past-end (x ∷ xs) zero h = cc
past-end (x ∷ xs) (suc i) h = let rest = past-end xs i h in omega (arith, rest)

-- past the end of the table there is no template
pub template-found : (tables : Tables) (i : ℕ) (o : Option TermEntry) → is_grown tables ≡ true → o ≡ slice_get tables.terms i →
    template_at (templates_of tables.terms) i ≡ template_found (templates_of tables.terms) o
template-found tables i (Some e) grown is = template-entry tables i e grown (sym is)
template-found tables i None grown is =
    let long = templates-length [] tables.terms in
    let past = past-end tables.terms i (sym is) in
    ap (λ o. unwrap_or o Tree.nil) (slice_get_past (templates_of tables.terms) i (omega (arith, long, past)))

-- the goal of what may be an entry
abbrev pub goal_found : List Template → List ℕ → List Goal → Option GoalEntry → Goal
goal_found ts args gs None = Goal.fail
goal_found ts args gs (Some e) = goal_of ts args gs e

-- past the end of the table the goal fails
pub goal-found : (tables : Tables) (i : ℕ) (o : Option GoalEntry) → is_grown tables ≡ true → o ≡ slice_get tables.goals i →
    goal_at (goals_of tables) i ≡ goal_found (templates_of tables.terms) tables.arguments (goals_of tables) o
goal-found tables i (Some e) grown is = goal-entry tables i e grown (sym is)
goal-found tables i None grown is =
    let long = goals-length (templates_of tables.terms) tables.arguments [] tables.goals in
    let past = past-end tables.goals i (sym is) in
    ap (λ o. unwrap_or o Goal.fail) (slice_get_past (goals_of tables) i (omega (arith, long, past)))
