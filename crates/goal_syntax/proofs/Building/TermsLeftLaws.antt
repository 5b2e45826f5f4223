-- How building templates goes on from one piece of work to the next.
use Rattle.std.proofs.Common.{◌≡◌, ℕ, suc, zero, ◌+◌, ◌<◌, ◌≤◌, List, [], ◌∷◌, ◌++◌, ◌-◌, length, map, reverse, take, drop, get_or, refl, sym, ◌∙◌, ap, ap₂, arith, append_assoc, length-append, drop-cons}
use Rattle.std.specs.Prelude.{true, nat_lt, Some, unwrap_or}
use Rattle.std.proofs.lemmas.Bool.{ltb-true, lt-ltb, and_parts, and_from}
use Rattle.std.proofs.lemmas.List.{reverse-append, map-append, length-map, take_more}
use Rattle.std.proofs.Math.Seq.{drop-append_seam, take-length}
use Rattle.kan_terms.specs.Tree.{Tree}
use Rattle.kan_terms.specs.Table.{Table}
use Rattle.kan_model.specs.Programs.Goals.{Template}
use Rattle.kan_grammar.specs.Texts.Sited.{Sited}
use Rattle.kan_model.specs.Programs.Tables.{TermEntry, Tables, template_at, template_of, templates_of, is_term_grown, with_argument}
use Rattle.kan_grammar.specs.Texts.TermForms.{term_form}
use Rattle.kan_grammar.specs.Texts.GoalForms.{term_forms}
use Rattle.kan_grammar.specs.Texts.ProgramText.{slot_list}
use Rattle.kan_grammar.specs.Texts.Resolved.{Names, template_in}
use Rattle.goal_syntax.specs.Building.TermsLeft.{AddsTerms, with_arguments, stack_templates, pair_of_last_two, finish, work_size, works_size}
use Rattle.goal_syntax.specs.Building.GrownTables.{HasTemplate, HasArguments, Grows}
use Rattle.goal_forms.specs.Shapes.{parts}
use Rattle.goal_forms.specs.Places.{are_below}
use Rattle.goal_forms.specs.Steps.TermSteps.{task_size}
use Rattle.goal_syntax.specs.declared.build_term.Work.{Work}
use Rattle.goal_syntax.specs.declared.build_term.Work.TheVariants.{Term, Pair}
use Rattle.goal_forms.specs.declared.term.Task.{Task}
use Rattle.goal_syntax.proofs.Building.TableLaws.{grows_self, grows_on}
use Rattle.goal_forms.proofs.PlaceLaws.{below-push, below-split}

-- what came to tables by several steps
pub adds_none : (ts : Tables) → AddsTerms ts ts
adds_none ts = record { grows = grows_self ts; same = refl }

pub adds_on : (ts us vs : Tables) → AddsTerms ts us → AddsTerms us vs → AddsTerms ts vs
adds_on ts us vs first next = record { grows = grows_on ts us vs first.grows next.grows; same = next.same ∙ first.same }

-- the top of the stack comes first
pub stack_templates-push : (ts : List Template) (ps : List ℕ) (p : ℕ) → stack_templates ts (ps ++ p ∷ []) ≡ template_at ts p ∷ stack_templates ts ps
stack_templates-push ts [] p = refl
stack_templates-push ts (q ∷ ps) p = ap (λ l. l ++ template_at ts q ∷ []) (stack_templates-push ts ps p)

-- a template that is there is still there
stays : (ts us : Tables) (p : ℕ) → Grows ts us → nat_lt p (length ts.terms) ≡ true → HasTemplate us p (template_at (templates_of ts.terms) p)
stays ts us p grows below = grows.templates p _ (record { there = ltb-true p (length ts.terms) below; is = refl })

pub built_grown : (ts us : Tables) (ps : List ℕ) → Grows ts us → are_below (length ts.terms) ps ≡ true → stack_templates (templates_of us.terms) ps ≡ stack_templates (templates_of ts.terms) ps
built_grown ts us [] grows below = refl
built_grown ts us (p ∷ ps) grows below =
    let both = and_parts _ _ below in
    ap₂ (λ l t. l ++ t ∷ []) (built_grown ts us ps grows both.1) (stays ts us p grows both.0).is

pub below_grown : (ts us : Tables) (ps : List ℕ) → Grows ts us → are_below (length ts.terms) ps ≡ true → are_below (length us.terms) ps ≡ true
below_grown ts us [] grows below = refl
below_grown ts us (p ∷ ps) grows below =
    let both = and_parts _ _ below in
    and_from _ _ (lt-ltb p (length us.terms) (stays ts us p grows both.0).there) (below_grown ts us ps grows both.1)

-- a template that is put is the one built last
pub put_built : (ts us : Tables) (ps qs : List ℕ) (p : ℕ) (t : Template) → qs ≡ ps ++ p ∷ [] → HasTemplate us p t → Grows ts us → are_below (length ts.terms) ps ≡ true →
    stack_templates (templates_of us.terms) qs ≡ t ∷ stack_templates (templates_of ts.terms) ps
put_built ts us ps qs p t pushed new grows below =
    ap (stack_templates (templates_of us.terms)) pushed ∙ stack_templates-push (templates_of us.terms) ps p ∙ ap₂ (λ x l. x ∷ l) new.is (built_grown ts us ps grows below)

pub put_below : (ts us : Tables) (ps qs : List ℕ) (p : ℕ) (t : Template) → qs ≡ ps ++ p ∷ [] → HasTemplate us p t → Grows ts us → are_below (length ts.terms) ps ≡ true →
    are_below (length us.terms) qs ≡ true
put_below ts us ps qs p t pushed new grows below =
    ap (are_below (length us.terms)) pushed ∙ below-push (length us.terms) ps p (below_grown ts us ps grows below) new.there

-- what is below the top two, and they themselves
two_below : (n : ℕ) (p0 p1 p2 : List ℕ) (a d : ℕ) → p0 ≡ p1 ++ d ∷ [] → p1 ≡ p2 ++ a ∷ [] → are_below n p0 ≡ true → (are_below n p2 ≡ true) × (a < n) × (d < n)
two_below n p0 p1 p2 a d top next below =
    let outer = below-split n p1 d (sym (ap (are_below n) top) ∙ below) in
    let inner = below-split n p2 a (sym (ap (are_below n) next) ∙ outer.0) in
    (inner.0, inner.1, outer.1)

pub rest_below : (n : ℕ) (p0 p1 p2 : List ℕ) (a d : ℕ) → p0 ≡ p1 ++ d ∷ [] → p1 ≡ p2 ++ a ∷ [] → are_below n p0 ≡ true → are_below n p2 ≡ true
rest_below n p0 p1 p2 a d top next below = (two_below n p0 p1 p2 a d top next below).0

-- the two templates on top are there
pub pair_there : (n : ℕ) (p0 p1 p2 : List ℕ) (a d : ℕ) → p0 ≡ p1 ++ d ∷ [] → p1 ≡ p2 ++ a ∷ [] → are_below n p0 ≡ true → is_term_grown n (TermEntry.pair a d) ≡ true
pair_there n p0 p1 p2 a d top next below =
    let all = two_below n p0 p1 p2 a d top next below in
    and_from _ _ (lt-ltb a n all.1) (lt-ltb d n all.2)

-- the pair of the two templates built last
pub join_made : (ts : List Template) (p0 p1 p2 : List ℕ) (a d : ℕ) (made : List Template) → p0 ≡ p1 ++ d ∷ [] → p1 ≡ p2 ++ a ∷ [] →
    made ≡ template_of ts (TermEntry.pair a d) ∷ stack_templates ts p2 → made ≡ pair_of_last_two (stack_templates ts p0)
join_made ts p0 p1 p2 a d made top next put =
    let tops : stack_templates ts p0 ≡ template_at ts d ∷ template_at ts a ∷ stack_templates ts p2 =
    ap (stack_templates ts) top ∙ stack_templates-push ts p1 d ∙ ap (λ l. template_at ts d ∷ l) (ap (stack_templates ts) next ∙ stack_templates-push ts p2 a) in
    put ∙ sym (ap pair_of_last_two tops)

works_size-push : (ds : List Sited) (ws : List Work) (w : Work) → works_size ds (ws ++ w ∷ []) ≡ work_size ds w + works_size ds ws
works_size-push ds [] w = refl
works_size-push ds (x ∷ ws) w = omega (arith, works_size-push ds ws w)

pushed_size : (ds : List Sited) (old new : List Work) (w : Work) → new ≡ old ++ w ∷ [] → works_size ds new ≡ work_size ds w + works_size ds old
pushed_size ds old new w e = ap (works_size ds) e ∙ works_size-push ds old w

-- the parts of a pair are less work than it was
pub pair_falls : (ds : List Sited) (ws w1 w2 w3 : List Work) (a d : Task) → w1 ≡ ws ++ Pair ∷ [] → w2 ≡ w1 ++ Term d ∷ [] → w3 ≡ w2 ++ Term a ∷ [] →
    works_size ds w3 ≤ 1 + (task_size ds a + task_size ds d) + (task_size ds a + task_size ds d) + works_size ds ws
pair_falls ds ws w1 w2 w3 a d e1 e2 e3 =
    omega (arith, pushed_size ds w2 w3 (Term a) e3, pushed_size ds w1 w2 (Term d) e2, pushed_size ds ws w1 Pair e1)

pub same_falls : (ds : List Sited) (ws w1 : List Work) (a : Task) → w1 ≡ ws ++ Term a ∷ [] → works_size ds w1 ≤ 1 + task_size ds a + task_size ds a + works_size ds ws
same_falls ds ws w1 a e = omega (arith, pushed_size ds ws w1 (Term a) e)

-- the work on top is done
pub work_done : (ds : List Sited) (t : Table) (ns : Names) (old popped new : List Work) (w : Work) (before after whole : List Template) → old ≡ popped ++ w ∷ [] →
    finish ds t ns (reverse new) after ≡ finish ds t ns (w ∷ reverse popped) before → finish ds t ns (reverse old) before ≡ whole → finish ds t ns (reverse new) after ≡ whole
work_done ds t ns old popped new w before after whole split done kept =
    let top : reverse old ≡ w ∷ reverse popped = ap reverse split ∙ reverse-append popped (w ∷ []) in
    done ∙ sym (ap (λ l. finish ds t ns l before) top) ∙ kept

pub work_falls : (ds : List Sited) (old popped new : List Work) (w : Work) → old ≡ popped ++ w ∷ [] → works_size ds new < work_size ds w + works_size ds popped → works_size ds new < works_size ds old
work_falls ds old popped new w split falls = omega (arith, pushed_size ds popped old w split)

-- the one template that was built
pub last_built : (ts : Tables) (old popped : List ℕ) (p : ℕ) (t : Template) → old ≡ popped ++ p ∷ [] → are_below (length ts.terms) old ≡ true → stack_templates (templates_of ts.terms) old ≡ t ∷ [] → HasTemplate ts p t
last_built ts old popped p t split below is =
    let us = templates_of ts.terms in
    let top : template_at us p ∷ stack_templates us popped ≡ t ∷ [] = sym (stack_templates-push us popped p) ∙ sym (ap (stack_templates us) split) ∙ is in
    record { there = (below-split (length ts.terms) popped p (sym (ap (are_below (length ts.terms)) split) ∙ below)).1; is = cc }

-- the templates at places stay as they are
map_grown : (ts us : Tables) (ps : List ℕ) → Grows ts us → are_below (length ts.terms) ps ≡ true → map (template_at (templates_of us.terms)) ps ≡ map (template_at (templates_of ts.terms)) ps
map_grown ts us [] grows below = refl
map_grown ts us (p ∷ ps) grows below =
    let both = and_parts _ _ below in
    ap₂ (λ t l. t ∷ l) (stays ts us p grows both.0).is (map_grown ts us ps grows both.1)

-- one term more is built, and those that are left come behind it
pub terms_next : (ts us : Tables) (ps qs : List ℕ) (p : ℕ) (t : Template) (left later whole : List Template) → qs ≡ ps ++ p ∷ [] → HasTemplate us p t → Grows ts us → are_below (length ts.terms) ps ≡ true →
    left ≡ t ∷ later → map (template_at (templates_of ts.terms)) ps ++ left ≡ whole → map (template_at (templates_of us.terms)) qs ++ later ≡ whole
terms_next ts us ps qs p t left later whole pushed new grows below split kept =
    let old = map (template_at (templates_of ts.terms)) ps in
    ap (λ l. map (template_at (templates_of us.terms)) l ++ later) pushed
    ∙ ap (λ l. l ++ later) (map-append (template_at (templates_of us.terms)) ps (p ∷ []))
    ∙ ap₂ (λ l x. (l ++ x ∷ []) ++ later) (map_grown ts us ps grows below) new.is
    ∙ append_assoc old (t ∷ []) later ∙ ap (λ l. old ++ l) (sym split) ∙ kept

-- the terms of a list, from its first
pub terms_of_pair : (ns : Names) (t : Table) (s a d : Sited) → Some (a, d) ≡ parts s →
    map (template_in ns) (term_forms t s) ≡ template_in ns (term_form t a) ∷ map (template_in ns) (term_forms t d)
terms_of_pair ns t (Sited.pair at x y) a d e =
    let both : (a, d) ≡ (x, y) = ap (λ o. unwrap_or o (a, d)) e in
    ap₂ (λ b ds. template_in ns (term_form t b) ∷ map (template_in ns) (term_forms t ds)) (sym (ap (λ p. p.0) both)) (sym (ap (λ p. p.1) both))
terms_of_pair ns t (Sited.name at s) a d e = cc
terms_of_pair ns t (Sited.text at s) a d e = cc
terms_of_pair ns t (Sited.num at s) a d e = cc
terms_of_pair ns t (Sited.bool at s) a d e = cc
terms_of_pair ns t (Sited.nil at) a d e = cc

-- a place in a list of places that are below a number
pub below_at : (n : ℕ) (ps : List ℕ) (i : ℕ) → are_below n ps ≡ true → i < length ps → get_or ps i 0 < n
below_at n [] i below within = absurd (omega arith)
below_at n (p ∷ ps) zero below within = ltb-true p n (and_parts _ _ below).0
below_at n (p ∷ ps) (suc i) below within = below_at n ps i (and_parts _ _ below).1 (omega arith)

-- the same of tables with as many templates
pub below_within : (ts us : Tables) (ps qs : List ℕ) (i : ℕ) → us ≡ with_arguments ts qs → are_below (length ts.terms) ps ≡ true → i < length ps → get_or ps i 0 < length us.terms
below_within ts us ps qs i is below within = rw is (below_at (length ts.terms) ps i below within)

-- one argument more
pub put_next : (ts us vs : Tables) (ps : List ℕ) (i : ℕ) → us ≡ with_arguments ts (take i ps) → vs ≡ with_argument us (get_or ps i 0) → i < length ps → vs ≡ with_arguments ts (take (i + 1) ps)
put_next ts us vs ps i before put within =
    put ∙ ap (λ u. with_argument u (get_or ps i 0)) before
    ∙ ap (λ l. record ts { arguments = l }) (append_assoc ts.arguments (take i ps) (get_or ps i 0 ∷ []))
    ∙ ap (with_arguments ts) (sym (take_more ps i 0 within))

-- arguments leave the goals as they are
pub adds_argument : (ts us : Tables) (p : ℕ) → us ≡ with_argument ts p → Grows ts us → AddsTerms ts us
adds_argument ts us p is grows = record { grows = grows; same = ap (λ u. u.goals) is }

-- what is put behind the arguments is there
arguments_there : (ts us : Tables) (ps : List ℕ) → us ≡ with_arguments ts ps → HasArguments us (length ts.arguments) (length ps) (map (template_at (templates_of ts.terms)) ps)
arguments_there ts us ps is =
    let pick = map (template_at (templates_of ts.terms)) in
    let size = length-append ts.arguments ps in
    rw is (record {
      there = omega (arith, size);
      are = ap (λ l. pick (take (length ps) l)) (drop-append_seam ts.arguments ps) ∙ ap pick (take-length ps);
      counted = sym (length-map ps (template_at (templates_of ts.terms)));
    })

pub arguments_put : (ts us vs : Tables) (ps rest : List ℕ) (p at : ℕ) → ps ≡ p ∷ rest → us ≡ with_argument ts p → at ≡ length ts.arguments → vs ≡ with_arguments us rest →
    HasArguments vs at (length ps) (map (template_at (templates_of ts.terms)) ps)
arguments_put ts us vs ps rest p at split first place later =
    let whole : vs ≡ with_arguments ts ps =
    later ∙ ap (λ u. with_arguments u rest) first ∙ ap (λ l. record ts { arguments = l }) (append_assoc ts.arguments (p ∷ []) rest) ∙ ap (with_arguments ts) (sym split) in
    rw place (arguments_there ts vs ps whole)

-- the places behind the first one
pub later_below : (ts us : Tables) (ps rest : List ℕ) (p : ℕ) → ps ≡ p ∷ rest → us ≡ with_argument ts p → are_below (length ts.terms) ps ≡ true → are_below (length us.terms) rest ≡ true
later_below ts us ps rest p split put below = rw put (and_parts _ _ (sym (ap (are_below (length ts.terms)) split) ∙ below)).1

pub first_below : (n : ℕ) (ps rest : List ℕ) (p : ℕ) → ps ≡ p ∷ rest → are_below n ps ≡ true → p < n
first_below n ps rest p split below = ltb-true p n (and_parts _ _ (sym (ap (are_below n) split) ∙ below)).0

-- the list of slots from one on
pub slots_next : (ts us vs : Tables) (bound : List ℕ) (n first rest made : ℕ) → 0 < n → n ≤ length bound → HasTemplate ts rest (slot_list (n + 1) (drop n bound)) →
    HasTemplate us first (Tree.leaf n) → Grows ts us → HasTemplate vs made (template_of (templates_of us.terms) (TermEntry.pair first rest)) → HasTemplate vs made (slot_list ((n - 1) + 1) (drop (n - 1) bound))
slots_next ts us vs bound zero first rest made some within later head grows new = absurd (omega arith)
slots_next ts us vs bound (suc n) first rest made some within later head grows new =
    let tail = grows.templates rest _ later in
    let index : suc n - 1 ≡ n = omega arith in
    let next : suc n + 1 ≡ suc (n + 1) = omega arith in
    let number : suc n ≡ n + 1 = omega arith in
    rw index (record {
      there = new.there;
      is = new.is ∙ ap₂ Tree.pair (head.is ∙ ap Tree.leaf number) (tail.is ∙ ap (λ k. slot_list k (drop (suc n) bound)) next) ∙ ap (slot_list (n + 1)) (sym (drop-cons bound n 0 (omega arith)));
    })

-- once no work is left, what is built is the whole
pub all_done : (ds : List Sited) (t : Table) (ns : Names) (ws : List Work) (made whole : List Template) → length ws ≡ 0 → finish ds t ns (reverse ws) made ≡ whole → made ≡ whole
all_done ds t ns [] made whole none kept = kept
all_done ds t ns (w ∷ ws) made whole none kept = absurd (omega arith)

-- an entry may name two templates that are there
pub both_there : (ts us : Tables) (a d : ℕ) (t u : Template) → HasTemplate us a t → HasTemplate ts d u → Grows ts us → is_term_grown (length us.terms) (TermEntry.pair a d) ≡ true
both_there ts us a d t u first rest grows =
    let later = grows.templates d u rest in
    and_from _ _ (lt-ltb a (length us.terms) first.there) (lt-ltb d (length us.terms) later.there)
