-- The templates that are built of low data are low, and so are all of a table that grows by them.
use Rattle.std.proofs.Common.{◌≡◌, ℕ, suc, ◌≤◌, max, List, [], ◌∷◌, ◌++◌, length, drop, length-drop, reverse, refl, sym, ap, ◌∙◌, arith}
use Rattle.std.specs.Prelude.{true, ◌&&◌}
use Rattle.std.specs.List.{list_all}
use Rattle.std.proofs.lemmas.Bool.{and_from, and_parts, leb-true, le-leb}
use Rattle.std.proofs.lemmas.List.{reverse-append}
use Rattle.std.proofs.lemmas.List.Folds.{list_all-append}
use Rattle.kan_terms.specs.Tree.{Tree}
use Rattle.kan_terms.specs.Table.{Table}
use Rattle.kan_model.specs.Programs.Goals.{Template}
use Rattle.kan_grammar.specs.Texts.Sited.{Sited}
use Rattle.kan_model.specs.Programs.Scope.{height, is_low}
use Rattle.kan_model.specs.Programs.Tables.{TermEntry, Tables, template_at, template_of, templates_of, with_term}
use Rattle.kan_grammar.specs.Texts.Resolved.{Names, template_in}
use Rattle.kan_model.proofs.Programs.TableLaws.{templates-more}
use Rattle.goal_syntax.specs.Building.TermsLeft.{stack_templates, pair_of_last_two, finish}
use Rattle.goal_syntax.specs.Building.GrownTables.{HasTemplate}
use Rattle.goal_forms.specs.Places.{are_below}
use Rattle.kan_grammar.specs.Texts.ProgramText.{slot_list}
use Rattle.goal_syntax.specs.Building.TermHeights.{all_low, WorksLow}
use Rattle.goal_forms.specs.Heights.{AreLow}
use Rattle.goal_syntax.specs.Building.TemplateHeights.{KeepsLow}
use Rattle.goal_forms.specs.Parts.{site_at}
use Rattle.goal_forms.specs.Steps.TermSteps.{task_form}
use Rattle.goal_forms.specs.declared.term.Task.{Task}
use Rattle.goal_forms.specs.declared.term.Task.TheVariants.{Term as TermOf, Terms, Template as TemplateOf, Constant}
use Rattle.goal_syntax.specs.declared.build_term.Work.{Work}
use Rattle.goal_syntax.specs.declared.build_term.Work.TheVariants.{Term, Pair}
use Rattle.goal_syntax.proofs.Building.TermsLeftLaws.{stack_templates-push}
use Rattle.goal_forms.proofs.HeightLaws.{site_low, term_high, list_high, template_high, constant_low, slots_high}

-- templates stay low from step to step
pub low_on : (ds : List Sited) (ts us vs : Tables) → KeepsLow ds ts us → KeepsLow ds us vs → KeepsLow ds ts vs
low_on ds ts us vs first next = λ data_low low. next data_low (first data_low low)

-- and where no template came
pub low_same : (ds : List Sited) (ts us : Tables) → us.terms ≡ ts.terms → KeepsLow ds ts us
low_same ds ts us same = λ data_low low. ap (λ terms. list_all is_low (templates_of terms)) same ∙ low

-- a low template more
pub term_low : (ts us : Tables) (e : TermEntry) → us ≡ with_term ts e → is_low (template_of (templates_of ts.terms) e) ≡ true → list_all is_low (templates_of ts.terms) ≡ true → list_all is_low (templates_of us.terms) ≡ true
term_low ts us e is low there =
    let t = template_of (templates_of ts.terms) e in
    ap (λ (x : Tables). list_all is_low (templates_of x.terms)) is ∙ ap (list_all is_low) (templates-more [] ts.terms e) ∙ list_all-append is_low (templates_of ts.terms) (t ∷ [])
    ∙ and_from (list_all is_low (templates_of ts.terms)) (is_low t && true) there (and_from (is_low t) true low refl)

-- the parts of a low pair are low
pair_parts_low : (a d : Template) → is_low (Tree.pair a d) ≡ true → (is_low a ≡ true) × (is_low d ≡ true)
pair_parts_low a d h =
    let most = leb-true (suc (max (height a) (height d))) 2048 h in
    (le-leb (height a) 2048 (omega (arith, most)), le-leb (height d) 2048 (omega (arith, most)))

-- the pair of the two templates built last
pub join_low : (ts us : List Template) (p0 p1 p2 : List ℕ) (a d : ℕ) → p0 ≡ p1 ++ d ∷ [] → p1 ≡ p2 ++ a ∷ [] →
    (is_low (template_of ts (TermEntry.pair a d)) ≡ true → list_all is_low ts ≡ true → list_all is_low us ≡ true) →
    list_all is_low (pair_of_last_two (stack_templates ts p0)) ≡ true → list_all is_low ts ≡ true → list_all is_low us ≡ true
join_low ts us p0 p1 p2 a d top next put low there =
    let tops : stack_templates ts p0 ≡ template_at ts d ∷ template_at ts a ∷ stack_templates ts p2 =
    ap (stack_templates ts) top ∙ stack_templates-push ts p1 d ∙ ap (λ l. template_at ts d ∷ l) (ap (stack_templates ts) next ∙ stack_templates-push ts p2 a) in
    let made : list_all is_low (Tree.pair (template_at ts a) (template_at ts d) ∷ stack_templates ts p2) ≡ true = sym (ap (λ l. list_all is_low (pair_of_last_two l)) tops) ∙ low in
    put (and_parts (is_low (Tree.pair (template_at ts a) (template_at ts d))) (list_all is_low (stack_templates ts p2)) made).0 there

-- what is built already is low
pub made_low : (ds : List Sited) (t : Table) (ns : Names) (ws : List Work) (made : List Template) → all_low ds t ns ws made ≡ true → list_all is_low made ≡ true
made_low ds t ns [] made h = h
made_low ds t ns (Term task ∷ ws) made h =
    let x = template_in ns (task_form ds t task) in (and_parts (is_low x) (list_all is_low made) (made_low ds t ns ws (x ∷ made) h)).1
made_low ds t ns (Pair ∷ ws) made h = (and_parts (list_all is_low made) (all_low ds t ns ws (pair_of_last_two made)) h).0

-- a pair as far as its parts
pub pair_low : (ds : List Sited) (t : Table) (ns : Names) (ws w1 w2 w3 : List Work) (a d : Task) (ts : List Template) (places : List ℕ) → w1 ≡ ws ++ Pair ∷ [] → w2 ≡ w1 ++ Term d ∷ [] → w3 ≡ w2 ++ Term a ∷ [] →
    all_low ds t ns (reverse ws) (Tree.pair (template_in ns (task_form ds t a)) (template_in ns (task_form ds t d)) ∷ stack_templates ts places) ≡ true → list_all is_low ts ≡ true → WorksLow ds t ns (reverse w3) ts places
pair_low ds t ns ws w1 w2 w3 a d ts places e1 e2 e3 all there =
    let top : reverse w3 ≡ Term a ∷ Term d ∷ Pair ∷ reverse ws =
    ap reverse e3 ∙ reverse-append w2 (Term a ∷ []) ∙ ap (λ l. Term a ∷ l) (ap reverse e2 ∙ reverse-append w1 (Term d ∷ []) ∙ ap (λ l. Term d ∷ l) (ap reverse e1 ∙ reverse-append ws (Pair ∷ []))) in
    let x = template_in ns (task_form ds t a) in
    let y = template_in ns (task_form ds t d) in
    let made = stack_templates ts places in
    let both = and_parts (is_low (Tree.pair x y)) (list_all is_low made) (made_low ds t ns (reverse ws) (Tree.pair x y ∷ made) all) in
    let parts_low = pair_parts_low x y both.0 in
    record {
      left = ap (λ l. all_low ds t ns l made) top
          ∙ and_from (list_all is_low (y ∷ x ∷ made)) (all_low ds t ns (reverse ws) (Tree.pair x y ∷ made))
          (and_from (is_low y) (list_all is_low (x ∷ made)) parts_low.1 (and_from (is_low x) (list_all is_low made) parts_low.0 both.1)) all;
      there = there;
    }

-- what was joined
pub joined_low : (ds : List Sited) (t : Table) (ns : Names) (ws : List Work) (ts us : List Template) (p0 p1 : List ℕ) → stack_templates us p1 ≡ pair_of_last_two (stack_templates ts p0) →
    (list_all is_low (pair_of_last_two (stack_templates ts p0)) ≡ true → list_all is_low ts ≡ true → list_all is_low us ≡ true) → WorksLow ds t ns (Pair ∷ ws) ts p0 → WorksLow ds t ns ws us p1
joined_low ds t ns ws ts us p0 p1 made low works =
    let all = (and_parts (list_all is_low (stack_templates ts p0)) (all_low ds t ns ws (pair_of_last_two (stack_templates ts p0))) works.left).1 in
    record { left = ap (all_low ds t ns ws) made ∙ all; there = low (made_low ds t ns ws (pair_of_last_two (stack_templates ts p0)) all) works.there }

-- the work on top is done
pub work_low : (ds : List Sited) (t : Table) (ns : Names) (old popped new : List Work) (w : Work) (ts us : List Template) (p0 p1 : List ℕ) → old ≡ popped ++ w ∷ [] →
    (WorksLow ds t ns (w ∷ reverse popped) ts p0 → WorksLow ds t ns (reverse new) us p1) → WorksLow ds t ns (reverse old) ts p0 → WorksLow ds t ns (reverse new) us p1
work_low ds t ns old popped new w ts us p0 p1 split done low =
    let top : reverse old ≡ w ∷ reverse popped = ap reverse split ∙ reverse-append popped (w ∷ []) in
    done (rw top at low)

-- the template of a task is low where the data are
pub task_low : (ds : List Sited) (t : Table) (ns : Names) (task : Task) → AreLow ds → is_low (template_in ns (task_form ds t task)) ≡ true
task_low ds t ns (TermOf p) h =
    let high = term_high t ns (site_at ds p) in let low = site_low ds p h in le-leb (height (template_in ns (task_form ds t (TermOf p)))) 2048 (omega (arith, high, low))
task_low ds t ns (Terms p) h =
    let high = list_high t ns (site_at ds p) in let low = site_low ds p h in le-leb (height (template_in ns (task_form ds t (Terms p)))) 2048 (omega (arith, high, low))
task_low ds t ns (TemplateOf p) h =
    let high = template_high t ns (site_at ds p) in let low = site_low ds p h in le-leb (height (template_in ns (task_form ds t (TemplateOf p)))) 2048 (omega (arith, high, low))
task_low ds t ns (Constant p) h =
    let high = constant_low ns (site_at ds p) in let low = site_low ds p h in le-leb (height (template_in ns (task_form ds t (Constant p)))) 2048 (omega (arith, high, low))

pub first_low : (ds : List Sited) (t : Table) (ns : Names) (task : Task) (ws : List Work) (ts : List Template) (places : List ℕ) → ws ≡ Term task ∷ [] → places ≡ [] → AreLow ds → list_all is_low ts ≡ true → WorksLow ds t ns (reverse ws) ts places
first_low ds t ns task ws ts places e f h there =
    rw (e, f) (record { left = and_from (is_low (template_in ns (task_form ds t task))) true (task_low ds t ns task h) refl; there = there })

pub first_made : (ds : List Sited) (t : Table) (ns : Names) (task : Task) (ws : List Work) (ts : List Template) (places : List ℕ) → ws ≡ Term task ∷ [] → places ≡ [] →
    finish ds t ns (reverse ws) (stack_templates ts places) ≡ template_in ns (task_form ds t task) ∷ []
first_made ds t ns task ws ts places e f = rw (e, f) refl

pub first_below : (n : ℕ) (places : List ℕ) → places ≡ [] → are_below n places ≡ true
first_below n places f = rw f refl

-- a list of slots is low where its names are not too many
pub slots_low : (ts : Tables) (p : ℕ) (x : Template) (bound : List ℕ) (i n : ℕ) → HasTemplate ts p x → HasTemplate ts p (slot_list i (drop n bound)) → length bound ≤ 2048 → is_low x ≡ true
slots_low ts p x bound i n made list few =
    let same : height x ≡ length (drop n bound) = ap height (sym made.is ∙ list.is) ∙ slots_high i (drop n bound) in
    let size = length-drop n bound in
    le-leb (height x) 2048 (omega (arith, same, size, few))
