-- Terms and goals without faults use only the slots that are there.
use Rattle.std.proofs.Common.{◌≡◌, ℕ, suc, ◌+◌, ◌<◌, List, [], ◌∷◌, ◌++◌, map, length, refl, sym, ◌∙◌, ap, arith, length-append}
use Rattle.std.specs.Prelude.{Bool, true, false, ◌&&◌, nat_lt, Option, Some, None, is_some, option_map, unwrap_or, if◌then◌else◌}
use Rattle.std.specs.List.{list_all, flat_map}
use Rattle.std.proofs.lemmas.Bool.{lt-ltb, and_from, and_parts}
use Rattle.std.proofs.lemmas.Grind.{flat_map-append}
use Rattle.std.proofs.lemmas.List.{length-map}
use Rattle.kan_refusals.specs.declared.refusals.Refusal.{Refusal}
use Rattle.kan_terms.specs.Tree.{Tree, leaves}
use Rattle.kan_model.specs.Programs.Goals.{Goal}
use Rattle.kan_grammar.specs.declared.dialect.Dialect.{Dialect}
use Rattle.kan_grammar.specs.declared.dialect.Dialect.TheVariants.{Book, All}
use Rattle.kan_grammar.specs.Data.Faults.{fault}
use Rattle.kan_model.specs.Programs.Scope.{all_below, in_scope}
use Rattle.kan_grammar.specs.Texts.TermForms.{Use, variable, misshapen, TermForm}
use Rattle.kan_grammar.specs.Texts.GoalForms.{GoalForm, GoalForms, none, more}
use Rattle.kan_grammar.specs.Texts.TopForms.{Defined}
use Rattle.kan_grammar.specs.Texts.Resolved.{Names, slot_of, is_named, or_else, leaf_in, template_in, arity, conjunction, disjunction, suspended_in, within, goal_in, goals_in}
use Rattle.kan_grammar.specs.Texts.TextFaults.{unless, use_faults, term_faults, call_faults, goal_faults, goals_faults}

-- where nothing stands in a list of two parts, nothing stands in them
pub none_parts : {X : Type 0} (xs ys : List X) → xs ++ ys ≡ [] → (xs ≡ []) × (ys ≡ [])
none_parts [] ys h = (refl, h)
none_parts (x ∷ xs) ys h = absurd cc

pub both_none : {X : Type 0} (xs ys : List X) → xs ≡ [] → ys ≡ [] → xs ++ ys ≡ []
both_none xs ys h k = rw (h, k) refl

-- the slot of a name is there
pub slot_there : (ns : Names) (s i : ℕ) → slot_of ns s ≡ Some i → i < length ns
slot_there [] s i e = absurd cc
slot_there (n ∷ ns) s i e = by_tests (is_named n s) (slot_of ns s) (λ k h. slot_there ns s k h) i e
  where
    by_tests : (b : Bool) (r : Option ℕ) → ((k : ℕ) → r ≡ Some k → k < length ns) → (i : ℕ) →
        or_else (option_map (λ j. suc j) r) (if b then Some 0 else None) ≡ Some i → i < suc (length ns)
    by_tests b (Some k) later i h = let below = later k refl in let same : suc k ≡ i = cc in omega (arith, below, same)
    by_tests true None later i h = let same : 0 ≡ i = cc in omega (arith, same)
    by_tests false None later i h = absurd cc

-- so is that of a use without faults
use_below : (ns : Names) (u : Use) → use_faults ns u ≡ [] → all_below (length ns) (leaf_in ns u) ≡ true
use_below ns (variable at s) h = by_slot (slot_of ns s) refl h
  where
    by_slot : (r : Option ℕ) → slot_of ns s ≡ r → unless (is_some r) (fault at Refusal.UnboundName) ≡ [] → nat_lt (unwrap_or r 0) (length ns) ≡ true
    by_slot None e k = absurd cc
    by_slot (Some i) e k = lt-ltb i (length ns) (slot_there ns s i e)
use_below ns (misshapen at) h = absurd cc

-- a term without faults
pub term_below : (ns : Names) (u : TermForm) → term_faults ns u ≡ [] → all_below (length ns) (template_in ns u) ≡ true
term_below ns (Tree.leaf u) h = use_below ns u (none_parts (use_faults ns u) [] h).0
term_below ns (Tree.sym s) h = refl
term_below ns (Tree.str s) h = refl
term_below ns (Tree.num n) h = refl
term_below ns (Tree.truth b) h = refl
term_below ns Tree.nil h = refl
term_below ns (Tree.pair u v) h =
    let both = none_parts (term_faults ns u) (term_faults ns v) (sym (flat_map-append (use_faults ns) (leaves u) (leaves v)) ∙ h) in
    and_from (all_below (length ns) (template_in ns u)) (all_below (length ns) (template_in ns v)) (term_below ns u both.0) (term_below ns v both.1)

-- terms in a row
pub terms_below : (ns : Names) (us : List TermForm) → flat_map (term_faults ns) us ≡ [] → list_all (all_below (length ns)) (map (template_in ns) us) ≡ true
terms_below ns [] h = refl
terms_below ns (u ∷ us) h =
    let both = none_parts (term_faults ns u) (flat_map (term_faults ns) us) h in
    and_from (all_below (length ns) (template_in ns u)) (list_all (all_below (length ns)) (map (template_in ns) us)) (term_below ns u both.0) (terms_below ns us both.1)

-- two terms
two_below : (ns : Names) (u v : TermForm) → term_faults ns u ++ term_faults ns v ≡ [] →
    (all_below (length ns) (template_in ns u) && all_below (length ns) (template_in ns v)) ≡ true
two_below ns u v h =
    let both = none_parts (term_faults ns u) (term_faults ns v) h in
    and_from (all_below (length ns) (template_in ns u)) (all_below (length ns) (template_in ns v)) (term_below ns u both.0) (term_below ns v both.1)

-- goals that are joined are in scope where each is
pub conjunction_in_scope : (n : ℕ) (gs : List Goal) → list_all (in_scope n) gs ≡ true → in_scope n (conjunction gs) ≡ true
conjunction_in_scope n [] h = refl
conjunction_in_scope n (g ∷ []) h = (and_parts (in_scope n g) true h).0
conjunction_in_scope n (g ∷ i ∷ gs) h =
    let both = and_parts (in_scope n g) (list_all (in_scope n) (i ∷ gs)) h in
    and_from (in_scope n g) (in_scope n (conjunction (i ∷ gs))) both.0 (conjunction_in_scope n (i ∷ gs) both.1)

disjunction_in_scope : (n : ℕ) (gs : List Goal) → list_all (in_scope n) gs ≡ true → in_scope n (disjunction gs) ≡ true
disjunction_in_scope n [] h = refl
disjunction_in_scope n (g ∷ []) h = (and_parts (in_scope n g) true h).0
disjunction_in_scope n (g ∷ i ∷ gs) h =
    let both = and_parts (in_scope n g) (list_all (in_scope n) (i ∷ gs)) h in
    and_from (in_scope n g) (in_scope n (disjunction (i ∷ gs))) both.0 (disjunction_in_scope n (i ∷ gs) both.1)

-- the slots of names and those of a binder behind them
pub within_length : (ns : Names) (names : List ℕ) → length (within ns names) ≡ length ns + length names
within_length ns names = length-append ns (map (λ s. Some s) names) ∙ ap (λ n. length ns + n) (length-map names (λ s. Some s))

-- a goal that suspends is in scope where it is
pub suspended_in_scope : (dialect : Dialect) (n : ℕ) (g : Goal) → in_scope n g ≡ true → in_scope n (suspended_in dialect g) ≡ true
suspended_in_scope Book n g h = h
suspended_in_scope All n g h = h

-- goals without faults
mutual
  pub goal_below : (dialect : Dialect) (ds : List Defined) (ns : Names) (g : GoalForm) → goal_faults ds ns g ≡ [] → in_scope (length ns) (goal_in dialect ds ns g) ≡ true
  goal_below dialect ds ns GoalForm.succeed h = refl
  goal_below dialect ds ns GoalForm.fail h = refl
  goal_below dialect ds ns (GoalForm.same u v) h = two_below ns u v h
  goal_below dialect ds ns (GoalForm.differ u v) h = two_below ns u v h
  goal_below dialect ds ns (GoalForm.symbol u) h = term_below ns u h
  goal_below dialect ds ns (GoalForm.number u) h = term_below ns u h
  goal_below dialect ds ns (GoalForm.text u) h = term_below ns u h
  goal_below dialect ds ns (GoalForm.absent tag u) h = term_below ns u (none_parts tag.faults (term_faults ns u) h).1
  goal_below dialect ds ns (GoalForm.fresh b gs) h =
      let bound = within ns b.value in
      let goals = goals_in dialect ds bound gs in
      let inner = conjunction_in_scope (length bound) goals (goals_below dialect ds bound gs (none_parts b.faults (goals_faults ds bound gs) h).1) in
      suspended_in_scope dialect (length ns) (Goal.fresh (length b.value) (conjunction goals)) (ap (λ n. in_scope n (conjunction goals)) (sym (within_length ns b.value)) ∙ inner)
  goal_below dialect ds ns (GoalForm.all_of gs) h = conjunction_in_scope (length ns) (goals_in dialect ds ns gs) (goals_below dialect ds ns gs h)
  goal_below dialect ds ns (GoalForm.one_of gs) h = disjunction_in_scope (length ns) (goals_in dialect ds ns gs) (goals_below dialect ds ns gs h)
  goal_below dialect ds ns (GoalForm.clauses gs) h =
      suspended_in_scope dialect (length ns) (disjunction (goals_in dialect ds ns gs)) (disjunction_in_scope (length ns) (goals_in dialect ds ns gs) (goals_below dialect ds ns gs h))
  goal_below dialect ds ns (GoalForm.call at s args) h = terms_below ns args (none_parts (call_faults (arity ds s) at (length args)) (flat_map (term_faults ns) args) h).1
  goal_below dialect ds ns (GoalForm.misshapen at) h = absurd cc

  pub goals_below : (dialect : Dialect) (ds : List Defined) (ns : Names) (gs : GoalForms) → goals_faults ds ns gs ≡ [] → list_all (in_scope (length ns)) (goals_in dialect ds ns gs) ≡ true
  goals_below dialect ds ns none h = refl
  goals_below dialect ds ns (more g gs) h =
      let both = none_parts (goal_faults ds ns g) (goals_faults ds ns gs) h in
      and_from (in_scope (length ns) (goal_in dialect ds ns g)) (list_all (in_scope (length ns)) (goals_in dialect ds ns gs)) (goal_below dialect ds ns g both.0) (goals_below dialect ds ns gs both.1)
