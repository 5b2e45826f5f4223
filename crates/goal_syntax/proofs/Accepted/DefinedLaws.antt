-- Forms without faults give the relations that they define, with as many arguments.
use Rattle.std.proofs.Common.{◌≡◌, ℕ, suc, List, [], ◌∷◌, ◌++◌, map, length, refl, sym, ◌∙◌, ap, ap₂}
use Rattle.std.specs.Prelude.{Bool, true, false, ◌&&◌, Option, Some, None, is_some, option_map, if◌then◌else◌}
use Rattle.std.proofs.lemmas.List.{map-append}
use Rattle.kan_refusals.specs.declared.refusals.Refusal.{Refusal}
use Rattle.kan_terms.specs.Table.{Table}
use Rattle.kan_grammar.specs.declared.dialect.Dialect.{Dialect}
use Rattle.kan_grammar.specs.Data.Faults.{fault}
use Rattle.kan_grammar.specs.Texts.Sited.{Sited, elements, is_proper}
use Rattle.kan_model.specs.Programs.Goals.{Relation}
use Rattle.kan_grammar.specs.Texts.Language.{Word, word, head_word, is_other}
use Rattle.kan_grammar.specs.Texts.Binders.{Checked, bound_names, names_faults, binder_faults}
use Rattle.kan_grammar.specs.Texts.GoalForms.{goal_forms}
use Rattle.kan_grammar.specs.Texts.TopForms.{name_at, Form, relation, misshapen, unknown, head_name, head, no_limit, limit, relation_form, run_form, limited_form, form, Defined, definitions_of_head, definitions_of, definitions}
use Rattle.kan_grammar.specs.Texts.Resolved.{arity, within}
use Rattle.kan_grammar.specs.Texts.ProgramText.{relations_in, relations_of}
use Rattle.kan_grammar.specs.Texts.TextFaults.{unless, is_new, again_faults, goals_faults, form_faults, forms_faults}
use Rattle.goal_syntax.proofs.Accepted.InScopeLaws.{none_parts}

-- how many arguments relations take, and those that are defined
abbrev pub relation_params : List Relation → List ℕ
relation_params rs = map (λ r. r.params) rs

abbrev pub defined_params : List Defined → List ℕ
defined_params ds = map (λ d. d.params) ds

-- a proper list of names without faults has as many elements as names
bound_count : (t : Table) (before : List ℕ) (d : Sited) (es : List Sited) → names_faults t before d ≡ [] → elements d ≡ Some es → length (bound_names d) ≡ length es
bound_count t before (Sited.nil at) es h e = let same : [] ≡ es = cc in ap length same
bound_count t before (Sited.name at s) es h e = absurd cc
bound_count t before (Sited.text at n) es h e = absurd cc
bound_count t before (Sited.num at n) es h e = absurd cc
bound_count t before (Sited.bool at b) es h e = absurd cc
bound_count t before (Sited.pair at (Sited.text a n) d) es h e = absurd cc
bound_count t before (Sited.pair at (Sited.num a n) d) es h e = absurd cc
bound_count t before (Sited.pair at (Sited.bool a b) d) es h e = absurd cc
bound_count t before (Sited.pair at (Sited.nil a) d) es h e = absurd cc
bound_count t before (Sited.pair at (Sited.pair a b c) d) es h e = absurd cc
bound_count t before (Sited.pair at (Sited.name a s) d) es h e =
    by_rest (elements d) refl (λ rest is. bound_count t (before ++ s ∷ []) d rest (none_parts (binder_faults t before (Sited.name a s)) (names_faults t (before ++ s ∷ []) d) h).1 is) e
  where
    by_rest : (r : Option (List Sited)) → elements d ≡ r → ((rest : List Sited) → elements d ≡ Some rest → length (bound_names d) ≡ length rest) → option_map (λ rest. Sited.name a s ∷ rest) r ≡ Some es → suc (length (bound_names d)) ≡ length es
    by_rest None is later i = absurd cc
    by_rest (Some rest) is later i = let same : Sited.name a s ∷ rest ≡ es = cc in ap (λ n. suc n) (later rest is) ∙ ap length same

-- a head that is no proper list
abbrev no_head : ℕ → Checked (List ℕ)
no_head at = record { value = []; faults = fault at Refusal.BadShape ∷ [] }

-- a head whose name is no symbol
abbrev nameless_head : ℕ → Table → Sited → Checked (List ℕ)
nameless_head at t params = record { value = bound_names params; faults = fault at Refusal.BadShape ∷ [] ++ names_faults t [] params }

-- a head whose name is a symbol
abbrev named_head : Table → Sited → Checked (List ℕ)
named_head t params = record { value = bound_names params; faults = [] ++ names_faults t [] params }

-- such heads have faults
bad_head : (b : Bool) (at start : ℕ) (t : Table) (params : Sited) → (if b then nameless_head at t params else no_head start).faults ≡ [] → ⊥
bad_head true at start t params h = absurd cc
bad_head false at start t params h = absurd cc

-- a head without faults defines one relation
head_defines : (t : Table) (before : List Defined) (hd : Sited) → again_faults t before (head_name hd) ≡ [] → (head t hd).faults ≡ [] →
    defined_params (definitions_of_head t (elements hd)) ≡ length (head t hd).value ∷ []
head_defines t before (Sited.name at s) h k = absurd cc
head_defines t before (Sited.text at n) h k = absurd cc
head_defines t before (Sited.num at n) h k = absurd cc
head_defines t before (Sited.bool at b) h k = absurd cc
head_defines t before (Sited.nil at) h k = absurd cc
head_defines t before (Sited.pair at (Sited.text a n) params) h k = absurd (bad_head (is_proper params) a at t params k)
head_defines t before (Sited.pair at (Sited.num a n) params) h k = absurd (bad_head (is_proper params) a at t params k)
head_defines t before (Sited.pair at (Sited.bool a n) params) h k = absurd (bad_head (is_proper params) a at t params k)
head_defines t before (Sited.pair at (Sited.nil a) params) h k = absurd (bad_head (is_proper params) a at t params k)
head_defines t before (Sited.pair at (Sited.pair a b c) params) h k = absurd (bad_head (is_proper params) a at t params k)
head_defines t before (Sited.pair at (Sited.name a s) params) h k = by_params (elements params) refl h k
  where
    by_word : (w : Word) (new : Bool) (es : List Sited) → length (bound_names params) ≡ length es → unless (is_other w && new) (fault a Refusal.DefinedTwice) ≡ [] →
        defined_params (if is_other w then record { name = s; params = length es } ∷ [] else []) ≡ length (bound_names params) ∷ []
    by_word w new es same e = by_other (is_other w) e
      where
        by_other : (b : Bool) → unless (b && new) (fault a Refusal.DefinedTwice) ≡ [] → defined_params (if b then record { name = s; params = length es } ∷ [] else []) ≡ length (bound_names params) ∷ []
        by_other true f = ap (λ n. n ∷ []) (sym same)
        by_other false f = absurd cc

    by_params : (r : Option (List Sited)) → elements params ≡ r → again_faults t before (if is_some r then Some (name_at a s) else None) ≡ [] →
        (if is_some r then named_head t params else no_head at).faults ≡ [] →
        defined_params (definitions_of_head t (option_map (λ rest. Sited.name a s ∷ rest) r))
        ≡ length (if is_some r then named_head t params else no_head at).value ∷ []
    by_params None e f g = absurd cc
    by_params (Some es) e f g = by_word (word t s) (is_new (arity before s)) es (bound_count t [] params es g e) f

-- of two forms that define no relation neither does the one that is taken
neither : (dialect : Dialect) (rs : List Defined) (b : Bool) (f g : Form) → relations_in dialect rs f ≡ [] → relations_in dialect rs g ≡ [] → relations_in dialect rs (if b then f else g) ≡ []
neither dialect rs true f g h k = h
neither dialect rs false f g h k = k

-- runs define no relation
run_defines : (dialect : Dialect) (rs : List Defined) (t : Table) (at : ℕ) (l : Checked (Option ℕ)) (parts : Sited) → relations_in dialect rs (run_form t at l parts) ≡ []
run_defines dialect rs t at l (Sited.name a s) = refl
run_defines dialect rs t at l (Sited.text a n) = refl
run_defines dialect rs t at l (Sited.num a n) = refl
run_defines dialect rs t at l (Sited.bool a b) = refl
run_defines dialect rs t at l (Sited.nil a) = refl
run_defines dialect rs t at l (Sited.pair a (Sited.name q s) goals) = neither dialect rs (is_proper goals) _ _ refl refl
run_defines dialect rs t at l (Sited.pair a (Sited.text q n) goals) = neither dialect rs (is_proper goals) _ _ refl refl
run_defines dialect rs t at l (Sited.pair a (Sited.num q n) goals) = neither dialect rs (is_proper goals) _ _ refl refl
run_defines dialect rs t at l (Sited.pair a (Sited.bool q b) goals) = neither dialect rs (is_proper goals) _ _ refl refl
run_defines dialect rs t at l (Sited.pair a (Sited.nil q) goals) = neither dialect rs (is_proper goals) _ _ refl refl
run_defines dialect rs t at l (Sited.pair a (Sited.pair q b c) goals) = neither dialect rs (is_proper goals) _ _ refl refl

limited_defines : (dialect : Dialect) (rs : List Defined) (t : Table) (at : ℕ) (parts : Sited) → relations_in dialect rs (limited_form t at parts) ≡ []
limited_defines dialect rs t at (Sited.name a s) = refl
limited_defines dialect rs t at (Sited.text a n) = refl
limited_defines dialect rs t at (Sited.num a n) = refl
limited_defines dialect rs t at (Sited.bool a b) = refl
limited_defines dialect rs t at (Sited.nil a) = refl
limited_defines dialect rs t at (Sited.pair a l parts) = run_defines dialect rs t at (limit l) parts

-- a form behind a word
abbrev pub form_of_word : Table → ℕ → Sited → Word → Form
form_of_word t at parts w = elim w [ Word.defrel ↦ relation_form t at parts | Word.run ↦ limited_form t at parts | Word.run_all ↦ run_form t at no_limit parts | _ ↦ unknown at ]

-- a form whose parts define no relation behind defrel
word_defines : (dialect : Dialect) (rs : List Defined) (t : Table) (at : ℕ) (parts : Sited) (w : Word) → relations_in dialect rs (relation_form t at parts) ≡ [] → relations_in dialect rs (form_of_word t at parts w) ≡ []
word_defines dialect rs t at parts Word.defrel h = h
word_defines dialect rs t at parts Word.run h = limited_defines dialect rs t at parts
word_defines dialect rs t at parts Word.run_all h = run_defines dialect rs t at no_limit parts
word_defines dialect rs t at parts w h = refl

-- a form without faults gives the relation that it defines
pub form_defines : (dialect : Dialect) (t : Table) (ds before rs : List Defined) (d : Sited) → form_faults t ds before (form t d) ≡ [] → relation_params (relations_in dialect rs (form t d)) ≡ defined_params (definitions_of t d)
form_defines dialect t ds before rs (Sited.name at s) h = refl
form_defines dialect t ds before rs (Sited.text at n) h = refl
form_defines dialect t ds before rs (Sited.num at n) h = refl
form_defines dialect t ds before rs (Sited.bool at b) h = refl
form_defines dialect t ds before rs (Sited.nil at) h = refl
form_defines dialect t ds before rs (Sited.pair at w (Sited.name a s)) h = ap relation_params (word_defines dialect rs t at (Sited.name a s) (head_word t w) refl)
form_defines dialect t ds before rs (Sited.pair at w (Sited.text a n)) h = ap relation_params (word_defines dialect rs t at (Sited.text a n) (head_word t w) refl)
form_defines dialect t ds before rs (Sited.pair at w (Sited.num a n)) h = ap relation_params (word_defines dialect rs t at (Sited.num a n) (head_word t w) refl)
form_defines dialect t ds before rs (Sited.pair at w (Sited.bool a b)) h = ap relation_params (word_defines dialect rs t at (Sited.bool a b) (head_word t w) refl)
form_defines dialect t ds before rs (Sited.pair at w (Sited.nil a)) h = ap relation_params (word_defines dialect rs t at (Sited.nil a) (head_word t w) refl)
form_defines dialect t ds before rs (Sited.pair at w (Sited.pair a hd goals)) h = by_word (head_word t w) h
  where
    by_goals : (b : Bool) → form_faults t ds before (if b then relation (head_name hd) (head t hd) (goal_forms t goals) else misshapen at) ≡ [] →
        relation_params (relations_in dialect rs (if b then relation (head_name hd) (head t hd) (goal_forms t goals) else misshapen at)) ≡ defined_params (definitions_of_head t (elements hd))
    by_goals false e = absurd cc
    by_goals true e =
        let front = none_parts (again_faults t before (head_name hd) ++ (head t hd).faults) (goals_faults ds (within [] (head t hd).value) (goal_forms t goals)) e in
        let both = none_parts (again_faults t before (head_name hd)) (head t hd).faults front.0 in
        sym (head_defines t before hd both.0 both.1)

    by_word : (v : Word) → form_faults t ds before (form_of_word t at (Sited.pair a hd goals) v) ≡ [] →
        relation_params (relations_in dialect rs (form_of_word t at (Sited.pair a hd goals) v)) ≡ defined_params (elim v as (λ x. List Defined) [ Word.defrel ↦ definitions_of_head t (elements hd) | _ ↦ [] ])
    by_word Word.defrel e = by_goals (is_proper goals) e
    by_word Word.run e = ap relation_params (run_defines dialect rs t at (limit hd) goals)
    by_word Word.run_all e = ap relation_params (run_defines dialect rs t at no_limit (Sited.pair a hd goals))
    by_word v e = refl

-- so do forms in a row
pub forms_define : (dialect : Dialect) (t : Table) (ds before rs : List Defined) (forms : List Sited) → forms_faults t ds before forms ≡ [] → relation_params (relations_of dialect t rs forms) ≡ defined_params (definitions t forms)
forms_define dialect t ds before rs [] h = refl
forms_define dialect t ds before rs (d ∷ later) h =
    let both = none_parts (form_faults t ds before (form t d)) (forms_faults t ds (before ++ definitions_of t d) later) h in
    map-append (λ r. r.params) (relations_in dialect rs (form t d)) (relations_of dialect t rs later)
    ∙ ap₂ (λ l m. l ++ m) (form_defines dialect t ds before rs d both.0) (forms_define dialect t ds (before ++ definitions_of t d) rs later both.1)
    ∙ sym (map-append (λ e. e.params) (definitions_of t d) (definitions t later))
