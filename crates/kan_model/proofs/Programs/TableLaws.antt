-- Tables that grow: an entry more changes nothing that stood before it.
use Rattle.std.proofs.Common.{◌≡◌, ℕ, suc, ◌+◌, ◌<◌, ◌≤◌, Bool, true, List, [], ◌∷◌, ◌++◌, length, map, take, drop, zero, ◌-◌, add-zero, zero-add, length-drop, refl, sym, ◌∙◌, ap, ap₂, arith, ltb-true, lt-ltb}
use Rattle.std.specs.Prelude.{◌&&◌, nat_lt, nat_le}
use Rattle.std.specs.List.{list_all}
use Rattle.std.proofs.lemmas.Bool.{and_from, and_parts, leb-true, le-leb}
use Rattle.std.proofs.lemmas.List.{length-append, take-append-le, drop-append-le}
use Rattle.std.proofs.lemmas.List.Folds.{list_all-append}
use Rattle.std.proofs.lemmas.Option.{unwrap_or-slice_get}
use Rattle.std.proofs.Math.ListN.{get_or-append}
use Rattle.kan_terms.specs.Tree.{Tree}
use Rattle.kan_model.specs.Programs.Goals.{Template, Goal, Primitive}
use Rattle.kan_model.specs.Programs.Tables.{TermEntry, GoalEntry, RelationEntry, Tables, template_at, template_of, templates_after, templates_of, goal_of, goals_after, goals_of, arguments_at, is_term_grown, terms_grown, is_goal_grown, goals_grown, is_grown, with_term, with_argument, with_goal}

-- the templates of a table with one entry more
pub templates-more : (ts : List Template) (es : List TermEntry) (e : TermEntry) →
    templates_after ts (es ++ e ∷ []) ≡ templates_after ts es ++ template_of (templates_after ts es) e ∷ []
templates-more ts [] e = refl
templates-more ts (d ∷ es) e = templates-more (ts ++ template_of ts d ∷ []) es e

-- the goals of a table with one entry more
pub goals-more : (ts : List Template) (args : List ℕ) (gs : List Goal) (es : List GoalEntry) (e : GoalEntry) →
    goals_after ts args gs (es ++ e ∷ []) ≡ goals_after ts args gs es ++ goal_of ts args (goals_after ts args gs es) e ∷ []
goals-more ts args gs [] e = refl
goals-more ts args gs (d ∷ es) e = goals-more ts args (gs ++ goal_of ts args gs d ∷ []) es e

-- a table has as many templates as entries
pub templates-length : (ts : List Template) (es : List TermEntry) → length (templates_after ts es) ≡ length ts + length es
templates-length ts [] = omega arith
templates-length ts (e ∷ es) =
    let rest = templates-length (ts ++ template_of ts e ∷ []) es in let one = length-append ts (template_of ts e ∷ []) in rest ∙ omega (arith, one)

pub goals-length : (ts : List Template) (args : List ℕ) (gs : List Goal) (es : List GoalEntry) → length (goals_after ts args gs es) ≡ length gs + length es
goals-length ts args gs [] = omega arith
goals-length ts args gs (e ∷ es) =
    let rest = goals-length ts args (gs ++ goal_of ts args gs e ∷ []) es in let one = length-append gs (goal_of ts args gs e ∷ []) in rest ∙ omega (arith, one)

-- the trees before the last one
pub template_at-more : (ts : List Template) (t : Template) (i : ℕ) → i < length ts → template_at (ts ++ t ∷ []) i ≡ template_at ts i
template_at-more ts t i within =
    unwrap_or-slice_get (ts ++ t ∷ []) i Tree.nil ∙ get_or-append ts (t ∷ []) Tree.nil i within ∙ sym (unwrap_or-slice_get ts i Tree.nil)

-- templates by number, where the numbers are there
pub picked-more : (ts : List Template) (t : Template) (is : List ℕ) → list_all (λ i. nat_lt i (length ts)) is ≡ true →
    map (template_at (ts ++ t ∷ [])) is ≡ map (template_at ts) is
picked-more ts t [] h = refl
picked-more ts t (i ∷ is) h =
    let (first, rest) = and_parts (nat_lt i (length ts)) (list_all (λ j. nat_lt j (length ts)) is) h in
    ap₂ (λ x xs. x ∷ xs) (template_at-more ts t i (ltb-true i (length ts) first)) (picked-more ts t is rest)

all-drop : {X : Type 0} (p : X → Bool) (n : ℕ) (xs : List X) → list_all p xs ≡ true → list_all p (drop n xs) ≡ true
all-drop p zero xs h = h
all-drop p (suc n) [] h = refl
all-drop p (suc n) (x ∷ xs) h = all-drop p n xs (and_parts (p x) (list_all p xs) h).1

all-take : {X : Type 0} (p : X → Bool) (n : ℕ) (xs : List X) → list_all p xs ≡ true → list_all p (take n xs) ≡ true
all-take p zero xs h = refl
all-take p (suc n) [] h = refl
all-take p (suc n) (x ∷ xs) h = let (first, rest) = and_parts (p x) (list_all p xs) h in and_from (p x) (list_all p (take n xs)) first (all-take p n xs rest)

-- a test that holds of numbers holds of others where it follows
all-like : (p q : ℕ → Bool) → ((n : ℕ) → p n ≡ true → q n ≡ true) → (xs : List ℕ) → list_all p xs ≡ true → list_all q xs ≡ true
all-like p q f [] h = refl
all-like p q f (x ∷ xs) h = let (first, rest) = and_parts (p x) (list_all p xs) h in and_from (q x) (list_all q xs) (f x first) (all-like p q f xs rest)

pub ltb-le : (i n m : ℕ) → n ≤ m → nat_lt i n ≡ true → nat_lt i m ≡ true
ltb-le i n m more h = let below = ltb-true i n h in lt-ltb i m (omega (arith, below, more))

leb-le : (i n m : ℕ) → n ≤ m → nat_le i n ≡ true → nat_le i m ≡ true
leb-le i n m more h = let below = leb-true i n h in le-leb i m (omega (arith, below, more))

-- two lists of templates and of arguments say the same as far as tables go
pub record SaysTheSame (tables : Tables) (ts us : List Template) (args brgs : List ℕ) : Type 0 where
  pub terms : (i : ℕ) → i < length tables.terms → template_at us i ≡ template_at ts i
  pub lists : (at k : ℕ) → at + k ≤ length tables.arguments → arguments_at us brgs at k ≡ arguments_at ts args at k

-- then a goal's entry stands for the same goal in both
pub goal-same : (tables : Tables) (ts us : List Template) (args brgs : List ℕ) → SaysTheSame tables ts us args brgs →
    (n : ℕ) (gs : List Goal) (e : GoalEntry) → is_goal_grown tables n e ≡ true → goal_of us brgs gs e ≡ goal_of ts args gs e
goal-same tables ts us args brgs same n gs GoalEntry.succeed h = refl
goal-same tables ts us args brgs same n gs GoalEntry.fail h = refl
goal-same tables ts us args brgs same n gs (GoalEntry.same a b) h =
    let (left, right) = and_parts (nat_lt a (length tables.terms)) (nat_lt b (length tables.terms)) h in
    ap₂ (λ x y. Goal.prim (Primitive.same x y)) (same.terms a (ltb-true a _ left)) (same.terms b (ltb-true b _ right))
goal-same tables ts us args brgs same n gs (GoalEntry.differ a b) h =
    let (left, right) = and_parts (nat_lt a (length tables.terms)) (nat_lt b (length tables.terms)) h in
    ap₂ (λ x y. Goal.prim (Primitive.differ x y)) (same.terms a (ltb-true a _ left)) (same.terms b (ltb-true b _ right))
goal-same tables ts us args brgs same n gs (GoalEntry.symbol a) h = ap (λ x. Goal.prim (Primitive.symbol x)) (same.terms a (ltb-true a _ h))
goal-same tables ts us args brgs same n gs (GoalEntry.number a) h = ap (λ x. Goal.prim (Primitive.number x)) (same.terms a (ltb-true a _ h))
goal-same tables ts us args brgs same n gs (GoalEntry.text a) h = ap (λ x. Goal.prim (Primitive.text x)) (same.terms a (ltb-true a _ h))
goal-same tables ts us args brgs same n gs (GoalEntry.absent tag a) h = ap (λ x. Goal.prim (Primitive.absent tag x)) (same.terms a (ltb-true a _ h))
goal-same tables ts us args brgs same n gs (GoalEntry.both g i) h = refl
goal-same tables ts us args brgs same n gs (GoalEntry.either g i) h = refl
goal-same tables ts us args brgs same n gs (GoalEntry.fresh k g) h = refl
goal-same tables ts us args brgs same n gs (GoalEntry.later g) h = refl
goal-same tables ts us args brgs same n gs (GoalEntry.call r at k) h = ap (Goal.call r) (same.lists at k (leb-true (at + k) _ h))

pub goals-same : (tables : Tables) (ts us : List Template) (args brgs : List ℕ) → SaysTheSame tables ts us args brgs →
    (n : ℕ) (gs : List Goal) (es : List GoalEntry) → goals_grown tables n es ≡ true → goals_after us brgs gs es ≡ goals_after ts args gs es
goals-same tables ts us args brgs same n gs [] h = refl
goals-same tables ts us args brgs same n gs (e ∷ es) h =
    let (first, rest) = and_parts (is_goal_grown tables n e) (goals_grown tables (suc n) es) h in
    ap (λ g. goals_after us brgs (gs ++ g ∷ []) es) (goal-same tables ts us args brgs same n gs e first)
    ∙ goals-same tables ts us args brgs same (suc n) (gs ++ goal_of ts args gs e ∷ []) es rest

-- the four facts of tables that are grown
pub record Grown (tables : Tables) : Type 0 where
  pub terms : terms_grown 0 tables.terms ≡ true
  pub arguments : list_all (λ t. nat_lt t (length tables.terms)) tables.arguments ≡ true
  pub goals : goals_grown tables 0 tables.goals ≡ true
  pub relations : list_all (λ r. nat_lt r.body (length tables.goals)) tables.relations ≡ true

pub grown-parts : (tables : Tables) → is_grown tables ≡ true → Grown tables
grown-parts tables h =
    let rs = list_all (λ r. nat_lt r.body (length tables.goals)) tables.relations in
    let gs = goals_grown tables 0 tables.goals in
    let as' = list_all (λ t. nat_lt t (length tables.terms)) tables.arguments in
    let ts = terms_grown 0 tables.terms in
    let (three, four) = and_parts (ts && as' && gs) rs h in
    let (two, third) = and_parts (ts && as') gs three in
    let (one, second) = and_parts ts as' two in
    record { terms = one; arguments = second; goals = third; relations = four }

pub grown-from : (tables : Tables) → Grown tables → is_grown tables ≡ true
grown-from tables h =
    and_from _ _ (and_from _ _ (and_from _ _ h.terms h.arguments) h.goals) h.relations

-- arguments in a longer table of them
pub arguments-longer : (ts : List Template) (args : List ℕ) (a at k : ℕ) → at + k ≤ length args → arguments_at ts (args ++ a ∷ []) at k ≡ arguments_at ts args at k
arguments-longer ts args a at k within =
    let inside : at ≤ length args = omega (arith, within) in
    let left : length (drop at args) ≡ length args - at = length-drop at args in
    let room : k ≤ length (drop at args) = omega (arith, within, left) in
    ap (λ xs. map (template_at ts) (take k xs)) (drop-append-le at args (a ∷ []) inside) ∙ ap (map (template_at ts)) (take-append-le k (drop at args) (a ∷ []) room)

-- one template more
pub term-same : (tables : Tables) (e : TermEntry) → Grown tables →
    SaysTheSame tables (templates_of tables.terms) (templates_of (tables.terms ++ e ∷ [])) tables.arguments tables.arguments
term-same tables e grown =
    let ts = templates_of tables.terms in
    let long : length ts ≡ length tables.terms = templates-length [] tables.terms ∙ zero-add (length tables.terms) in
    record {
      terms = λ i within. ap (λ us. template_at us i) (templates-more [] tables.terms e) ∙ template_at-more ts (template_of ts e) i (rw long within);
      lists = λ at k within.
          ap (λ us. arguments_at us tables.arguments at k) (templates-more [] tables.terms e)
          ∙ picked-more ts (template_of ts e) (take k (drop at tables.arguments))
          (all-take (λ i. nat_lt i (length ts)) k (drop at tables.arguments) (all-drop (λ i. nat_lt i (length ts)) at tables.arguments (rw long grown.arguments)));
    }

pub goals-with_term : (tables : Tables) (e : TermEntry) → is_grown tables ≡ true → goals_of (with_term tables e) ≡ goals_of tables
goals-with_term tables e h =
    let grown = grown-parts tables h in goals-same tables _ _ _ _ (term-same tables e grown) 0 [] tables.goals grown.goals

-- one argument more
pub goals-with_argument : (tables : Tables) (a : ℕ) → is_grown tables ≡ true → goals_of (with_argument tables a) ≡ goals_of tables
goals-with_argument tables a h =
    let grown = grown-parts tables h in
    goals-same tables (templates_of tables.terms) (templates_of tables.terms) tables.arguments (tables.arguments ++ a ∷ [])
    (record { terms = λ i within. refl; lists = λ at k within. arguments-longer (templates_of tables.terms) tables.arguments a at k within }) 0 [] tables.goals grown.goals

-- longer tables let an entry name what it named
pub goal_grown-more : (tables more : Tables) (n : ℕ) (e : GoalEntry) → length tables.terms ≤ length more.terms → length tables.arguments ≤ length more.arguments →
    is_goal_grown tables n e ≡ true → is_goal_grown more n e ≡ true
goal_grown-more tables more n GoalEntry.succeed ts as' h = refl
goal_grown-more tables more n GoalEntry.fail ts as' h = refl
goal_grown-more tables more n (GoalEntry.same a b) ts as' h =
    let (left, right) = and_parts (nat_lt a (length tables.terms)) (nat_lt b (length tables.terms)) h in and_from _ _ (ltb-le a _ _ ts left) (ltb-le b _ _ ts right)
goal_grown-more tables more n (GoalEntry.differ a b) ts as' h =
    let (left, right) = and_parts (nat_lt a (length tables.terms)) (nat_lt b (length tables.terms)) h in and_from _ _ (ltb-le a _ _ ts left) (ltb-le b _ _ ts right)
goal_grown-more tables more n (GoalEntry.symbol a) ts as' h = ltb-le a _ _ ts h
goal_grown-more tables more n (GoalEntry.number a) ts as' h = ltb-le a _ _ ts h
goal_grown-more tables more n (GoalEntry.text a) ts as' h = ltb-le a _ _ ts h
goal_grown-more tables more n (GoalEntry.absent tag a) ts as' h = ltb-le a _ _ ts h
goal_grown-more tables more n (GoalEntry.both g i) ts as' h = h
goal_grown-more tables more n (GoalEntry.either g i) ts as' h = h
goal_grown-more tables more n (GoalEntry.fresh k g) ts as' h = h
goal_grown-more tables more n (GoalEntry.later g) ts as' h = h
goal_grown-more tables more n (GoalEntry.call r at k) ts as' h = leb-le (at + k) _ _ as' h

pub goals_grown-more : (tables more : Tables) (n : ℕ) (es : List GoalEntry) → length tables.terms ≤ length more.terms → length tables.arguments ≤ length more.arguments →
    goals_grown tables n es ≡ true → goals_grown more n es ≡ true
goals_grown-more tables more n [] ts as' h = refl
goals_grown-more tables more n (e ∷ es) ts as' h =
    let (first, rest) = and_parts (is_goal_grown tables n e) (goals_grown tables (suc n) es) h in
    and_from _ _ (goal_grown-more tables more n e ts as' first) (goals_grown-more tables more (suc n) es ts as' rest)

-- an entry more at the end
pub terms_grown-last : (n : ℕ) (es : List TermEntry) (e : TermEntry) → terms_grown n es ≡ true → is_term_grown (n + length es) e ≡ true → terms_grown n (es ++ e ∷ []) ≡ true
terms_grown-last n [] e h last = and_from _ _ (rw (← add-zero n) last) refl
terms_grown-last n (d ∷ es) e h last =
    let (first, rest) = and_parts (is_term_grown n d) (terms_grown (suc n) es) h in
    let moved : suc n + length es ≡ n + length (d ∷ es) = omega arith in
    and_from _ _ first (terms_grown-last (suc n) es e rest (rw moved last))

pub goals_grown-last : (tables : Tables) (n : ℕ) (es : List GoalEntry) (e : GoalEntry) → goals_grown tables n es ≡ true → is_goal_grown tables (n + length es) e ≡ true →
    goals_grown tables n (es ++ e ∷ []) ≡ true
goals_grown-last tables n [] e h last = and_from _ _ (rw (← add-zero n) last) refl
goals_grown-last tables n (d ∷ es) e h last =
    let (first, rest) = and_parts (is_goal_grown tables n d) (goals_grown tables (suc n) es) h in
    let moved : suc n + length es ≡ n + length (d ∷ es) = omega arith in
    and_from _ _ first (goals_grown-last tables (suc n) es e rest (rw moved last))

longer : {X : Type 0} (xs : List X) (x : X) → length xs ≤ length (xs ++ x ∷ [])
longer xs x = let one = length-append xs (x ∷ []) in omega (arith, one)

all-below-more : (n m : ℕ) → n ≤ m → (xs : List ℕ) → list_all (λ t. nat_lt t n) xs ≡ true → list_all (λ t. nat_lt t m) xs ≡ true
all-below-more n m more xs h = all-like (λ t. nat_lt t n) (λ t. nat_lt t m) (λ i. ltb-le i n m more) xs h

bodies-more : (n m : ℕ) → n ≤ m → (rs : List RelationEntry) → list_all (λ r. nat_lt r.body n) rs ≡ true → list_all (λ r. nat_lt r.body m) rs ≡ true
bodies-more n m more [] h = refl
bodies-more n m more (r ∷ rs) h =
    let (first, rest) = and_parts (nat_lt r.body n) (list_all (λ q. nat_lt q.body n) rs) h in and_from _ _ (ltb-le r.body n m more first) (bodies-more n m more rs rest)

all-last : {X : Type 0} (p : X → Bool) (xs : List X) (x : X) → list_all p xs ≡ true → p x ≡ true → list_all p (xs ++ x ∷ []) ≡ true
all-last p xs x h last = list_all-append p xs (x ∷ []) ∙ and_from _ _ h (and_from _ _ last refl)

-- tables with one entry more are grown where the entry names what is there
pub grown-with_term : (tables : Tables) (e : TermEntry) → is_grown tables ≡ true → is_term_grown (length tables.terms) e ≡ true → is_grown (with_term tables e) ≡ true
grown-with_term tables e h last =
    let old = grown-parts tables h in
    grown-from (with_term tables e) (record {
      terms = terms_grown-last 0 tables.terms e old.terms (rw (zero-add (length tables.terms)) last);
      arguments = all-below-more _ _ (longer tables.terms e) tables.arguments old.arguments;
      goals = goals_grown-more tables (with_term tables e) 0 tables.goals (longer tables.terms e) (omega arith) old.goals;
      relations = old.relations;
    })

pub grown-with_argument : (tables : Tables) (a : ℕ) → is_grown tables ≡ true → a < length tables.terms → is_grown (with_argument tables a) ≡ true
grown-with_argument tables a h last =
    let old = grown-parts tables h in
    grown-from (with_argument tables a) (record {
      terms = old.terms;
      arguments = all-last (λ t. nat_lt t (length tables.terms)) tables.arguments a old.arguments (lt-ltb a _ last);
      goals = goals_grown-more tables (with_argument tables a) 0 tables.goals (omega arith) (longer tables.arguments a) old.goals;
      relations = old.relations;
    })

pub grown-with_goal : (tables : Tables) (e : GoalEntry) → is_grown tables ≡ true → is_goal_grown tables (length tables.goals) e ≡ true → is_grown (with_goal tables e) ≡ true
grown-with_goal tables e h last =
    let old = grown-parts tables h in
    grown-from (with_goal tables e) (record {
      terms = old.terms;
      arguments = old.arguments;
      goals = goals_grown-more tables (with_goal tables e) 0 (tables.goals ++ e ∷ []) (omega arith) (omega arith) (goals_grown-last tables 0 tables.goals e old.goals (rw (zero-add (length tables.goals)) last));
      relations = bodies-more _ _ (longer tables.goals e) tables.relations old.relations;
    })
