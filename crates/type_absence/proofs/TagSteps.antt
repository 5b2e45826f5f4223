-- The steps of putting tags on the variables of a term.
use Rattle.std.proofs.Common.{◌≡◌, ℕ, ◌<◌, Bool, true, false, ◌||◌, eqb, List, [], ◌∷◌, ◌++◌, sym, ap, subst, refl, ◌∙◌, arith, if◌then◌else◌}
use Rattle.std.specs.Borrow.{Bor}
use Rattle.kan_terms.specs.Tree.{Tree, Tm, occurs, size}
use Rattle.kan_terms.specs.Terms.{tree}
use Rattle.kan_terms.specs.declared.terms.Term.{Term}
use Rattle.kan_terms.proofs.TreeLaws.{size-positive}
use Rattle.unify_core.specs.Walking.{Pairs, walk, full}
use Rattle.unify_core.specs.Cycles.{HasNoCycle}
use Rattle.kan_terms.specs.Waiting.{waiting_trees, parts_of}
use Rattle.unify_core.proofs.GrowthLaws.{ends-unbound}
use Rattle.unify_core.proofs.CycleLaws.{grown}
use Rattle.unify_core.proofs.WalkLaws.{full-walk, walk-end}
use Rattle.unify_core.proofs.Steps.OccursSteps.{stands_in, nodes}
use Rattle.kan_terms.proofs.WaitingLaws.{waiting-push}
use Rattle.type_absence.specs.Tags.{with_tags, has_any}
use Rattle.type_absence.specs.Absent.{TagsOf}
use Rattle.type_absence.specs.Waiting.{names_one, put_on, Tagged}
use Rattle.type_absence.proofs.TagLaws.{with_twice, none_in, any_symbol, any_pair}

-- one of the tags stands in the full value of one of some terms
abbrev pub any_in : Pairs → List ℕ → List Tm → Bool
any_in bound more [] = false
any_in bound more (t ∷ ts) = has_any more (full bound t) || any_in bound more ts

-- tags are put where a test says so
abbrev pub put_where : Bool → List ℕ → List ℕ → List ℕ
put_where c more tags = if c then with_tags more tags else tags

-- what waits leads from the tags that were put to those of the whole term
pub record Leads (bound : Pairs) (more : List ℕ) (old : TagsOf) (whole : Tm) (made : TagsOf) (ts : List Tm) : Type 0 where
  pub any : any_in bound more ts ≡ has_any more whole
  pub put : (v : ℕ) → put_where (stands_in bound v ts) more (made v) ≡ put_where (occurs v whole) more (old v)

or_nothing : (a : Bool) → (a || false) ≡ a
or_nothing true = refl
or_nothing false = refl

or_assoc : (a b c : Bool) → ((a || b) || c) ≡ (a || (b || c))
or_assoc true b c = refl
or_assoc false b c = refl

-- at first the whole term waits
pub leads_first : (bound : Pairs) (more : List ℕ) (old : TagsOf) (t : Tm) → Leads bound more old (full bound t) old (t ∷ [])
leads_first bound more old t = record {
  any = or_nothing (has_any more (full bound t));
  put = λ v. ap (λ c. put_where c more (old v)) (or_nothing (occurs v (full bound t)));
}

module _ (bound : Pairs) (h : HasNoCycle bound) (more : List ℕ) (t : Tm) where
  whole : full bound (walk bound t) ≡ full bound t
  whole = full-walk bound (grown bound h) t

  own : (y : ℕ) → walk bound t ≡ Tree.leaf y → full bound (Tree.leaf y) ≡ Tree.leaf y
  own y same = ends-unbound bound y (walk-end bound (grown bound h) t y same)

  -- one of the tags is what was walked to
  found_by : (w : Tm) → names_one more w ≡ true → has_any more (full bound w) ≡ true
  found_by (Tree.leaf y) e = cc
  found_by (Tree.sym s) e = any_symbol more s ∙ e
  found_by (Tree.str s) e = cc
  found_by (Tree.num n) e = cc
  found_by (Tree.truth b) e = cc
  found_by Tree.nil e = cc
  found_by (Tree.pair a b) e = cc

  pub found_here : names_one more (walk bound t) ≡ true → has_any more (full bound t) ≡ true
  found_here e = ap (has_any more) (sym whole) ∙ found_by (walk bound t) e

  -- else it is looked for in the parts
  any_by : (ts : List Tm) (w : Tm) → ((y : ℕ) → w ≡ Tree.leaf y → full bound (Tree.leaf y) ≡ Tree.leaf y) → names_one more w ≡ false →
      any_in bound more (parts_of w ++ ts) ≡ (has_any more (full bound w) || any_in bound more ts)
  any_by ts (Tree.leaf y) self e = sym (ap (λ c. c || any_in bound more ts) (ap (has_any more) (self y refl) ∙ none_in more (Tree.leaf y) (λ x. refl)))
  any_by ts (Tree.sym s) self e = sym (ap (λ c. c || any_in bound more ts) (any_symbol more s ∙ e))
  any_by ts (Tree.str s) self e = sym (ap (λ c. c || any_in bound more ts) (none_in more (full bound (Tree.str s)) (λ x. refl)))
  any_by ts (Tree.num n) self e = sym (ap (λ c. c || any_in bound more ts) (none_in more (full bound (Tree.num n)) (λ x. refl)))
  any_by ts (Tree.truth b) self e = sym (ap (λ c. c || any_in bound more ts) (none_in more (full bound (Tree.truth b)) (λ x. refl)))
  any_by ts Tree.nil self e = sym (ap (λ c. c || any_in bound more ts) (none_in more (full bound Tree.nil) (λ x. refl)))
  any_by ts (Tree.pair a b) self e =
      sym (ap (λ c. c || any_in bound more ts) (any_pair more (full bound a) (full bound b)) ∙ or_assoc (has_any more (full bound a)) (has_any more (full bound b)) (any_in bound more ts))

  any_kept : (ts : List Tm) → names_one more (walk bound t) ≡ false → any_in bound more (parts_of (walk bound t) ++ ts) ≡ any_in bound more (t ∷ ts)
  any_kept ts e = any_by ts (walk bound t) own e ∙ ap (λ u. has_any more u || any_in bound more ts) whole

  -- a variable that was walked to has the tags then, and all others wait for theirs
  leaf_put : (ts : List Tm) (made : TagsOf) (y v : ℕ) (c d : Bool) → put_where d more (put_where c more (made v)) ≡ put_where (c || d) more (made v)
  leaf_put ts made y v true true = with_twice more (made v)
  leaf_put ts made y v true false = refl
  leaf_put ts made y v false d = refl

  put_by : (ts : List Tm) (made : TagsOf) (v : ℕ) (w : Tm) → ((y : ℕ) → w ≡ Tree.leaf y → full bound (Tree.leaf y) ≡ Tree.leaf y) →
      put_where (stands_in bound v (parts_of w ++ ts)) more (put_on more w made v) ≡ put_where (occurs v (full bound w) || stands_in bound v ts) more (made v)
  put_by ts made v (Tree.leaf y) self =
      leaf_put ts made y v (eqb v y) (stands_in bound v ts) ∙ ap (λ u. put_where (occurs v u || stands_in bound v ts) more (made v)) (sym (self y refl))
  put_by ts made v (Tree.sym s) self = refl
  put_by ts made v (Tree.str s) self = refl
  put_by ts made v (Tree.num n) self = refl
  put_by ts made v (Tree.truth b) self = refl
  put_by ts made v Tree.nil self = refl
  put_by ts made v (Tree.pair a b) self =
      ap (λ c. put_where c more (made v)) (sym (or_assoc (occurs v (full bound a)) (occurs v (full bound b)) (stands_in bound v ts)))

  put_kept : (ts : List Tm) (made : TagsOf) (v : ℕ) → put_where (stands_in bound v (parts_of (walk bound t) ++ ts)) more (put_on more (walk bound t) made v) ≡ put_where (stands_in bound v (t ∷ ts)) more (made v)
  put_kept ts made v = put_by ts made v (walk bound t) own ∙ ap (λ u. put_where (occurs v u || stands_in bound v ts) more (made v)) whole

  -- fewer nodes wait
  nodes_by : (ts : List Tm) (w : Tm) → size (full bound w) ≡ size (full bound t) → nodes bound (parts_of w ++ ts) < nodes bound (t ∷ ts)
  nodes_by ts (Tree.leaf y) same = omega (arith, size-positive (full bound t))
  nodes_by ts (Tree.sym s) same = omega (arith, same)
  nodes_by ts (Tree.str s) same = omega (arith, same)
  nodes_by ts (Tree.num n) same = omega (arith, same)
  nodes_by ts (Tree.truth b) same = omega (arith, same)
  nodes_by ts Tree.nil same = omega (arith, same)
  nodes_by ts (Tree.pair a b) same = omega (arith, same)

  fewer_nodes : (ts : List Tm) → nodes bound (parts_of (walk bound t) ++ ts) < nodes bound (t ∷ ts)
  fewer_nodes ts = nodes_by ts (walk bound t) (ap size whole)

  -- a step from the top of what waits
  leads_on : (old : TagsOf) (all : Tm) (made new : TagsOf) (ts us : List Tm) → names_one more (walk bound t) ≡ false → us ≡ parts_of (walk bound t) ++ ts →
      ((v : ℕ) → new v ≡ put_on more (walk bound t) made v) → Leads bound more old all made (t ∷ ts) → Leads bound more old all new us
  leads_on old all made new ts us e parts put leads = record {
    any = ap (any_in bound more) parts ∙ any_kept ts e ∙ leads.any;
    put = λ v.
        ap (λ us. put_where (stands_in bound v us) more (new v)) parts
        ∙ ap (put_where (stands_in bound v (parts_of (walk bound t) ++ ts)) more) (put v)
        ∙ put_kept ts made v ∙ leads.put v;
  }

-- the first turn looks at the term itself
pub first_found : (bound : Pairs) → HasNoCycle bound → (more : List ℕ) (old new : TagsOf) (t : Tm) (found : Bool) → found ≡ names_one more (walk bound t) → found ≡ true → Tagged old more (full bound t) true new
first_found bound h more old new t found is e = found_here bound h more t (sym is ∙ e)

pub first_leads : (bound : Pairs) → HasNoCycle bound → (more : List ℕ) (old new : TagsOf) (t : Tm) (found : Bool) (none waiting : List (Bor Term)) → none ≡ [] → found ≡ names_one more (walk bound t) →
    (found ≡ false → waiting_trees waiting ≡ parts_of (walk bound t) ++ waiting_trees none) → (found ≡ false → (v : ℕ) → new v ≡ put_on more (walk bound t) old v) → found ≡ false →
    Leads bound more old (full bound t) new (waiting_trees waiting)
first_leads bound h more old new t found none waiting nothing is waits put e =
    leads_on bound h more t old (full bound t) old new [] (waiting_trees waiting) (sym is ∙ e)
    (waits e ∙ ap (λ ts. parts_of (walk bound t) ++ waiting_trees ts) nothing) (put e) (leads_first bound more old t)

-- a turn takes the top
top_first : (before rest : List (Bor Term)) (t : Bor Term) → before ≡ rest ++ t ∷ [] → waiting_trees before ≡ tree t.now ∷ waiting_trees rest
top_first before rest t split = ap waiting_trees split ∙ waiting-push rest t

pub turn_found : (bound : Pairs) → HasNoCycle bound → (more : List ℕ) (old made new : TagsOf) (all : Tm) (before rest : List (Bor Term)) (t : Bor Term) (found : Bool) →
    before ≡ rest ++ t ∷ [] → found ≡ names_one more (walk bound (tree t.now)) → found ≡ true → Leads bound more old all made (waiting_trees before) → Tagged old more all true new
turn_found bound h more old made new all before rest t found split is e leads =
    sym leads.any ∙ ap (any_in bound more) (top_first before rest t split)
    ∙ ap (λ c. c || any_in bound more (waiting_trees rest)) (found_here bound h more (tree t.now) (sym is ∙ e))

pub turn_leads : (bound : Pairs) → HasNoCycle bound → (more : List ℕ) (old made new : TagsOf) (all : Tm) (before rest waiting : List (Bor Term)) (t : Bor Term) (found : Bool) →
    before ≡ rest ++ t ∷ [] → found ≡ names_one more (walk bound (tree t.now)) →
    (found ≡ false → waiting_trees waiting ≡ parts_of (walk bound (tree t.now)) ++ waiting_trees rest) → (found ≡ false → (v : ℕ) → new v ≡ put_on more (walk bound (tree t.now)) made v) → found ≡ false →
    Leads bound more old all made (waiting_trees before) → Leads bound more old all new (waiting_trees waiting)
turn_leads bound h more old made new all before rest waiting t found split is waits put e leads =
    leads_on bound h more (tree t.now) old all made new (waiting_trees rest) (waiting_trees waiting) (sym is ∙ e) (waits e) (put e)
    (subst (Leads bound more old all made) (top_first before rest t split) leads)

pub turn_falls : (bound : Pairs) → HasNoCycle bound → (more : List ℕ) (before rest waiting : List (Bor Term)) (t : Bor Term) (found : Bool) → before ≡ rest ++ t ∷ [] →
    (found ≡ false → waiting_trees waiting ≡ parts_of (walk bound (tree t.now)) ++ waiting_trees rest) → found ≡ false → nodes bound (waiting_trees waiting) < nodes bound (waiting_trees before)
turn_falls bound h more before rest waiting t found split waits e =
    omega (arith, fewer_nodes bound h more (tree t.now) (waiting_trees rest), ap (nodes bound) (waits e), ap (nodes bound) (top_first before rest t split))
