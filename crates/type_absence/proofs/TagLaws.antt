-- Lists in which each tag stands once, and trees in which tags stand.
use Rattle.std.proofs.Common.{◌≡◌, ◌⊎◌, ℕ, Bool, true, false, ◌||◌, eqb, List, [], ◌∷◌, ◌++◌, inl, inr, sym, ap, subst, refl, ◌∙◌, arith, if◌then◌else◌}
use Rattle.std.specs.Prelude.{Contains}
use Rattle.std.proofs.lemmas.Bool.{eq-eqb, eqb-true, or_cases, or_left, or_right}
use Rattle.std.proofs.lemmas.List.Elements.{Contains-append_left, Contains-append_right, Contains-append_cases, Contains-push_cases}
use Rattle.kan_terms.specs.Tree.{Tree, has_symbol}
use Rattle.type_absence.specs.Tags.{is_listed, with_tag, with_tags, has_any}

-- a tag that is listed is not put again
where_listed : (tag : ℕ) (tags : List ℕ) → is_listed tag tags ≡ true → with_tag tag tags ≡ tags
where_listed tag tags e = ap (λ c. if c then tags else tags ++ tag ∷ []) e

-- the tags of two lists
pub listed-append : (tag : ℕ) (xs ys : List ℕ) → is_listed tag (xs ++ ys) ≡ (is_listed tag xs || is_listed tag ys)
listed-append tag [] ys = refl
listed-append tag (x ∷ xs) ys = by (eqb x tag) (listed-append tag xs ys)
  where
    by : (c : Bool) → is_listed tag (xs ++ ys) ≡ (is_listed tag xs || is_listed tag ys) → (c || is_listed tag (xs ++ ys)) ≡ ((c || is_listed tag xs) || is_listed tag ys)
    by true e = refl
    by false e = e

-- a tag that is listed stays so, and one that was put is listed
pub listed_more : (tag other : ℕ) (tags : List ℕ) → is_listed tag tags ≡ true → is_listed tag (with_tag other tags) ≡ true
listed_more tag other tags e = by (is_listed other tags)
  where
    by : (c : Bool) → is_listed tag (if c then tags else tags ++ other ∷ []) ≡ true
    by true = e
    by false = listed-append tag tags (other ∷ []) ∙ or_left (is_listed tag tags) (is_listed tag (other ∷ [])) e

pub listed_new : (tag : ℕ) (tags : List ℕ) → is_listed tag (with_tag tag tags) ≡ true
listed_new tag tags = by (is_listed tag tags) refl
  where
    by : (c : Bool) → is_listed tag tags ≡ c → is_listed tag (if c then tags else tags ++ tag ∷ []) ≡ true
    by true e = e
    by false e = listed-append tag tags (tag ∷ []) ∙ or_right (is_listed tag tags) (is_listed tag (tag ∷ [])) (or_left (eqb tag tag) false (eq-eqb tag tag refl))

pub listed_later : (tag : ℕ) (more tags : List ℕ) → is_listed tag tags ≡ true → is_listed tag (with_tags more tags) ≡ true
listed_later tag [] tags e = e
listed_later tag (first ∷ more) tags e = listed_later tag more (with_tag first tags) (listed_more tag first tags e)

-- all tags of a list are listed in another
abbrev pub AllListed : List ℕ → List ℕ → Type 0
AllListed [] tags = Unit {0}
AllListed (tag ∷ more) tags = (is_listed tag tags ≡ true) × AllListed more tags

pub all_put : (more tags : List ℕ) → AllListed more (with_tags more tags)
all_put [] tags = tt
all_put (tag ∷ more) tags = (listed_later tag more (with_tag tag tags) (listed_new tag tags), all_put more (with_tag tag tags))

-- tags that are listed change nothing
pub keep_all : (more tags : List ℕ) → AllListed more tags → with_tags more tags ≡ tags
keep_all [] tags h = refl
keep_all (tag ∷ more) tags (e, h) = ap (with_tags more) (where_listed tag tags e) ∙ keep_all more tags h

pub with_twice : (more tags : List ℕ) → with_tags more (with_tags more tags) ≡ with_tags more tags
with_twice more tags = keep_all more (with_tags more tags) (all_put more tags)

-- a tag that is listed is an item
pub listed_item : (tag : ℕ) (tags : List ℕ) → is_listed tag tags ≡ true → Contains tags tag
listed_item tag [] e = cc
listed_item tag (other ∷ more) e =
    elim (or_cases (eqb other tag) (is_listed tag more) e) [
      | inl same ↦ (0, omega arith, eqb-true other tag same)
      | inr there ↦ Contains-append_right (other ∷ []) more tag (listed_item tag more there)
    ]

-- the items of a list with a tag more
pub item_kept : (tag x : ℕ) (tags : List ℕ) → Contains tags x → Contains (with_tag tag tags) x
item_kept tag x tags h = by (is_listed tag tags)
  where
    by : (c : Bool) → Contains (if c then tags else tags ++ tag ∷ []) x
    by true = h
    by false = Contains-append_left tags (tag ∷ []) x h

pub item_cases : (tag x : ℕ) (tags : List ℕ) → Contains (with_tag tag tags) x → (tag ≡ x) ⊎ Contains tags x
item_cases tag x tags h = by (is_listed tag tags) h
  where
    by : (c : Bool) → Contains (if c then tags else tags ++ tag ∷ []) x → (tag ≡ x) ⊎ Contains tags x
    by true h = inr h
    by false h = elim (Contains-push_cases tags tag x h) [ inl there ↦ inr there | inr same ↦ inl same ]

pub items_kept : (more : List ℕ) (x : ℕ) (tags : List ℕ) → Contains tags x → Contains (with_tags more tags) x
items_kept [] x tags h = h
items_kept (tag ∷ more) x tags h = items_kept more x (with_tag tag tags) (item_kept tag x tags h)

pub one_item : (w x : ℕ) → Contains (w ∷ []) x → w ≡ x
one_item w x h = elim (Contains-push_cases [] w x h) [ inl none ↦ absurd (omega arith) | inr same ↦ same ]

pub items_put : (more : List ℕ) (x : ℕ) (tags : List ℕ) → Contains more x → Contains (with_tags more tags) x
items_put [] x tags h = absurd (omega arith)
items_put (tag ∷ more) x tags h =
    elim (Contains-append_cases (tag ∷ []) more x h) [
      | inl here ↦ items_kept more x (with_tag tag tags) (subst (Contains (with_tag tag tags)) (one_item tag x here) (listed_item tag (with_tag tag tags) (listed_new tag tags)))
      | inr there ↦ items_put more x (with_tag tag tags) there
    ]

pub items_cases : (more : List ℕ) (x : ℕ) (tags : List ℕ) → Contains (with_tags more tags) x → Contains more x ⊎ Contains tags x
items_cases [] x tags h = inr h
items_cases (tag ∷ more) x tags h =
    elim (items_cases more x (with_tag tag tags) h) [
      | inl there ↦ inl (Contains-append_right (tag ∷ []) more x there)
      | inr before ↦ elim (item_cases tag x tags before) [ inl same ↦ inl (0, omega arith, same) | inr old ↦ inr old ]
    ]

-- which tags stand in a tree
pub any_at : {V : Type 0} (more : List ℕ) (x : ℕ) (t : Tree V) → Contains more x → has_symbol x t ≡ true → has_any more t ≡ true
any_at [] x t h e = absurd (omega arith)
any_at (tag ∷ more) x t h e =
    elim (Contains-append_cases (tag ∷ []) more x h) [
      | inl here ↦ or_left (has_symbol tag t) (has_any more t) (subst (λ y. has_symbol y t ≡ true) (sym (one_item tag x here)) e)
      | inr there ↦ or_right (has_symbol tag t) (has_any more t) (any_at more x t there e)
    ]

pub any_one : {V : Type 0} (more : List ℕ) (t : Tree V) → has_any more t ≡ true → (x : ℕ) × Contains more x × (has_symbol x t ≡ true)
any_one [] t e = cc
any_one (tag ∷ more) t e =
    elim (or_cases (has_symbol tag t) (has_any more t) e) [
      | inl here ↦ (tag, (0, omega arith, refl), here)
      | inr there ↦ let (x, h, d) = any_one more t there in (x, Contains-append_right (tag ∷ []) more x h, d)
    ]

-- none stands in what is no symbol and no pair
pub none_in : {V : Type 0} (more : List ℕ) (t : Tree V) → ((x : ℕ) → has_symbol x t ≡ false) → has_any more t ≡ false
none_in [] t none = refl
none_in (tag ∷ more) t none = ap (λ c. c || has_any more t) (none tag) ∙ none_in more t none

-- those that are a symbol are listed
pub any_symbol : (more : List ℕ) (s : ℕ) → has_any {V = ℕ} more (Tree.sym s) ≡ is_listed s more
any_symbol [] s = refl
any_symbol (tag ∷ more) s = ap (λ c. eqb tag s || c) (any_symbol more s)

-- those of a pair stand in one of its parts
pub any_pair : {V : Type 0} (more : List ℕ) (a b : Tree V) → has_any more (Tree.pair a b) ≡ (has_any more a || has_any more b)
any_pair [] a b = refl
any_pair (tag ∷ more) a b = ap (λ c. (has_symbol tag a || has_symbol tag b) || c) (any_pair more a b) ∙ by (has_symbol tag a) (has_symbol tag b) (has_any more a) (has_any more b)
  where
    by : (p q r s : Bool) → ((p || q) || (r || s)) ≡ ((p || r) || (q || s))
    by true q r s = refl
    by false true true s = refl
    by false true false s = refl
    by false false r s = refl
