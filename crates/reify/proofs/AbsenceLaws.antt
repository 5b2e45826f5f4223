-- The tags that were found are those of the answer's absences.
use Rattle.std.proofs.Common.{◌≡◌, ◌≢◌, ◌↔◌, ℕ, suc, ◌+◌, ◌<◌, Bool, true, false, ◌&&◌, ◌||◌, not, eqb, nat_lt, List, [], ◌∷◌, ◌++◌, length, map, filter, get_or, take, refl, sym, ◌∙◌, ap, ap₂, append-nil, append_assoc, arith, true≢false, inl, inr, Contains, Option, subst}
use Rattle.std.specs.Prelude.{if◌then◌else◌}
use Rattle.std.specs.List.{list_all, list_any, concat}
use Rattle.std.specs.Cmp.{IsEquivalence}
use Rattle.std.proofs.lemmas.Bool.{and_parts, or_cases, or_left, or_right, eqb-true, eq-eqb, eqb-false, ltb-true, lt-ltb, cases_order, false_from_ne_true}
use Rattle.std.proofs.lemmas.Option.{unwrap_or-slice_get}
use Rattle.std.proofs.lemmas.List.{take_more, length-take-le}
use Rattle.std.proofs.lemmas.List.Folds.{list_any-append, concat-append}
use Rattle.std.proofs.lemmas.Map.Views.{list_any-from_Contains, Contains-from_any}
use Rattle.kan_terms.specs.Tree.{Tm, occurs}
use Rattle.kan_terms.specs.Table.{Table, IsDistinct}
use Rattle.kan_model.specs.Programs.Goals.{Primitive}
use Rattle.kan_model.specs.Stores.Store.{Store}
use Rattle.kan_model.specs.Stores.Solve.{Replacement, apply}
use Rattle.kan_model.specs.Stores.Kept.{is_kept}
use Rattle.kan_model.specs.Stores.Calls.{replacement_of, kind_at, AreTags}
use Rattle.kan_model.specs.declared.prims.Kind.{Kind}
use Rattle.kan_model.specs.declared.prims.Kind.TheVariants.{Number, Text}
use Rattle.kan_model.specs.Answers.Order.{in_order, each_once, stands_in, put_in_order}
use Rattle.kan_model.specs.Answers.Text.{symbol_text}
use Rattle.kan_model.specs.Answers.InForm.{TextsDiffer}
use Rattle.kan_model.specs.Answers.Answer.{Absence, keeps_out, has_absence, may_have_tag, tags_of, absence_of, has_names, tag_le, absences_of, names_where}
use Rattle.kan_model.proofs.ListLaws.{EachTwo, Each-like, Each-both, EachTwo-like, Each-filter, Each-each_once, Each-in_order, EachTwo-filter, EachTwo-in_order, each_once_apart, Each-from_list_all}
use Rattle.kan_model.specs.Each.{Each}
use Rattle.kan_model.proofs.Answering.ByteOrder.{bytes_le-total, bytes_le-both}
use Rattle.reify.specs.Typing.{kind_test, here}
use Rattle.reify.specs.Ordering.{symbols_rise}
use Rattle.reify.specs.Naming.{with_variable}
use Rattle.reify.specs.Absences.{keeps_tag, AreKept, TagLists, listed_names, kept_of}
use Rattle.reify.proofs.KindLaws.{kind_is_one}
use Rattle.reify.proofs.NamingLaws.{each_once-push, eqb-flip}
use Rattle.reify.proofs.OrderLaws.{in_order_map, filter_map, in_order_rises, bytes_le-trans}

-- the tags of one variable
pub may_is : (st : Store) (v : ℕ) → is_kept st ≡ true → (k : Option Kind) (b : Bool) → k ≡ kind_at st v → b ≡ (not (kind_test Number k) && not (kind_test Text k)) → b ≡ may_have_tag (replacement_of st) st.prims v
may_is st v kept k b found test =
    test ∙ ap (λ o. not (kind_test Number o) && not (kind_test Text o)) found ∙ ap₂ (λ x y. not x && not y) (kind_is_one st v kept Number) (kind_is_one st v kept Text)

and_true : (b : Bool) → (b && true) ≡ b
and_true true = refl
and_true false = refl

and_false : (b : Bool) → (b && false) ≡ false
and_false true = refl
and_false false = refl

pub kept_some : (st : Store) (v : ℕ) (tags : List ℕ) → AreTags st v tags → true ≡ may_have_tag (replacement_of st) st.prims v → AreKept st v tags
kept_some st v tags are may tag =
    let same : keeps_tag st tag v ≡ has_absence (replacement_of st) st.prims tag v = ap (λ b. has_absence (replacement_of st) st.prims tag v && b) (sym may) ∙ and_true (has_absence (replacement_of st) st.prims tag v) in
    (λ h. same ∙ (are tag).0 h, λ h. (are tag).1 (sym same ∙ h))

-- one more list
pub TagLists-push : (test : ℕ → ℕ → Bool) (vs : List ℕ) (lists : List (List ℕ)) (v : ℕ) (ts : List ℕ) → TagLists test vs lists → ((tag : ℕ) → Contains ts tag ↔ (test tag v ≡ true)) →
    TagLists test (vs ++ v ∷ []) (lists ++ ts ∷ [])
TagLists-push test [] [] v ts h k = (k, tt)
TagLists-push test [] (l ∷ lists) v ts h k = absurd h
TagLists-push test (w ∷ vs) [] v ts h k = absurd h
TagLists-push test (w ∷ vs) (l ∷ lists) v ts (h, hs) k = (h, TagLists-push test vs lists v ts hs k)

pub lists_step : (test : ℕ → ℕ → Bool) (vs ws : List ℕ) (i d : ℕ) (old new : List (List ℕ)) (ts : List ℕ) → ws ≡ vs → i < length ws → TagLists test (take i vs) old →
    ((tag : ℕ) → Contains ts tag ↔ (test tag (get_or ws i d) ≡ true)) → new ≡ old ++ ts ∷ [] → TagLists test (take (i + 1) vs) new
lists_step test vs ws i d old new ts same below before are grown =
    let under : i < length vs = subst (λ l. i < length l) same below in
    rw (grown, take_more vs i d under) (TagLists-push test (take i vs) old (get_or vs i d) ts before (subst (λ l. (tag : ℕ) → Contains ts tag ↔ (test tag (get_or l i d) ≡ true)) same are))

-- the tags of one list more
pub joined_step : (lists : List (List ℕ)) (i : ℕ) (ts tags more : List ℕ) → i < length lists → ts ≡ get_or lists i ts → tags ≡ concat (take i lists) → more ≡ tags ++ ts → more ≡ concat (take (i + 1) lists)
joined_step lists i ts tags more below is before grown =
    grown ∙ ap₂ (λ l r. l ++ r) before (sym (append-nil ts)) ∙ sym (concat-append (take i lists) (ts ∷ []))
    ∙ ap concat (ap (λ t. take i lists ++ t ∷ []) is ∙ sym (take_more lists i ts below))

-- one tag more
pub once_step : (tags : List ℕ) (i d : ℕ) (old new : List ℕ) → i < length tags → old ≡ each_once eqb (take i tags) → new ≡ with_variable old (get_or tags i d) → new ≡ each_once eqb (take (i + 1) tags)
once_step tags i d old new below before grown =
    grown ∙ ap (λ l. with_variable l (get_or tags i d)) before ∙ sym (each_once-push (take i tags) (get_or tags i d)) ∙ ap (each_once eqb) (sym (take_more tags i d below))

-- one name more
listed_names-push : (tag n : ℕ) (lists : List (List ℕ)) (ts : List ℕ) → listed_names tag n (lists ++ ts ∷ []) ≡ listed_names tag n lists ++ here (stands_in ts tag) (n + length lists)
listed_names-push tag n [] ts = append-nil (here (stands_in ts tag) n) ∙ ap (here (stands_in ts tag)) (let same : n ≡ n + 0 = omega arith in same)
listed_names-push tag n (l ∷ lists) ts =
    ap (λ r. here (stands_in l tag) n ++ r) (listed_names-push tag (suc n) lists ts)
    ∙ sym (append_assoc (here (stands_in l tag) n) (listed_names tag (suc n) lists) (here (stands_in ts tag) (suc n + length lists)))
    ∙ ap (λ m. listed_names tag n (l ∷ lists) ++ here (stands_in ts tag) m) (let same : suc n + length lists ≡ n + suc (length lists) = omega arith in same)

pub listed_step : (tag : ℕ) (lists : List (List ℕ)) (i : ℕ) (ts : List ℕ) (old new : List ℕ) (b : Bool) → i < length lists → ts ≡ get_or lists i ts → old ≡ listed_names tag 0 (take i lists) →
    b ≡ stands_in ts tag → new ≡ old ++ here b i → new ≡ listed_names tag 0 (take (i + 1) lists)
listed_step tag lists i ts old new b below is before test put =
    let count : length (take i lists) ≡ i = length-take-le i lists (omega (arith, below)) in
    put ∙ ap (λ l. l ++ here b i) before ∙ ap (λ c. listed_names tag 0 (take i lists) ++ here c i) test
    ∙ ap (λ m. listed_names tag 0 (take i lists) ++ here (stands_in ts tag) m) (let same : i ≡ 0 + length (take i lists) = omega (arith, count) in same)
    ∙ sym (listed_names-push tag 0 (take i lists) ts) ∙ ap (listed_names tag 0) (ap (λ t. take i lists ++ t ∷ []) is ∙ sym (take_more lists i ts below))

-- a list of numbers has a number where a test finds it
equal_numbers : IsEquivalence eqb
equal_numbers = record {
  refl = λ x. eq-eqb x x refl;
  symm = λ x y. turned x y (eqb x y) refl;
  congr = λ x y z e. ap (λ w. eqb w z) (eqb-true x y e);
}
  where
    turned : (x y : ℕ) (b : Bool) → eqb x y ≡ b → eqb x y ≡ eqb y x
    turned x y b e = e ∙ sym (eqb-flip y x b e)

same_bools : (a b : Bool) → (a ≡ true → b ≡ true) → (b ≡ true → a ≡ true) → a ≡ b
same_bools true b f g = sym (f refl)
same_bools false true f g = g refl
same_bools false false f g = refl

pub listed_is : (ts : List ℕ) (tag : ℕ) (b : Bool) → Contains ts tag ↔ (b ≡ true) → stands_in ts tag ≡ b
listed_is ts tag b same = same_bools (stands_in ts tag) b (λ h. same.0 (Contains-from_any eqb-true tag ts h)) (λ h. list_any-from_Contains equal_numbers tag ts (same.1 h))

-- the names of a tag are those of the variables that pass the test
pub listed_are : (test : ℕ → ℕ → Bool) (tag n : ℕ) (vs : List ℕ) (lists : List (List ℕ)) → TagLists test vs lists → listed_names tag n lists ≡ names_where (test tag) n vs
listed_are test tag n [] [] h = refl
listed_are test tag n [] (l ∷ lists) h = absurd h
listed_are test tag n (v ∷ vs) [] h = absurd h
listed_are test tag n (v ∷ vs) (ts ∷ lists) (h, hs) =
    ap₂ (λ b r. here b n ++ r) (listed_is ts tag (test tag v) (h tag)) (listed_are test tag (suc n) vs lists hs) ∙ by (test tag v)
  where
    by : (b : Bool) → here b n ++ names_where (test tag) (suc n) vs ≡ (if b then n ∷ names_where (test tag) (suc n) vs else names_where (test tag) (suc n) vs)
    by true = refl
    by false = refl

-- a tag is in some list where some variable passes the test with it
any_listed : (test : ℕ → ℕ → Bool) (tag : ℕ) (vs : List ℕ) (lists : List (List ℕ)) → TagLists test vs lists → stands_in (concat lists) tag ≡ list_any (test tag) vs
any_listed test tag [] [] h = refl
any_listed test tag [] (l ∷ lists) h = absurd h
any_listed test tag (v ∷ vs) [] h = absurd h
any_listed test tag (v ∷ vs) (ts ∷ lists) (h, hs) =
    list_any-append (eqb tag) ts (concat lists) ∙ ap₂ (λ x y. x || y) (listed_is ts tag (test tag v) (h tag)) (any_listed test tag vs lists hs)

some_names : (p : ℕ → Bool) (n : ℕ) (vs : List ℕ) → nat_lt 0 (length (names_where p n vs)) ≡ list_any p vs
some_names p n [] = refl
some_names p n (v ∷ vs) = by (p v) (some_names p (suc n) vs)
  where
    by : (b : Bool) → nat_lt 0 (length (names_where p (suc n) vs)) ≡ list_any p vs → nat_lt 0 (length (if b then n ∷ names_where p (suc n) vs else names_where p (suc n) vs)) ≡ (b || list_any p vs)
    by true ih = lt-ltb 0 (suc (length (names_where p (suc n) vs))) (omega arith)
    by false ih = ih

-- a tag that is kept out is one of the primitives' tags
pub tag_there : (s : Replacement) (tag v : ℕ) (ps : List (Primitive Tm)) → list_any (keeps_out s tag v) ps ≡ true → stands_in (tags_of ps) tag ≡ true
tag_there s tag v [] h = absurd (true≢false (sym h))
tag_there s tag v (Primitive.absent t a ∷ ps) h = elim (or_cases (eqb tag t && occurs v (apply s a)) (list_any (keeps_out s tag v) ps) h) [
  | inl first ↦ or_left (eqb tag t) (stands_in (tags_of ps) tag) (and_parts (eqb tag t) (occurs v (apply s a)) first).0
  | inr later ↦ or_right (eqb tag t) (stands_in (tags_of ps) tag) (tag_there s tag v ps later)
]
tag_there s tag v (Primitive.same a b ∷ ps) h = tag_there s tag v ps h
tag_there s tag v (Primitive.differ a b ∷ ps) h = tag_there s tag v ps h
tag_there s tag v (Primitive.symbol a ∷ ps) h = tag_there s tag v ps h
tag_there s tag v (Primitive.number a ∷ ps) h = tag_there s tag v ps h
tag_there s tag v (Primitive.text a ∷ ps) h = tag_there s tag v ps h

any_there : (st : Store) (tag : ℕ) (vs : List ℕ) → list_any (keeps_tag st tag) vs ≡ true → stands_in (tags_of st.prims) tag ≡ true
any_there st tag [] h = absurd (true≢false (sym h))
any_there st tag (v ∷ vs) h = elim (or_cases (keeps_tag st tag v) (list_any (keeps_tag st tag) vs) h) [
  | inl first ↦ tag_there (replacement_of st) tag v st.prims (and_parts (has_absence (replacement_of st) st.prims tag v) (may_have_tag (replacement_of st) st.prims v) first).0
  | inr later ↦ any_there st tag vs later
]

-- which elements stand in a list that was chosen or put in order
stands-put : (le : ℕ → ℕ → Bool) (x v : ℕ) (ys : List ℕ) → stands_in (put_in_order le x ys) v ≡ (eqb v x || stands_in ys v)
stands-put le x v [] = refl
stands-put le x v (y ∷ ys) = by (le x y) (stands-put le x v ys)
  where
    turn : (a b c : Bool) → (b || (a || c)) ≡ (a || (b || c))
    turn true true c = refl
    turn true false c = refl
    turn false true c = refl
    turn false false c = refl

    by : (b : Bool) → stands_in (put_in_order le x ys) v ≡ (eqb v x || stands_in ys v) → stands_in (if b then x ∷ y ∷ ys else y ∷ put_in_order le x ys) v ≡ (eqb v x || (eqb v y || stands_in ys v))
    by true ih = refl
    by false ih = ap (λ c. eqb v y || c) ih ∙ turn (eqb v x) (eqb v y) (stands_in ys v)

pub stands-in_order : (le : ℕ → ℕ → Bool) (v : ℕ) (xs : List ℕ) → stands_in (in_order le xs) v ≡ stands_in xs v
stands-in_order le v [] = refl
stands-in_order le v (x ∷ xs) = stands-put le x v (in_order le xs) ∙ ap (λ b. eqb v x || b) (stands-in_order le v xs)

stands-filter : (p : ℕ → Bool) (v : ℕ) (xs : List ℕ) → stands_in (filter p xs) v ≡ (stands_in xs v && p v)
stands-filter p v [] = refl
stands-filter p v (x ∷ xs) = by (eqb v x) (p x) refl refl (stands-filter p v xs)
  where
    by : (b c : Bool) → eqb v x ≡ b → p x ≡ c → stands_in (filter p xs) v ≡ (stands_in xs v && p v) →
        stands_in (if c then x ∷ filter p xs else filter p xs) v ≡ ((b || stands_in xs v) && p v)
    by true true e k ih = ap (λ a. a || stands_in (filter p xs) v) e ∙ sym (ap p (eqb-true v x e) ∙ k)
    by true false e k ih = ih ∙ ap (λ a. stands_in xs v && a) (ap p (eqb-true v x e) ∙ k) ∙ and_false (stands_in xs v) ∙ sym (ap p (eqb-true v x e) ∙ k)
    by false true e k ih = ap (λ a. a || stands_in (filter p xs) v) e ∙ ih
    by false false e k ih = ih

pub stands_once : (v : ℕ) (xs : List ℕ) → stands_in (each_once eqb xs) v ≡ stands_in xs v
stands_once v [] = refl
stands_once v (x ∷ xs) = ap (λ b. eqb v x || b) (stands-filter (λ y. not (eqb x y)) v (each_once eqb xs) ∙ ap (λ b. b && not (eqb x v)) (stands_once v xs)) ∙ by (eqb v x) refl
  where
    by : (b : Bool) → eqb v x ≡ b → (b || (stands_in xs v && not (eqb x v))) ≡ (b || stands_in xs v)
    by true e = refl
    by false e = ap (λ a. stands_in xs v && not a) (eqb-flip x v false e) ∙ and_true (stands_in xs v)

-- what each element has, one that stands in the list has
at_member : (P : ℕ → Type 0) (xs : List ℕ) (v : ℕ) → Each P xs → stands_in xs v ≡ true → P v
at_member P [] v h k = absurd (true≢false (sym k))
at_member P (x ∷ xs) v (h, hs) k = elim (or_cases (eqb v x) (stands_in xs v) k) [
  | inl first ↦ subst P (sym (eqb-true v x first)) h
  | inr later ↦ at_member P xs v hs later
]

-- two lists that rise strictly and have the same elements are one
module _ (le : ℕ → ℕ → Bool) (Q : ℕ → Type 0) (one : (x y : ℕ) → Q x → Q y → le x y ≡ true → le y x ≡ true → x ≡ y) where
  abbrev Lower : ℕ → ℕ → Type 0
  Lower x y = (le x y ≡ true) × (x ≢ y)

  not_again : (x v : ℕ) (xs : List ℕ) → Each (Lower x) xs → eqb v x ≡ true → stands_in xs v ≡ false
  not_again x v xs h e = false_from_ne_true (stands_in xs v) (λ k. (at_member (Lower x) xs v h k).1 (sym (eqb-true v x e)))

  pub same_order : (xs ys : List ℕ) → EachTwo Lower xs → EachTwo Lower ys → Each Q xs → Each Q ys → ((v : ℕ) → stands_in xs v ≡ stands_in ys v) → xs ≡ ys
  same_order [] [] h k p q same = refl
  same_order [] (y ∷ ys) h k p q same = absurd (true≢false (sym (or_left (eqb y y) (stands_in ys y) (eq-eqb y y refl)) ∙ sym (same y)))
  same_order (x ∷ xs) [] h k p q same = absurd (true≢false (sym (or_left (eqb x x) (stands_in xs x) (eq-eqb x x refl)) ∙ same x))
  same_order (x ∷ xs) (y ∷ ys) (h, hs) (k, ks) (p, ps) (q, qs) same = ap₂ (λ z zs. z ∷ zs) first (same_order xs ys hs ks ps qs rest)
    where
      x_there : (eqb x y || stands_in ys x) ≡ true
      x_there = sym (same x) ∙ or_left (eqb x x) (stands_in xs x) (eq-eqb x x refl)

      y_there : (eqb y x || stands_in xs y) ≡ true
      y_there = same y ∙ or_left (eqb y y) (stands_in ys y) (eq-eqb y y refl)

      first : x ≡ y
      first = elim (or_cases (eqb x y) (stands_in ys x) x_there) [
        | inl here ↦ eqb-true x y here
        | inr later ↦ elim (or_cases (eqb y x) (stands_in xs y) y_there) [
          | inl here' ↦ sym (eqb-true y x here')
          | inr later' ↦ one x y p q (at_member (Lower x) xs y h later').0 (at_member (Lower y) ys x k later).0
        ]
      ]

      apart : (v : ℕ) (b : Bool) → eqb v x ≡ b → eqb v y ≡ b → stands_in xs v ≡ stands_in ys v
      apart v true e f = not_again x v xs h e ∙ sym (not_again y v ys k f)
      apart v false e f = sym (ap (λ b. b || stands_in xs v) e) ∙ same v ∙ ap (λ b. b || stands_in ys v) f

      rest : (v : ℕ) → stands_in xs v ≡ stands_in ys v
      rest v = apart v (eqb v x) refl (ap (eqb v) (sym first))

-- no two symbols of a table have one text
pub texts_apart : (table : Table) → IsDistinct table.symbols → TextsDiffer table
texts_apart table distinct r s l m same = elim (cases_order r s) [
  | inl e ↦ e
  | inr (inl lower) ↦ absurd (distinct r s [] lower m (sym (unwrap_or-slice_get table.symbols r []) ∙ same ∙ unwrap_or-slice_get table.symbols s []))
  | inr (inr higher) ↦ absurd (distinct s r [] higher l (sym (unwrap_or-slice_get table.symbols s []) ∙ sym same ∙ unwrap_or-slice_get table.symbols r []))
]

-- tags in the order of their texts rise strictly
module _ (table : Table) (differ : TextsDiffer table) where
  abbrev Named : ℕ → Type 0
  Named t = t < length table.symbols

  one_tag : (t u : ℕ) → Named t → Named u → symbols_rise table t u ≡ true → symbols_rise table u t ≡ true → t ≡ u
  one_tag t u l m h k = differ t u l m (bytes_le-both (symbol_text table t) (symbol_text table u) h k)

  both_two : (R S : ℕ → ℕ → Type 0) (xs : List ℕ) → EachTwo R xs → EachTwo S xs → EachTwo (λ x y. R x y × S x y) xs
  both_two R S [] h k = tt
  both_two R S (x ∷ xs) (h, hs) (k, ks) = (Each-both (R x) (S x) xs h k, both_two R S xs hs ks)

  strictly : (xs : List ℕ) → EachTwo (λ x y. x ≢ y) xs → EachTwo (Lower (symbols_rise table) Named one_tag) (in_order (symbols_rise table) xs)
  strictly xs apart =
      both_two (λ x y. symbols_rise table x y ≡ true) (λ x y. x ≢ y) (in_order (symbols_rise table) xs)
      (in_order_rises (symbols_rise table) (λ x y. bytes_le-total (symbol_text table x) (symbol_text table y))
      (λ x y z. bytes_le-trans (symbol_text table x) (symbol_text table y) (symbol_text table z)) xs)
      (EachTwo-in_order (λ x y. x ≢ y) (λ x y other same. other (sym same)) (symbols_rise table) xs apart)

  once_apart : (xs : List ℕ) → EachTwo (λ x y. x ≢ y) (each_once eqb xs)
  once_apart xs = EachTwo-like (λ x y. eqb x y ≡ false) (λ x y. x ≢ y) (λ x y. eqb-false x y) (each_once eqb xs) (each_once_apart eqb xs)

  -- the tags that were found are those that have names
  pub same_tags : (st : Store) (vs : List ℕ) (lists : List (List ℕ)) → list_all (λ tag. nat_lt tag (length table.symbols)) (tags_of st.prims) ≡ true → TagLists (keeps_tag st) vs lists →
      in_order (symbols_rise table) (each_once eqb (concat lists)) ≡ in_order (symbols_rise table) (filter (λ tag. has_names (absence_of vs (replacement_of st) st.prims tag)) (each_once eqb (tags_of st.prims)))
  same_tags st vs lists there are =
      same_order (symbols_rise table) Named one_tag (in_order (symbols_rise table) (each_once eqb (concat lists))) (in_order (symbols_rise table) (filter filled (each_once eqb (tags_of st.prims))))
      (strictly (each_once eqb (concat lists)) (once_apart (concat lists)))
      (strictly (filter filled (each_once eqb (tags_of st.prims))) (EachTwo-filter (λ x y. x ≢ y) filled (each_once eqb (tags_of st.prims)) (once_apart (tags_of st.prims))))
      (Each-in_order Named (symbols_rise table) (each_once eqb (concat lists)) (Each-each_once Named eqb (concat lists) (all_named (concat lists) found_named)))
      (Each-in_order Named (symbols_rise table) (filter filled (each_once eqb (tags_of st.prims))) (Each-filter Named filled (each_once eqb (tags_of st.prims)) (Each-each_once Named eqb (tags_of st.prims) tags_named)))
      same
    where
      filled : ℕ → Bool
      filled tag = has_names (absence_of vs (replacement_of st) st.prims tag)

      tags_named : Each Named (tags_of st.prims)
      tags_named = Each-like (λ t. nat_lt t (length table.symbols) ≡ true) Named (λ t. ltb-true t (length table.symbols)) (tags_of st.prims) (Each-from_list_all (λ t. nat_lt t (length table.symbols)) (tags_of st.prims) there)

      found_named : (v : ℕ) → stands_in (concat lists) v ≡ true → Named v
      found_named v h = at_member Named (tags_of st.prims) v tags_named (any_there st v vs (sym (any_listed (keeps_tag st) v vs lists are) ∙ h))

      all_named : (xs : List ℕ) → ((v : ℕ) → stands_in xs v ≡ true → Named v) → Each Named xs
      all_named [] f = tt
      all_named (x ∷ xs) f = (f x (or_left (eqb x x) (stands_in xs x) (eq-eqb x x refl)), all_named xs (λ v h. f v (or_right (eqb v x) (stands_in xs v) h)))

      kept_where : (a b : Bool) → (b ≡ true → a ≡ true) → b ≡ (a && b)
      kept_where true b f = refl
      kept_where false true f = sym (f refl)
      kept_where false false f = refl

      same : (v : ℕ) → stands_in (in_order (symbols_rise table) (each_once eqb (concat lists))) v ≡ stands_in (in_order (symbols_rise table) (filter filled (each_once eqb (tags_of st.prims)))) v
      same v =
          stands-in_order (symbols_rise table) v (each_once eqb (concat lists)) ∙ stands_once v (concat lists) ∙ any_listed (keeps_tag st) v vs lists are
          ∙ kept_where (stands_in (tags_of st.prims) v) (list_any (keeps_tag st v) vs) (any_there st v vs)
          ∙ ap₂ (λ x y. x && y) (sym (stands_once v (tags_of st.prims))) (sym (some_names (keeps_tag st v) 0 vs))
          ∙ sym (stands-filter filled v (each_once eqb (tags_of st.prims)))
          ∙ sym (stands-in_order (symbols_rise table) v (filter filled (each_once eqb (tags_of st.prims))))

  -- and their names are those of the answer
  map_like : (f g : ℕ → Absence) → ((t : ℕ) → f t ≡ g t) → (ts : List ℕ) → map f ts ≡ map g ts
  map_like f g same [] = refl
  map_like f g same (t ∷ ts) = ap₂ (λ x xs. x ∷ xs) (same t) (map_like f g same ts)

  pub absences_are : (st : Store) (vs : List ℕ) (lists : List (List ℕ)) (found once tags : List ℕ) (made : List Absence) →
      list_all (λ tag. nat_lt tag (length table.symbols)) (tags_of st.prims) ≡ true → TagLists (keeps_tag st) vs lists → found ≡ concat lists → once ≡ each_once eqb found → tags ≡ in_order (symbols_rise table) once →
      made ≡ map (kept_of lists) tags → made ≡ absences_of table vs (replacement_of st) st.prims
  absences_are st vs lists found once tags made there are join each order all =
      all ∙ ap (map (kept_of lists)) (order ∙ ap (λ l. in_order (symbols_rise table) l) (each ∙ ap (each_once eqb) join) ∙ same_tags st vs lists there are)
      ∙ map_like (kept_of lists) of (λ t. ap (λ ns. record { tag = t; names = ns }) (listed_are (keeps_tag st) t 0 vs lists are)) (in_order (symbols_rise table) chosen)
      ∙ sym (ap (in_order (tag_le table)) (filter_map has_names of (each_once eqb (tags_of st.prims))) ∙ in_order_map of (tag_le table) chosen)
    where
      of : ℕ → Absence
      of = absence_of vs (replacement_of st) st.prims

      chosen : List ℕ
      chosen = filter (λ tag. has_names (of tag)) (each_once eqb (tags_of st.prims))
