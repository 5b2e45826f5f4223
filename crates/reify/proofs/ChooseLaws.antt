-- Forms that are chosen, and their texts.
use Rattle.std.proofs.Common.{◌≡◌, ℕ, suc, ◌+◌, ◌<◌, Bool, true, false, ◌&&◌, ◌||◌, not, eqb, List, [], ◌∷◌, ◌++◌, length, map, filter, get_or, take, refl, sym, ◌∙◌, ap, ap₂, append-nil, true≢false, subst}
use Rattle.std.specs.Prelude.{if◌then◌else◌}
use Rattle.std.specs.List.{list_all, list_any}
use Rattle.std.proofs.lemmas.Bool.{and_from, and_parts, eqb-true}
use Rattle.std.proofs.lemmas.List.{map-append, take_more, length-map}
use Rattle.std.proofs.lemmas.List.Elements.{filter-append}
use Rattle.kan_terms.proofs.TreeLaws.{term_eq-true}
use Rattle.kan_terms.specs.Tree.{Tm, term_eq}
use Rattle.kan_terms.specs.Table.{Table}
use Rattle.kan_model.specs.Terms.Letters as letters_of
use Rattle.kan_model.specs.declared.letters.Letter.{Letter}
use Rattle.kan_model.specs.Stores.Solve as model
use Rattle.kan_model.specs.Answers.Order.{bytes_le, each_once, in_order, put_in_order}
use Rattle.kan_model.specs.Answers.Answer.{same_pair, same_form, is_weaker, form_in_names, in_names}
use Rattle.kan_model.specs.Answers.AnswerText.{difference_le}
use Rattle.kan_model.proofs.ListLaws.{Each-in_order}
use Rattle.kan_model.specs.Each.{Each}
use Rattle.kan_solving.specs.Solving.{replaced_by}
use Rattle.kan_solving.specs.declared.solving.Replaced.{Replaced}
use Rattle.reify.specs.declared.shaping.Shape.{Shape}
use Rattle.reify.specs.declared.shaping.NamePair.{NamePair}
use Rattle.reify.specs.declared.writing.Written.{Written}
use Rattle.reify.specs.Shapes.{spelling, tree_of, spells, all_whole, named_pair}
use Rattle.reify.specs.Naming.{shape_in}
use Rattle.reify.specs.Choosing.{is_new}
use Rattle.reify.specs.Writing.{pairs_of, IsWritten, AllWritten, pairs_alone_of, texts_in_order, only}
use Rattle.reify.proofs.ShapeLaws.{tree_of-spelling, one_spelled}
use Rattle.reify.proofs.NamingLaws.{shape_spelling}

-- forms of different lengths aren't the same
pub same_lengths : (one other : List model.Replaced) → same_form one other ≡ true → length one ≡ length other
same_lengths [] [] e = refl
same_lengths [] (q ∷ other) e = absurd (true≢false (sym e))
same_lengths (p ∷ one) [] e = absurd (true≢false (sym e))
same_lengths (p ∷ one) (q ∷ other) e = ap suc (same_lengths one other (and_parts (same_pair p q) (same_form one other) e).1)

pub other_lengths : (one other : List Replaced) → (length one ≡ length other → ⊥) → false ≡ same_form (map replaced_by one) (map replaced_by other)
other_lengths one other apart = by (same_form (map replaced_by one) (map replaced_by other)) refl
  where
    by : (b : Bool) → same_form (map replaced_by one) (map replaced_by other) ≡ b → false ≡ b
    by false e = refl
    by true e = absurd (apart (sym (length-map one replaced_by) ∙ same_lengths (map replaced_by one) (map replaced_by other) e ∙ length-map other replaced_by))

-- forms that pass for the same are
same_form-true : (f g : model.Replacement) → same_form f g ≡ true → f ≡ g
same_form-true [] [] e = refl
same_form-true [] (q ∷ g) e = absurd (true≢false (sym e))
same_form-true (p ∷ f) [] e = absurd (true≢false (sym e))
same_form-true (p ∷ f) (q ∷ g) e =
    let (first, rest) = and_parts (same_pair p q) (same_form f g) e in
    let (var, by) = and_parts (eqb p.var q.var) (term_eq p.by q.by) first in
    ap₂ (λ x xs. x ∷ xs) (ap₂ (λ v t. record { var = v; by = t }) (eqb-true p.var q.var var) (term_eq-true p.by q.by by)) (same_form-true f g rest)

-- each element once, with one more
once_filter : {X : Type 0} (same : X → X → Bool) (x v : X) (b : Bool) (E : List X) → filter (λ y. not (same x y)) (E ++ (if b then [] else v ∷ [])) ≡ filter (λ y. not (same x y)) E ++ (if same x v || b then [] else v ∷ [])
once_filter same x v true E = filter-append (λ y. not (same x y)) E [] ∙ ap (λ l. filter (λ y. not (same x y)) E ++ l) (by (same x v))
  where
    by : (c : Bool) → [] ≡ (if c || true then [] else v ∷ [])
    by true = refl
    by false = refl
once_filter same x v false E = filter-append (λ y. not (same x y)) E (v ∷ []) ∙ ap (λ l. filter (λ y. not (same x y)) E ++ l) (by (same x v))
  where
    by : (c : Bool) → (if not c then v ∷ [] else []) ≡ (if c || false then [] else v ∷ [])
    by true = refl
    by false = refl

each_once-more : {X : Type 0} (same : X → X → Bool) (xs : List X) (v : X) → each_once same (xs ++ v ∷ []) ≡ each_once same xs ++ (if list_any (λ x. same x v) xs then [] else v ∷ [])
each_once-more same [] v = refl
each_once-more same (x ∷ xs) v =
    ap (λ l. x ∷ filter (λ y. not (same x y)) l) (each_once-more same xs v) ∙ ap (λ l. x ∷ l) (once_filter same x v (list_any (λ y. same y v) xs) (each_once same xs))

-- one form more that may be chosen
module _ (all : List model.Replacement) where
  abbrev keeps : model.Replacement → Bool
  keeps form = not (is_weaker all form)

  abbrev chosen : List model.Replacement → List model.Replacement
  chosen forms = each_once same_form (filter keeps forms)

  among_kept : (v : model.Replacement) → keeps v ≡ true → (xs : List model.Replacement) → list_any (λ x. same_form x v) (filter keeps xs) ≡ list_any (λ x. same_form x v) xs
  among_kept v k [] = refl
  among_kept v k (x ∷ xs) = by (keeps x) (same_form x v) refl refl (among_kept v k xs)
    where
      by : (b c : Bool) → keeps x ≡ b → same_form x v ≡ c → list_any (λ y. same_form y v) (filter keeps xs) ≡ list_any (λ y. same_form y v) xs →
          list_any (λ y. same_form y v) (if b then x ∷ filter keeps xs else filter keeps xs) ≡ (same_form x v || list_any (λ y. same_form y v) xs)
      by true c e f ih = ap (λ b. same_form x v || b) ih
      by false true e f ih = absurd (true≢false (sym k ∙ sym (ap keeps (same_form-true x v f)) ∙ e))
      by false false e f ih = ih ∙ sym (ap (λ b. b || list_any (λ y. same_form y v) xs) f)

  chosen-more : (xs : List model.Replacement) (v : model.Replacement) (b : Bool) → keeps v ≡ b → chosen (xs ++ v ∷ []) ≡ chosen xs ++ (if b && is_new xs v then v ∷ [] else [])
  chosen-more xs v true e =
      ap (each_once same_form) (filter-append keeps xs (v ∷ []) ∙ ap (λ c. filter keeps xs ++ (if c then v ∷ [] else [])) e) ∙ each_once-more same_form (filter keeps xs) v
      ∙ ap (λ c. chosen xs ++ (if c then [] else v ∷ [])) (among_kept v e xs) ∙ ap (λ l. chosen xs ++ l) (by (list_any (λ x. same_form x v) xs))
    where
      by : (c : Bool) → (if c then [] else v ∷ []) ≡ (if not c then v ∷ [] else [])
      by true = refl
      by false = refl
  chosen-more xs v false e =
      ap (each_once same_form) (filter-append keeps xs (v ∷ []) ∙ ap (λ c. filter keeps xs ++ (if c then v ∷ [] else [])) e ∙ append-nil (filter keeps xs)) ∙ sym (append-nil (chosen xs))

-- and is written, or not
module _ {X : Type 0} (f : X → model.Replacement) (vs : List ℕ) (forms : List X) (i : ℕ) (x : X) (below : i < length forms) (is : x ≡ get_or forms i x) (old new : List Written) where
  abbrev whole : List model.Replacement
  whole = map f forms

  abbrev test : Bool
  test = not (is_weaker whole (f x)) && is_new (map f (take i forms)) (f x)

  one_more_form : map f (take (i + 1) forms) ≡ map f (take i forms) ++ f x ∷ []
  one_more_form = ap (map f) (take_more forms i x below) ∙ map-append f (take i forms) (get_or forms i x ∷ []) ∙ ap (λ y. map f (take i forms) ++ f y ∷ []) (sym is)

  with_more : chosen whole (map f (take (i + 1) forms)) ≡ chosen whole (map f (take i forms)) ++ (if test then f x ∷ [] else [])
  with_more = ap (chosen whole) one_more_form ∙ chosen-more whole (map f (take i forms)) (f x) (not (is_weaker whole (f x))) refl

  only_is : (b : Bool) → (if b then f x ∷ [] else []) ≡ only b (f x)
  only_is true = refl
  only_is false = refl

  pub form_step : (b : Bool) (u : model.Replacement) → b ≡ (not (is_weaker whole u) && is_new (map f (take i forms)) u) → u ≡ f x →
      map pairs_of old ≡ map (form_in_names vs) (chosen whole (map f (take i forms))) → map pairs_of new ≡ map pairs_of old ++ map (form_in_names vs) (only b u) →
      map pairs_of new ≡ map (form_in_names vs) (chosen whole (map f (take (i + 1) forms)))
  form_step b u is_test same before put =
      put ∙ ap₂ (λ l r. l ++ map (form_in_names vs) r) before (ap₂ only (is_test ∙ ap (λ v. not (is_weaker whole v) && is_new (map f (take i forms)) v) same) same ∙ sym (only_is test))
      ∙ sym (map-append (form_in_names vs) (chosen whole (map f (take i forms))) (if test then f x ∷ [] else []))
      ∙ ap (map (form_in_names vs)) (sym with_more)

pub written_more : (table : Table) (old : List Written) (w : Written) → AllWritten table old → IsWritten table w → AllWritten table (old ++ w ∷ [])
written_more table [] w h k = (k, tt)
written_more table (v ∷ old) w (h, hs) k = (h, written_more table old w hs k)

pub written_put : (table : Table) (old : List Written) (w : Written) (new : List Written) → new ≡ old ++ w ∷ [] → IsWritten table w → AllWritten table old → AllWritten table new
written_put table old w new put k h = subst (AllWritten table) (sym put) (written_more table old w h k)

-- a term in names
pub term_named : (vs : List ℕ) (t : Tm) (letters : List Letter) (shapes : List Shape) → letters ≡ letters_of.spelling t → shapes ≡ map (shape_in vs) letters → shapes ≡ spelling (in_names vs t)
term_named vs t letters shapes l s = s ∙ ap (map (shape_in vs)) l ∙ shape_spelling vs t

pub term_is : (vs : List ℕ) (t : Tm) (shapes : List Shape) → shapes ≡ spelling (in_names vs t) → tree_of shapes ≡ in_names vs t
term_is vs t shapes e = ap tree_of e ∙ tree_of-spelling (in_names vs t)

pub term_whole : (vs : List ℕ) (t : Tm) (shapes : List Shape) → shapes ≡ spelling (in_names vs t) → spells 1 shapes ≡ true
term_whole vs t shapes e = ap (spells 1) e ∙ one_spelled (in_names vs t)

-- disequalities in the order of their texts
put_like : {X Y : Type 0} (P : X → Type 0) (f : X → Y) (lower : X → X → Bool) (le : Y → Y → Bool) → ((x y : X) → P x → P y → lower x y ≡ le (f x) (f y)) →
    (x : X) (ys : List X) → P x → Each P ys → map f (put_in_order lower x ys) ≡ put_in_order le (f x) (map f ys)
put_like P f lower le same x [] h k = refl
put_like P f lower le same x (y ∷ ys) h (k, ks) = by (lower x y) refl (put_like P f lower le same x ys h ks)
  where
    by : (b : Bool) → lower x y ≡ b → map f (put_in_order lower x ys) ≡ put_in_order le (f x) (map f ys) →
        map f (if b then x ∷ y ∷ ys else y ∷ put_in_order lower x ys) ≡ (if le (f x) (f y) then f x ∷ f y ∷ map f ys else f y ∷ put_in_order le (f x) (map f ys))
    by true e ih = sym (ap (λ b. if b then f x ∷ f y ∷ map f ys else f y ∷ put_in_order le (f x) (map f ys)) (sym (same x y h k) ∙ e))
    by false e ih = ap (λ l. f y ∷ l) ih ∙ sym (ap (λ b. if b then f x ∷ f y ∷ map f ys else f y ∷ put_in_order le (f x) (map f ys)) (sym (same x y h k) ∙ e))

in_order_like : {X Y : Type 0} (P : X → Type 0) (f : X → Y) (lower : X → X → Bool) (le : Y → Y → Bool) → ((x y : X) → P x → P y → lower x y ≡ le (f x) (f y)) →
    (xs : List X) → Each P xs → map f (in_order lower xs) ≡ in_order le (map f xs)
in_order_like P f lower le same [] h = refl
in_order_like P f lower le same (x ∷ xs) (h, hs) =
    put_like P f lower le same x (in_order lower xs) h (Each-in_order P lower xs hs) ∙ ap (put_in_order le (f x)) (in_order_like P f lower le same xs hs)

each_written : (table : Table) (ws : List Written) → AllWritten table ws → Each (IsWritten table) ws
each_written table [] h = tt
each_written table (w ∷ ws) (h, hs) = (h, each_written table ws hs)

same_map : (ws : List Written) → map (map named_pair) (map pairs_alone_of ws) ≡ map pairs_of ws
same_map [] = refl
same_map (w ∷ ws) = ap (λ l. pairs_of w ∷ l) (same_map ws)

pub sorted_pairs : (table : Table) (ws sorted : List Written) (made : List (List NamePair)) → AllWritten table ws → sorted ≡ in_order texts_in_order ws → made ≡ map pairs_alone_of sorted →
    map (map named_pair) made ≡ in_order (difference_le table) (map pairs_of ws)
sorted_pairs table ws sorted made h order alone =
    ap (map (map named_pair)) (alone ∙ ap (map pairs_alone_of) order) ∙ same_map (in_order texts_in_order ws)
    ∙ in_order_like (IsWritten table) pairs_of texts_in_order (difference_le table) (λ v w p q. ap₂ bytes_le p.0 q.0) ws (each_written table ws h)

pub sorted_whole : (table : Table) (ws sorted : List Written) (made : List (List NamePair)) → AllWritten table ws → sorted ≡ in_order texts_in_order ws → made ≡ map pairs_alone_of sorted → list_all all_whole made ≡ true
sorted_whole table ws sorted made h order alone =
    ap (list_all all_whole) (alone ∙ ap (map pairs_alone_of) order) ∙ all (in_order texts_in_order ws) (Each-in_order (IsWritten table) texts_in_order ws (each_written table ws h))
  where
    all : (vs : List Written) → Each (IsWritten table) vs → list_all all_whole (map pairs_alone_of vs) ≡ true
    all [] k = refl
    all (v ∷ vs) (k, ks) = and_from (all_whole v.pairs) (list_all all_whole (map pairs_alone_of vs)) k.1 (all vs ks)
