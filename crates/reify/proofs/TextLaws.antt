-- Texts with spaces between them.
use Rattle.std.proofs.Common.{◌≡◌, ℕ, ◌+◌, ◌<◌, true, false, List, [], ◌∷◌, ◌++◌, length, map, get_or, take, refl, sym, ◌∙◌, ap, ap₂, append_assoc, append-nil, arith, true≢false}
use Rattle.std.specs.Prelude.{codes, ◌&&◌}
use Rattle.std.specs.List.{flat_map}
use Rattle.std.proofs.lemmas.List.{map-append, take_more, length-map, length-take-le}
use Rattle.kan_model.specs.Answers.Text.{with_spaces}
use Rattle.kan_model.specs.Answers.AnswerText.{where_text, names_texts, constraint_texts, difference_text, absence_text}
use Rattle.kan_terms.specs.Table.{Table}
use Rattle.reify.specs.Shapes.{named_pair}
use Rattle.reify.specs.Meaning.{absence, meaning}
use Rattle.reify.specs.declared.answers.Answer.{Answer}
use Rattle.reify.specs.Constraints.{behind_space, is_nothing, gap}

-- one more text behind others
pub with_spaces-push : (ts : List (List ℕ)) (t : List ℕ) → with_spaces (ts ++ t ∷ []) ≡ with_spaces ts ++ (gap (length ts) ++ t)
with_spaces-push [] t = refl
with_spaces-push (u ∷ []) t = refl
with_spaces-push (u ∷ w ∷ ws) t =
    ap (λ l. u ++ 32 ∷ l) (with_spaces-push (w ∷ ws) t) ∙ sym (append_assoc u (32 ∷ with_spaces (w ∷ ws)) (32 ∷ t))

-- texts behind spaces, from the first one on
spaced_all : (t : List ℕ) (ts : List (List ℕ)) → 32 ∷ with_spaces (t ∷ ts) ≡ flat_map behind_space (t ∷ ts)
spaced_all t [] = ap (λ l. 32 ∷ l) (sym (append-nil t))
spaced_all t (u ∷ us) = ap (λ l. 32 ∷ t ++ l) (spaced_all u us)

pub where_spaced : (ts : List (List ℕ)) → is_nothing ts ≡ false → where_text ts ≡ codes " where" ++ flat_map behind_space ts
where_spaced [] e = absurd (true≢false e)
where_spaced (t ∷ ts) e = ap (λ l. codes " where" ++ l) (spaced_all t ts)

pub where_put : (text middle after : List ℕ) (ts : List (List ℕ)) → is_nothing ts ≡ false → middle ≡ text ++ codes " where" → after ≡ middle ++ flat_map behind_space ts → after ≡ text ++ where_text ts
where_put text middle after ts some first second =
    second ∙ ap (λ l. l ++ flat_map behind_space ts) first ∙ append_assoc text (codes " where") (flat_map behind_space ts) ∙ ap (λ l. text ++ l) (sym (where_spaced ts some))

-- no text remains exactly where each list is empty
nothing_both : {X : Type 0} (xs ys : List X) → is_nothing (xs ++ ys) ≡ (is_nothing xs && is_nothing ys)
nothing_both [] ys = refl
nothing_both (x ∷ xs) ys = refl

nothing_map : {X Y : Type 0} (f : X → Y) (xs : List X) → is_nothing (map f xs) ≡ is_nothing xs
nothing_map f [] = refl
nothing_map f (x ∷ xs) = refl

nothing_names : (word ns : List ℕ) → is_nothing (names_texts word ns) ≡ is_nothing ns
nothing_names word [] = refl
nothing_names word (n ∷ ns) = refl

pub all_nothing : (table : Table) (a : Answer) →
    is_nothing (constraint_texts table (meaning a)) ≡ (is_nothing a.disequalities.items && is_nothing a.numbers.items && is_nothing a.symbols.items && is_nothing a.strings.items && is_nothing a.absences.items)
all_nothing table a =
    let differences : List (List ℕ) = map (difference_text table) (meaning a).disequalities in
    let numbers : List (List ℕ) = names_texts (codes "num") a.numbers.items in
    let symbols : List (List ℕ) = names_texts (codes "sym") a.symbols.items in
    let strings : List (List ℕ) = names_texts (codes "str") a.strings.items in
    let absences : List (List ℕ) = map (absence_text table) (meaning a).absences in
    nothing_both (differences ++ numbers ++ symbols ++ strings) absences
    ∙ ap₂ (λ l r. l && r) (nothing_both (differences ++ numbers ++ symbols) strings
    ∙ ap₂ (λ l r. l && r) (nothing_both (differences ++ numbers) symbols
    ∙ ap₂ (λ l r. l && r) (nothing_both differences numbers
    ∙ ap₂ (λ l r. l && r) (nothing_map (difference_text table) (meaning a).disequalities ∙ nothing_map (map named_pair) a.disequalities.items) (nothing_names (codes "num") a.numbers.items))
    (nothing_names (codes "sym") a.symbols.items)) (nothing_names (codes "str") a.strings.items))
    (nothing_map (absence_text table) (meaning a).absences ∙ nothing_map absence a.absences.items)

-- the next text put behind a gap
pub put_next : (front grown : List (List ℕ)) (y : List ℕ) (i : ℕ) (old text middle after : List ℕ) → grown ≡ front ++ y ∷ [] → length front ≡ i →
    text ≡ old ++ with_spaces front → middle ≡ text ++ gap i → after ≡ middle ++ y → after ≡ old ++ with_spaces grown
put_next front grown y i old text middle after more many before gone put =
    put ∙ ap (λ l. l ++ y) (gone ∙ ap (λ l. l ++ gap i) before)
    ∙ append_assoc (old ++ with_spaces front) (gap i) y ∙ append_assoc old (with_spaces front) (gap i ++ y)
    ∙ ap (λ l. old ++ l) (ap (λ n. with_spaces front ++ (gap n ++ y)) (sym many) ∙ sym (with_spaces-push front y) ∙ ap with_spaces (sym more))

-- texts with that of the next item
pub one_more : {X Y : Type 0} (f : X → Y) (xs : List X) (i : ℕ) (d : X) → i < length xs → map f (take (i + 1) xs) ≡ map f (take i xs) ++ f (get_or xs i d) ∷ []
one_more f xs i d below = ap (map f) (take_more xs i d below) ∙ map-append f (take i xs) (get_or xs i d ∷ [])

pub item_more : {X Y : Type 0} (f : X → Y) (xs : List X) (i : ℕ) (x : X) → i < length xs → x ≡ get_or xs i x → map f (take (i + 1) xs) ≡ map f (take i xs) ++ f x ∷ []
item_more f xs i x below is = one_more f xs i x below ∙ ap (λ y. map f (take i xs) ++ f y ∷ []) (sym is)

pub items_more : {X Y Z : Type 0} (f : Y → Z) (g : X → Y) (xs : List X) (i : ℕ) (x : X) → i < length xs → x ≡ get_or xs i x →
    map f (map g (take (i + 1) xs)) ≡ map f (map g (take i xs)) ++ f (g x) ∷ []
items_more f g xs i x below is = ap (map f) (item_more g xs i x below is) ∙ map-append f (map g (take i xs)) (g x ∷ [])

pub so_many : {X Y : Type 0} (f : X → Y) (xs : List X) (i : ℕ) → i < length xs → length (map f (take i xs)) ≡ i
so_many f xs i below = length-map (take i xs) f ∙ length-take-le i xs (omega (arith, below))

pub so_many_twice : {X Y Z : Type 0} (f : Y → Z) (g : X → Y) (xs : List X) (i : ℕ) → i < length xs → length (map f (map g (take i xs))) ≡ i
so_many_twice f g xs i below = length-map (map g (take i xs)) f ∙ so_many g xs i below
