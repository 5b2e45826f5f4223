-- Reading the parts of a table, and adding one.
use Rattle.std.proofs.Common.{◌≡◌, ℕ, zero, suc, add-zero, ◌+◌, ◌<◌, ◌≤◌, List, [], ◌∷◌, ◌++◌, length, refl, sym, ◌∙◌, ap, ap₂, append_assoc, append-nil, length-append, arith}
use Rattle.std.specs.Prelude.{get_or, nat_lt, Bool, true, false, if◌then◌else◌}
use Rattle.std.proofs.Math.ListN.{get_or-append}
use Rattle.std.proofs.Math.Seq.{get_or-append_seam}
use Rattle.std.proofs.lemmas.List.{get_or_past}
use Rattle.std.proofs.lemmas.Bool.{ltb-true, ltb-false, and_parts, and_from}
use Rattle.kan_grammar.specs.Texts.Sited.{Sited, site}
use Rattle.goal_forms.specs.declared.flat_data.Part.{Part}
use Rattle.goal_forms.specs.declared.flat_data.Part.TheVariants.{Name, Text, Number, Truth, Nil, Pair}
use Rattle.goal_forms.specs.declared.flat_data.FlatPart.{FlatPart}
use Rattle.goal_forms.specs.PartRows.{is_there, is_grown, are_grown}
use Rattle.goal_forms.specs.Parts.{site_at, part_site, node_site, sites_after}

-- a table with one part more
pub sites-push : (ds : List Sited) (flat : List FlatPart) (node : FlatPart) → sites_after ds (flat ++ node ∷ []) ≡ sites_after ds flat ++ node_site (sites_after ds flat) node ∷ []
sites-push ds [] node = refl
sites-push ds (n ∷ flat) node = sites-push (ds ++ node_site ds n ∷ []) flat node

-- there are as many data as parts
pub length-sites : (ds : List Sited) (flat : List FlatPart) → length (sites_after ds flat) ≡ length ds + length flat
length-sites ds [] = omega arith
length-sites ds (n ∷ flat) = rw (length-sites (ds ++ node_site ds n ∷ []) flat, length-append) (omega arith)

-- the data of a table begin with those that were there
pub sites-grow : (ds : List Sited) (flat : List FlatPart) → (more : List Sited) × (sites_after ds flat ≡ ds ++ more)
sites-grow ds [] = ([], sym (append-nil ds))
sites-grow ds (n ∷ flat) = let r = sites-grow (ds ++ node_site ds n ∷ []) flat in (node_site ds n ∷ r.0, r.1 ∙ append_assoc ds (node_site ds n ∷ []) r.0)

-- the data that are there stay at their places
pub site_at-more : (ds more : List Sited) (i : ℕ) → i < length ds → site_at (ds ++ more) i ≡ site_at ds i
site_at-more ds more i here = get_or-append ds more (Sited.nil 0) i here

-- a part that names what is there stands for the same datum among more data
part_site-more : (ds more : List Sited) (at : ℕ) (part : Part) → is_there (length ds) part ≡ true → part_site (ds ++ more) at part ≡ part_site ds at part
part_site-more ds more at (Name s) there = refl
part_site-more ds more at (Text s) there = refl
part_site-more ds more at (Number n) there = refl
part_site-more ds more at (Truth b) there = refl
part_site-more ds more at Nil there = refl
part_site-more ds more at (Pair a d) there =
    let both = and_parts _ _ there in
    ap₂ (Sited.pair at) (site_at-more ds more a (ltb-true a (length ds) both.0)) (site_at-more ds more d (ltb-true d (length ds) both.1))

pub node_site-more : (ds more : List Sited) (node : FlatPart) → is_grown (length ds) node ≡ true → node_site (ds ++ more) node ≡ node_site ds node
node_site-more ds more node grown = part_site-more ds more node.at node.part grown

-- the datum at a place is that of the part there
pub site_at-sites : (ds : List Sited) (flat : List FlatPart) (i : ℕ) (none : FlatPart) → are_grown (length ds) flat ≡ true → i < length flat →
    site_at (sites_after ds flat) (length ds + i) ≡ node_site (sites_after ds flat) (get_or flat i none)
site_at-sites ds [] i none grown here = absurd (omega arith)
site_at-sites ds (n ∷ flat) zero none grown here =
    let longer = sites-grow (ds ++ node_site ds n ∷ []) flat in
    let split : sites_after ds (n ∷ flat) ≡ ds ++ node_site ds n ∷ longer.0 = longer.1 ∙ append_assoc ds (node_site ds n ∷ []) longer.0 in
    rw (split, add-zero) (get_or-append_seam ds (node_site ds n) longer.0 (Sited.nil 0) ∙ sym (node_site-more ds (node_site ds n ∷ longer.0) n (and_parts _ _ grown).0))
site_at-sites ds (n ∷ flat) (suc i) none grown here =
    let size : length (ds ++ node_site ds n ∷ []) ≡ suc (length ds) = rw length-append (omega arith) in
    let later : are_grown (length (ds ++ node_site ds n ∷ [])) flat ≡ true = rw size (and_parts _ _ grown).1 in
    let found = site_at-sites (ds ++ node_site ds n ∷ []) flat i none later (omega arith) in
    let place : length (ds ++ node_site ds n ∷ []) + i ≡ length ds + suc i = rw size (omega arith) in
    rw place at found

-- each pair names places before its own, with one part more too
pub are_grown-push : (n : ℕ) (flat : List FlatPart) (node : FlatPart) → are_grown n flat ≡ true → is_grown (n + length flat) node ≡ true → are_grown n (flat ++ node ∷ []) ≡ true
are_grown-push n [] node all last = and_from _ _ (rw add-zero at last) refl
are_grown-push n (m ∷ flat) node all last =
    let place : n + suc (length flat) ≡ suc n + length flat = omega arith in
    let parts = and_parts _ _ all in
    and_from _ _ parts.0 (are_grown-push (suc n) flat node parts.1 (rw place at last))

-- a part that is read in a lent table
pub read_part : (rows lent : List FlatPart) (place : ℕ) (node : FlatPart) → lent ≡ rows → true ≡ nat_lt place (length lent) → node ≡ get_or lent place node → are_grown 0 rows ≡ true →
    site_at (sites_after [] rows) place ≡ node_site (sites_after [] rows) node
read_part rows lent place node same within found grown =
    let here : place < length rows = ltb-true place (length rows) (ap (λ l. nat_lt place (length l)) (sym same) ∙ sym within) in
    let read = site_at-sites [] rows place node grown here in
    let zero_place : 0 + place ≡ place = omega arith in
    (rw zero_place at read) ∙ ap (node_site (sites_after [] rows)) (ap (λ l. get_or l place node) (sym same) ∙ sym found)

-- past the end of a table stands the end of a list
pub read_none : (rows lent : List FlatPart) (place : ℕ) → lent ≡ rows → false ≡ nat_lt place (length lent) → site_at (sites_after [] rows) place ≡ Sited.nil 0
read_none rows lent place same within =
    let size = length-sites [] rows in
    let past : length rows ≤ place = ltb-false place (length rows) (ap (λ l. nat_lt place (length l)) (sym same) ∙ sym within) in
    get_or_past (sites_after [] rows) place (Sited.nil 0) (omega arith)

-- a part that is added
pub sites_after_push : (old new : List FlatPart) (node : FlatPart) → new ≡ old ++ node ∷ [] → sites_after [] new ≡ sites_after [] old ++ node_site (sites_after [] old) node ∷ []
sites_after_push old new node grown = ap (sites_after []) grown ∙ sites-push [] old node

pub pushed_grown : (old new : List FlatPart) (node : FlatPart) → new ≡ old ++ node ∷ [] → are_grown 0 old ≡ true → is_grown (length (sites_after [] old)) node ≡ true → are_grown 0 new ≡ true
pushed_grown old new node longer grown last =
    let size = length-sites [] old in
    let place : length (sites_after [] old) ≡ 0 + length old = omega arith in
    ap (are_grown 0) longer ∙ are_grown-push 0 old node grown (rw place at last)

-- the same where a part may have been added
pub pushed_or_not : (added : Bool) (old new : List FlatPart) (node : FlatPart) → new ≡ (if added then old ++ node ∷ [] else old) → are_grown 0 old ≡ true →
    is_grown (length (sites_after [] old)) node ≡ true → are_grown 0 new ≡ true
pushed_or_not true old new node longer grown last = pushed_grown old new node longer grown last
pushed_or_not false old new node same grown last = ap (are_grown 0) same ∙ grown

-- the part at a place of a grown table names places before it
pub are_grown-at : (n : ℕ) (flat : List FlatPart) (i : ℕ) (none : FlatPart) → are_grown n flat ≡ true → i < length flat → is_grown (n + i) (get_or flat i none) ≡ true
are_grown-at n [] i none grown here = absurd (omega arith)
are_grown-at n (m ∷ flat) zero none grown here = rw add-zero ((and_parts _ _ grown).0)
are_grown-at n (m ∷ flat) (suc i) none grown here =
    let place : suc n + i ≡ n + suc i = omega arith in
    let later = are_grown-at (suc n) flat i none (and_parts _ _ grown).1 (omega arith) in
    rw place at later

pub read_grown : (rows lent : List FlatPart) (place : ℕ) (node : FlatPart) → lent ≡ rows → true ≡ nat_lt place (length lent) → node ≡ get_or lent place node → are_grown 0 rows ≡ true →
    is_grown place node ≡ true
read_grown rows lent place node same within found grown =
    let here : place < length rows = ltb-true place (length rows) (ap (λ l. nat_lt place (length l)) (sym same) ∙ sym within) in
    let read = are_grown-at 0 rows place node grown here in
    let zero_place : 0 + place ≡ place = omega arith in
    ap (is_grown place) (found ∙ ap (λ l. get_or l place node) same) ∙ (rw zero_place at read)

-- the offset of a part is that of its datum
pub read_offset : (ds : List Sited) (place : ℕ) (node : FlatPart) → site_at ds place ≡ node_site ds node → node.at ≡ site (site_at ds place)
read_offset ds place node part = sym (ap site part ∙ offset ds node.at node.part)
  where
    offset : (ds : List Sited) (at : ℕ) (part : Part) → site (part_site ds at part) ≡ at
    offset ds at (Name s) = refl
    offset ds at (Text s) = refl
    offset ds at (Number n) = refl
    offset ds at (Truth b) = refl
    offset ds at Nil = refl
    offset ds at (Pair a d) = refl
