-- Rows that are added and streams that are kept: what belonged to the table belongs to it still.
use Rattle.std.proofs.Common.{◌≡◌, ◌⊎◌, inl, inr, ℕ, zero, suc, ◌<◌, Bool, true, false, List, [], ◌∷◌, ◌++◌, length, map, refl, sym, ◌∙◌, ap, ap₂, subst, arith, get_or, if◌then◌else◌}
use Rattle.std.specs.Prelude.{Option, Some, None, option_map, slice_get, slice_set, unwrap_or, is_some, IfSome}
use Rattle.std.proofs.Math.Logic.{⊎_elim}
use Rattle.std.proofs.lemmas.List.{map-append, length-map, length-append}
use Rattle.kan_model.specs.Programs.Goals.{Program}
use Rattle.kan_model.specs.Stores.Store as facts
use Rattle.kan_model.specs.Streams.Stream as model
use Rattle.kan_model.specs.Streams.Running.{force}
use Rattle.kan_model.specs.Streams.Bounds.{Fits}
use Rattle.stream_core.specs.Suspensions as standing
use Rattle.stream_core.specs.Suspensions.{inner_id, Stays, ThunkBelongs, ForceOf}
use Rattle.stream_core.specs.Tables.{GrowsBy, KeepsMore, OnlyAdds}
use Rattle.stream_core.specs.TableKinds.PlainTables.{rows_table}
use Rattle.stream_core.specs.TableKinds.PlainTrees.{no_thunk, trees_after, all_grown, is_placed, grown_tree}
use Rattle.stream_core.specs.TableKinds.PlainRows.{thunks, is_kept_at, inner_at, row_tree, RowIsSound, IsSound, BelongsTo}
use Rattle.stream_core.specs.declared.streams.Thunk.{Thunk}
use Rattle.stream_core.specs.declared.streams.Thunk.TheVariants.{Call, Pause, Swap, Bind}
use Rattle.stream_core.specs.declared.streams.Stream.{Stream}
use Rattle.stream_core.specs.declared.plain_nodes.PlainId.{PlainId}
use Rattle.stream_core.specs.declared.plain_nodes.Row.{Row}
use Rattle.stream_core.proofs.TableKinds.PlainTreeLaws.{added, grows-by, grown-more, stands-for}
use Rattle.stream_core.proofs.TableLaws.{adds_same}
use Rattle.stream_core.proofs.StreamLaws.{stream-stays, stays-same}

-- reading lists
get-some : {X : Type 0} (xs : List X) (i : ℕ) (x : X) → i < length xs → x ≡ get_or xs i x → slice_get xs i ≡ Some x
get-some [] i x low is = let none : ⊥ = omega (arith, low) in absurd none
get-some (y ∷ xs) zero x low is = ap Some (sym is)
get-some (y ∷ xs) (suc i) x low is = get-some xs i x (omega (arith, low)) is

get-none : {X : Type 0} (xs : List X) (i : ℕ) → i < length xs → slice_get xs i ≡ None → ⊥
get-none [] i low is = omega (arith, low)
get-none (y ∷ xs) zero low is = cc
get-none (y ∷ xs) (suc i) low is = get-none xs i (omega (arith, low)) is

get-more : {X : Type 0} (xs ys : List X) (i : ℕ) (x : X) → slice_get xs i ≡ Some x → slice_get (xs ++ ys) i ≡ Some x
get-more [] ys i x is = cc
get-more (y ∷ xs) ys zero x is = is
get-more (y ∷ xs) ys (suc i) x is = get-more xs ys i x is

get-last : {X : Type 0} (xs : List X) (x : X) → slice_get (xs ++ x ∷ []) (length xs) ≡ Some x
get-last [] x = refl
get-last (y ∷ xs) x = get-last xs x

-- a list with one element set: that element, or what stood there
get-set : {X : Type 0} (xs : List X) (i j : ℕ) (x y : X) → slice_get xs j ≡ Some y → ((j ≡ i) × (slice_get (slice_set xs i x) j ≡ Some x)) ⊎ (slice_get (slice_set xs i x) j ≡ Some y)
get-set [] i j x y is = cc
get-set (z ∷ xs) zero zero x y is = inl (refl, refl)
get-set (z ∷ xs) zero (suc j) x y is = inr is
get-set (z ∷ xs) (suc i) zero x y is = inr is
get-set (z ∷ xs) (suc i) (suc j) x y is = moved (get-set xs i j x y is)
  where
    moved : ((j ≡ i) × (slice_get (slice_set xs i x) j ≡ Some x)) ⊎ (slice_get (slice_set xs i x) j ≡ Some y) →
        ((suc j ≡ suc i) × (slice_get (slice_set xs i x) j ≡ Some x)) ⊎ (slice_get (slice_set xs i x) j ≡ Some y)
    moved (inl (same, found)) = inl (ap suc same, found)
    moved (inr found) = inr found

-- ids that belong to one belong to another
tail-like : (P Q : PlainId → Type 0) → ((id : PlainId) → P id → Q id) → (o : Option PlainId) → IfSome o P → IfSome o Q
tail-like P Q f None h = h
tail-like P Q f (Some id) h = f id h

-- ids that belong for each number belong at all
tail-all : (P : ℕ → PlainId → Type 0) (o : Option PlainId) → ((n : ℕ) → IfSome o (P n)) → IfSome o (λ id. (n : ℕ) → P n id)
tail-all P None h = tt
tail-all P (Some id) h = h

module _ {St : Type 0} where
  pub placed-within : (rows : List (Row St)) (id : PlainId) → is_placed (thunks rows) id → id.at < length rows
  placed-within rows id placed = let same = length-map rows (λ row. row.thunk) in omega (arith, placed, same)

  thunk-at : (rows : List (Row St)) (i : ℕ) (row : Row St) → i < length rows → row ≡ get_or rows i row → row.thunk ≡ get_or (thunks rows) i row.thunk
  thunk-at [] i row low is = refl
  thunk-at (r ∷ rows) zero row low is = ap (λ q. q.thunk) is
  thunk-at (r ∷ rows) (suc i) row low is = thunk-at rows i row (omega (arith, low)) is

  thunks-set : (rows : List (Row St)) (i : ℕ) (was now : Row St) → was ≡ get_or rows i was → now.thunk ≡ was.thunk → thunks (slice_set rows i now) ≡ thunks rows
  thunks-set [] i was now is same = refl
  thunks-set (row ∷ rows) zero was now is same = ap (λ t. t ∷ thunks rows) (same ∙ ap (λ r. r.thunk) is)
  thunks-set (row ∷ rows) (suc i) was now is same = ap (λ ts. row.thunk ∷ ts) (thunks-set rows i was now is same)

  -- a stream more that is kept changes no suspension
  pub rows-kept : (rows : List (Row St)) (i : ℕ) (was now : Row St) → was ≡ get_or rows i was → now.thunk ≡ was.thunk → all_grown 0 (thunks rows) ≡ true → all_grown 0 (thunks (slice_set rows i now)) ≡ true
  rows-kept rows i was now is same grown = ap (all_grown 0) (thunks-set rows i was now is same) ∙ grown

  -- what is told of a row
  pub told-row : (rows : List (Row St)) (i : ℕ) (row : Row St) → i < length rows → row ≡ get_or rows i row → is_kept_at rows i ≡ is_some row.kept
  told-row [] i row low is = let none : ⊥ = omega (arith, low) in absurd none
  told-row (r ∷ rows) zero row low is = ap (λ q. is_some q.kept) (sym is)
  told-row (r ∷ rows) (suc i) row low is = told-row rows i row (omega (arith, low)) is

  pub inner-row : (rows : List (Row St)) (i : ℕ) (row : Row St) → i < length rows → row ≡ get_or rows i row → inner_at rows i ≡ inner_id row.thunk
  inner-row [] i row low is = let none : ⊥ = omega (arith, low) in absurd none
  inner-row (r ∷ rows) zero row low is = ap (λ q. inner_id q.thunk) (sym is)
  inner-row (r ∷ rows) (suc i) row low is = inner-row rows i row (omega (arith, low)) is

  -- a row without a stream more
  told-more : (rows : List (Row St)) (row : Row St) (i : ℕ) → row.kept ≡ None → is_kept_at (rows ++ row ∷ []) i ≡ is_kept_at rows i
  told-more [] row zero none = ap is_some none
  told-more [] row (suc i) none = refl
  told-more (r ∷ rows) row zero none = refl
  told-more (r ∷ rows) row (suc i) none = told-more rows row i none

  told-last : (rows : List (Row St)) (i : ℕ) → i ≡ length rows → is_kept_at rows i ≡ false
  told-last [] i is = refl
  told-last (r ∷ rows) zero is = let none : ⊥ = omega (arith, is) in absurd none
  told-last (r ∷ rows) (suc i) is = told-last rows i (omega (arith, is))

  inner-more : (rows more : List (Row St)) (i : ℕ) → i < length rows → inner_at (rows ++ more) i ≡ inner_at rows i
  inner-more [] more i low = let none : ⊥ = omega (arith, low) in absurd none
  inner-more (r ∷ rows) more zero low = refl
  inner-more (r ∷ rows) more (suc i) low = inner-more rows more i (omega (arith, low))

  -- a row that is set
  told-set : (rows : List (Row St)) (i : ℕ) (now : Row St) → i < length rows → is_kept_at (slice_set rows i now) i ≡ is_some now.kept
  told-set [] i now low = let none : ⊥ = omega (arith, low) in absurd none
  told-set (r ∷ rows) zero now low = refl
  told-set (r ∷ rows) (suc i) now low = told-set rows i now (omega (arith, low))

  told-other : (rows : List (Row St)) (i j : ℕ) (now : Row St) → (j ≡ i) ⊎ (is_kept_at (slice_set rows i now) j ≡ is_kept_at rows j)
  told-other [] i j now = inr refl
  told-other (r ∷ rows) zero zero now = inl refl
  told-other (r ∷ rows) zero (suc j) now = inr refl
  told-other (r ∷ rows) (suc i) zero now = inr refl
  told-other (r ∷ rows) (suc i) (suc j) now = ⊎_elim (λ same. inl (ap suc same)) (λ same. inr same) (told-other rows i j now)

  inner-set : (rows : List (Row St)) (i j : ℕ) (was now : Row St) → was ≡ get_or rows i was → now.thunk ≡ was.thunk → inner_at (slice_set rows i now) j ≡ inner_at rows j
  inner-set [] i j was now is same = refl
  inner-set (r ∷ rows) zero zero was now is same = ap inner_id (same ∙ ap (λ q. q.thunk) is)
  inner-set (r ∷ rows) zero (suc j) was now is same = refl
  inner-set (r ∷ rows) (suc i) zero was now is same = refl
  inner-set (r ∷ rows) (suc i) (suc j) was now is same = inner-set rows i j was now is same

  -- and the same of a suspension's ids
  thunk-like : (P Q : PlainId → Type 0) → ((id : PlainId) → P id → Q id) → (t : Thunk PlainId St) → ThunkBelongs P t → ThunkBelongs Q t
  thunk-like P Q f (Call rel args store) h = tt
  thunk-like P Q f (Pause g env store) h = tt
  thunk-like P Q f (Swap heads tail inner) (h, k) = (tail-like P Q f tail h, f inner k)
  thunk-like P Q f (Bind g env inner) h = f inner h

  thunk-all : (P : ℕ → PlainId → Type 0) (t : Thunk PlainId St) → ((n : ℕ) → ThunkBelongs (P n) t) → ThunkBelongs (λ id. (n : ℕ) → P n id) t
  thunk-all P (Call rel args store) h = tt
  thunk-all P (Pause g env store) h = tt
  thunk-all P (Swap heads tail inner) h = (tail-all P tail (λ n. (h n).0), λ n. (h n).1)
  thunk-all P (Bind g env inner) h = h

module _ {St : Type 0} (means : St → facts.Store) (program : Program) where
  -- what a row becomes: it names what it named, and keeps the force of its tree where it kept that before
  abbrev pub RowFollows : List (Row St) → PlainId → Row St → Option (Row St) → Type 0
  RowFollows old id was None = ⊥
  RowFollows old id was (Some now) =
      (now.thunk ≡ was.thunk)
      × ((n : ℕ) → IfSome was.kept (ForceOf (IsSound means program n old) (row_tree means program old) means program (row_tree means program old id))
      → IfSome now.kept (ForceOf (IsSound means program n old) (row_tree means program old) means program (row_tree means program old id)))

  pub record RowsFollow (old new : List (Row St)) : Type 0 where
    pub grows : Stays (is_placed (thunks old)) (row_tree means program old) (is_placed (thunks new)) (row_tree means program new)
    pub rows : (id : PlainId) (was : Row St) → slice_get old id.at ≡ Some was → RowFollows old id was (slice_get new id.at)

  sound-placed : (n : ℕ) (rows : List (Row St)) (id : PlainId) → IsSound means program n rows id → is_placed (thunks rows) id × Fits program (row_tree means program rows id)
  sound-placed zero rows id h = h
  sound-placed (suc n) rows id (placed, fits, row) = (placed, fits)

  module _ (old new : List (Row St)) (follow : RowsFollow old new) where
    kept-follows : (n : ℕ) → ((id : PlainId) → IsSound means program n old id → IsSound means program n new id) → (id : PlainId) → row_tree means program new id ≡ row_tree means program old id →
        (kept : Option (Stream PlainId St)) → IfSome kept (ForceOf (IsSound means program n old) (row_tree means program old) means program (row_tree means program old id)) →
        IfSome kept (ForceOf (IsSound means program n new) (row_tree means program new) means program (row_tree means program new id))
    kept-follows n ih id same None h = h
    kept-follows n ih id same (Some s) (belong, is) = (
      tail-like (IsSound means program n old) (IsSound means program n new) ih s.tail belong,
      stream-stays (IsSound means program n old) (IsSound means program n new) (row_tree means program old) (row_tree means program new) means
          (λ j h. (ih j h, (follow.grows j (sound-placed n old j h).0).1)) s belong ∙ is ∙ ap (force program) (sym same),
    )

    row-follows : (n : ℕ) → ((id : PlainId) → IsSound means program n old id → IsSound means program n new id) → (id : PlainId) → is_placed (thunks old) id →
        row_tree means program new id ≡ row_tree means program old id → (o : Option (Row St)) → slice_get old id.at ≡ o →
        IfSome o (RowIsSound means program (IsSound means program n old) (row_tree means program old) (row_tree means program old id)) →
        IfSome (slice_get new id.at) (RowIsSound means program (IsSound means program n new) (row_tree means program new) (row_tree means program new id))
    row-follows n ih id placed same None found h = absurd (get-none old id.at (placed-within old id placed) found)
    row-follows n ih id placed same (Some was) found (belong, kept) = go (slice_get new id.at) (follow.rows id was found)
      where
        go : (q : Option (Row St)) → RowFollows old id was q → IfSome q (RowIsSound means program (IsSound means program n new) (row_tree means program new) (row_tree means program new id))
        go None bad = absurd bad
        go (Some now) (named, more) = (
          thunk-like (IsSound means program n old) (IsSound means program n new) ih now.thunk (subst (ThunkBelongs (IsSound means program n old)) (sym named) belong),
          kept-follows n ih id same now.kept (more n kept),
        )

    sound-follows : (n : ℕ) (id : PlainId) → IsSound means program n old id → IsSound means program n new id
    sound-follows zero id (placed, fits) = let (there, same) = follow.grows id placed in (there, subst (Fits program) (sym same) fits)
    sound-follows (suc n) id (placed, fits, row) =
        let (there, same) = follow.grows id placed in
        (there, subst (Fits program) (sym same) fits, row-follows n (λ j h. sound-follows n j h) id placed same (slice_get old id.at) refl row)

    pub belongs-follows : Stays (BelongsTo means program old) (row_tree means program old) (BelongsTo means program new) (row_tree means program new)
    belongs-follows id h = ((λ n. sound-follows n id (h n)), (follow.grows id (h 0).0).1)

  follows-same : (rows : List (Row St)) → RowsFollow rows rows
  follows-same rows = record {
    grows = stays-same (is_placed (thunks rows)) (row_tree means program rows);
    rows = λ id was found. subst (RowFollows rows id was) (sym found) (refl, λ n h. h);
  }

  -- a row more, where there was memory for it
  follows-pushed : (old new : List (Row St)) (row : Row St) (ok : Bool) → new ≡ (if ok then old ++ row ∷ [] else old) → RowsFollow old new
  follows-pushed old new row false is = rw is (follows-same old)
  follows-pushed old new row true is = rw is (record {
    grows = grows-by means program (thunks old) (thunks (old ++ row ∷ [])) row.thunk true (map-append (λ r. r.thunk) old (row ∷ []));
    rows = λ id was found. subst (RowFollows old id was) (sym (get-more old (row ∷ []) id.at was found)) (refl, λ n h. h);
  })

  pub pushed-grows : (old new : List (Row St)) (row : Row St) (ok : Bool) → new ≡ (if ok then old ++ row ∷ [] else old) →
      Stays (BelongsTo means program old) (row_tree means program old) (BelongsTo means program new) (row_tree means program new)
  pushed-grows old new row ok is = belongs-follows old new (follows-pushed old new row ok is)

  -- a row more adds a suspension, and keeps no stream
  pub pushed-adds : (old new : List (Row St)) (row : Row St) (ok : Bool) → new ≡ (if ok then old ++ row ∷ [] else old) → row.kept ≡ None → OnlyAdds (rows_table means program old) (rows_table means program new)
  pushed-adds old new row false is none = rw is (adds_same (rows_table means program old))
  pushed-adds old new row true is none = record {
    program = refl;
    ids = pushed-grows old new row true is;
    inner = λ id h. ap (λ rows. inner_at rows id.at) is ∙ inner-more old (row ∷ []) id.at (placed-within old id (h 0).0);
    kept = ap (λ rows (id : PlainId). is_kept_at rows id.at) is ∙ (λ i (id : PlainId). told-more old row id.at none i);
  }

  -- nothing is kept for it
  pub pushed-empty : (old new : List (Row St)) (row : Row St) (id : PlainId) → new ≡ old ++ row ∷ [] → row.kept ≡ None → id.at ≡ length old → is_kept_at new id.at ≡ false
  pushed-empty old new row id is none place = ap (λ rows. is_kept_at rows id.at) is ∙ told-more old row id.at none ∙ told-last old id.at place

  pub pushed-longer : (old new : List (Row St)) (row : Row St) → new ≡ old ++ row ∷ [] → Some (length new) ≡ Some (suc (length old))
  pushed-longer old new row is = let one = length-append old (row ∷ []) in let long : length (old ++ row ∷ []) ≡ suc (length old) = omega (arith, one) in ap Some (ap length is ∙ long)

  -- the row that was added
  pub pushed-belongs : (old new : List (Row St)) (row : Row St) (id : PlainId) → new ≡ old ++ row ∷ [] → row.kept ≡ None → id.at ≡ length old → ThunkBelongs (BelongsTo means program old) row.thunk →
      Fits program (standing.thunk (row_tree means program old) means (standing.goal_in program) row.thunk) →
      BelongsTo means program new id × (row_tree means program new id ≡ standing.thunk (row_tree means program old) means (standing.goal_in program) row.thunk)
  pushed-belongs old new row id is none place belong fits =
      let long = length-map old (λ r. r.thunk) in
      let (there, tree) = added means program (thunks old) (thunks new) row.thunk id (ap thunks is ∙ map-append (λ r. r.thunk) old (row ∷ [])) (place ∙ sym long) in
      let fit = subst (Fits program) (sym tree) fits in
      let follow = belongs-follows old new (follows-pushed old new row true is) in
      let found : slice_get new id.at ≡ Some row = ap₂ slice_get is place ∙ get-last old row in
      (go there fit found (λ j h. (follow j h).0), tree)
    where
      go : is_placed (thunks new) id → Fits program (row_tree means program new id) → slice_get new id.at ≡ Some row →
          ((j : PlainId) → BelongsTo means program old j → BelongsTo means program new j) → BelongsTo means program new id
      go there fit found follow zero = (there, fit)
      go there fit found follow (suc n) = (
        there,
        fit,
        subst (λ o. IfSome o (RowIsSound means program (IsSound means program n new) (row_tree means program new) (row_tree means program new id))) (sym found) (
          thunk-like (BelongsTo means program old) (IsSound means program n new) (λ j h. follow j h n) row.thunk belong,
          subst (λ o. IfSome o (ForceOf (IsSound means program n new) (row_tree means program new) means program (row_tree means program new id))) (sym none) tt,
        ),
      )

  -- a copy of a force is one
  copied-force : (belongs : PlainId → Type 0) (tree : PlainId → model.Thunk) (t : model.Thunk) (s copy : Stream PlainId St) → copy.tail ≡ s.tail → map means copy.heads ≡ map means s.heads →
      ForceOf belongs tree means program t s → ForceOf belongs tree means program t copy
  copied-force belongs tree t s copy tail heads (belong, is) =
      (subst (λ o. IfSome o belongs) (sym tail) belong, ap₂ (λ hs o. standing.going_on hs (option_map tree o)) heads tail ∙ is)

  -- the stream that is kept for an id that belongs
  pub kept-is-force : (rows : List (Row St)) (id : PlainId) (row : Row St) (s copy : Stream PlainId St) → BelongsTo means program rows id → row ≡ get_or rows id.at row → row.kept ≡ Some s →
      copy.tail ≡ s.tail → map means copy.heads ≡ map means s.heads → ForceOf (BelongsTo means program rows) (row_tree means program rows) means program (row_tree means program rows id) copy
  kept-is-force rows id row s copy belongs is kept tail heads =
      let found = get-some rows id.at row (placed-within rows id (belongs 0).0) is in
      let at_each : (n : ℕ) → ForceOf (IsSound means program n rows) (row_tree means program rows) means program (row_tree means program rows id) s = λ n.
      subst (λ o. IfSome o (ForceOf (IsSound means program n rows) (row_tree means program rows) means program (row_tree means program rows id))) kept
      (subst (λ o. IfSome o (RowIsSound means program (IsSound means program n rows) (row_tree means program rows) (row_tree means program rows id))) found (belongs (suc n)).2).1 in
      copied-force (BelongsTo means program rows) (row_tree means program rows) (row_tree means program rows id) s copy tail heads
      (tail-all (λ n j. IsSound means program n rows j) s.tail (λ n. (at_each n).0), (at_each 0).1)

  -- the suspension of a row stands for its tree
  pub row-stands : (rows : List (Row St)) (id : PlainId) (row : Row St) → all_grown 0 (thunks rows) ≡ true → is_placed (thunks rows) id → row ≡ get_or rows id.at row →
      standing.thunk (row_tree means program rows) means (standing.goal_in program) row.thunk ≡ row_tree means program rows id
  row-stands rows id row grown placed is = stands-for means (standing.goal_in program) (thunks rows) id row.thunk grown placed (thunk-at rows id.at row (placed-within rows id placed) is)

  -- rows name earlier ones still
  pub rows-grown : (old new : List (Row St)) (row : Row St) (ok : Bool) → new ≡ (if ok then old ++ row ∷ [] else old) → all_grown 0 (thunks old) ≡ true → ThunkBelongs (BelongsTo means program old) row.thunk →
      all_grown 0 (thunks new) ≡ true
  rows-grown old new row false is grown belong = rw is grown
  rows-grown old new row true is grown belong =
      rw is (grown-more (thunks old) (thunks (old ++ row ∷ [])) row.thunk true (map-append (λ r. r.thunk) old (row ∷ [])) grown
      (thunk-like (BelongsTo means program old) (is_placed (thunks old)) (λ j h. (h 0).0) row.thunk belong))

  -- the suspension of an id that belongs
  pub row-belongs : (rows : List (Row St)) (id : PlainId) (row : Row St) → BelongsTo means program rows id → row ≡ get_or rows id.at row → ThunkBelongs (BelongsTo means program rows) row.thunk
  row-belongs rows id row belongs is =
      let found = get-some rows id.at row (placed-within rows id (belongs 0).0) is in
      thunk-all (λ n j. IsSound means program n rows j) row.thunk
      (λ n. (subst (λ o. IfSome o (RowIsSound means program (IsSound means program n rows) (row_tree means program rows) (row_tree means program rows id))) found (belongs (suc n)).2).0)

  -- the force of an id's tree kept for it
  follows-kept : (old : List (Row St)) (id : PlainId) (was now : Row St) (s copy : Stream PlainId St) → BelongsTo means program old id → was ≡ get_or old id.at was →
      now.thunk ≡ was.thunk → now.kept ≡ Some copy → copy.tail ≡ s.tail → map means copy.heads ≡ map means s.heads →
      ForceOf (BelongsTo means program old) (row_tree means program old) means program (row_tree means program old id) s → RowsFollow old (slice_set old id.at now)
  follows-kept old id was now s copy belongs is named kept tail heads forced =
      let same = thunks-set old id.at was now is named in
      record {
        grows = λ j placed. (subst (λ ts. is_placed ts j) (sym same) placed, ap (λ ts. grown_tree means program ts j) same);
        rows = λ j row found. set-follows j row found (get-set old id.at j.at now row found);
      }
    where
      set-follows : (j : PlainId) (row : Row St) → slice_get old j.at ≡ Some row → ((j.at ≡ id.at) × (slice_get (slice_set old id.at now) j.at ≡ Some now)) ⊎ (slice_get (slice_set old id.at now) j.at ≡ Some row) →
          RowFollows old j row (slice_get (slice_set old id.at now) j.at)
      set-follows j row found (inr stays) = subst (RowFollows old j row) (sym stays) (refl, λ n h. h)
      set-follows j row found (inl (place, set)) =
          let here : Some row ≡ Some was = sym found ∙ ap (slice_get old) place ∙ get-some old id.at was (placed-within old id (belongs 0).0) is in
          let is_row : row ≡ was = cc in
          let tree : row_tree means program old id ≡ row_tree means program old j = ap (λ k. unwrap_or (slice_get (trees_after means (standing.goal_in program) [] (thunks old)) k) no_thunk) (sym place) in
          let (belong, force_is) = copied-force (BelongsTo means program old) (row_tree means program old) (row_tree means program old id) s copy tail heads forced in
          subst (RowFollows old j row) (sym set) (
            named ∙ ap (λ r. r.thunk) (sym is_row),
            λ n h. subst (λ o. IfSome o (ForceOf (IsSound means program n old) (row_tree means program old) means program (row_tree means program old j))) (sym kept)
                (tail-like (BelongsTo means program old) (IsSound means program n old) (λ k g. g n) copy.tail belong, force_is ∙ ap (force program) tree),
          )

  pub kept-grows : (old : List (Row St)) (id : PlainId) (was now : Row St) (s copy : Stream PlainId St) → BelongsTo means program old id → was ≡ get_or old id.at was →
      now.thunk ≡ was.thunk → now.kept ≡ Some copy → copy.tail ≡ s.tail → map means copy.heads ≡ map means s.heads →
      ForceOf (BelongsTo means program old) (row_tree means program old) means program (row_tree means program old id) s →
      Stays (BelongsTo means program old) (row_tree means program old) (BelongsTo means program (slice_set old id.at now)) (row_tree means program (slice_set old id.at now))
  kept-grows old id was now s copy belongs is named kept tail heads forced =
      belongs-follows old (slice_set old id.at now) (follows-kept old id was now s copy belongs is named kept tail heads forced)

  -- a force is one still
  pub force-stays : (belonged belongs : PlainId → Type 0) (tree_was tree_is : PlainId → model.Thunk) (t : model.Thunk) (s : Stream PlainId St) → Stays belonged tree_was belongs tree_is →
      ForceOf belonged tree_was means program t s → ForceOf belongs tree_is means program t s
  force-stays belonged belongs tree_was tree_is t s stays (belong, is) =
      (tail-like belonged belongs (λ j h. (stays j h).0) s.tail belong, stream-stays belonged belongs tree_was tree_is means stays s belong ∙ is)

  -- a stream that is kept for an id
  pub kept-more : (old : List (Row St)) (id : PlainId) (was now : Row St) (s copy : Stream PlainId St) → BelongsTo means program old id → was ≡ get_or old id.at was →
      now.thunk ≡ was.thunk → now.kept ≡ Some copy → copy.tail ≡ s.tail → map means copy.heads ≡ map means s.heads →
      ForceOf (BelongsTo means program old) (row_tree means program old) means program (row_tree means program old id) s →
      GrowsBy (KeepsMore id) (rows_table means program old) (rows_table means program (slice_set old id.at now))
  kept-more old id was now s copy belongs is named kept tail heads forced = record {
    program = refl;
    ids = kept-grows old id was now s copy belongs is named kept tail heads forced;
    inner = λ other h. inner-set old id.at other.at was now is named;
    kept = (
      told-set old id.at now (placed-within old id (belongs 0).0) ∙ ap is_some kept,
      λ other. ⊎_elim (λ same. inl (ap (λ k. record { at = k }) same)) (λ same. inr same) (told-other old id.at other.at now),
    );
  }

  pub kept-force : (old : List (Row St)) (id : PlainId) (was now : Row St) (s copy : Stream PlainId St) → BelongsTo means program old id → was ≡ get_or old id.at was →
      now.thunk ≡ was.thunk → now.kept ≡ Some copy → copy.tail ≡ s.tail → map means copy.heads ≡ map means s.heads →
      ForceOf (BelongsTo means program old) (row_tree means program old) means program (row_tree means program old id) s →
      ForceOf (BelongsTo means program (slice_set old id.at now)) (row_tree means program (slice_set old id.at now)) means program (row_tree means program old id) s
  kept-force old id was now s copy belongs is named kept tail heads forced =
      force-stays (BelongsTo means program old) (BelongsTo means program (slice_set old id.at now)) (row_tree means program old) (row_tree means program (slice_set old id.at now)) (row_tree means program old id) s
      (kept-grows old id was now s copy belongs is named kept tail heads forced) forced
