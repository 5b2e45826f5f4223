-- What is known of a settled suspension, from its label, its cell and the value in it.
use Rattle.std.proofs.Common.{◌≡◌, ℕ, zero, suc, List, [], ◌∷◌, refl, sym, ◌∙◌, ap, subst, map}
use Rattle.std.specs.Prelude.{true, slice_index_or}
use Rattle.boxcar.specs.Slot.{Named}
use Rattle.boxcar.specs.Table.{Where, Shelves, Shows, id_at, others}
use Rattle.kan_model.specs.declared.stores.Store.{Ghosts}
use Rattle.susp_cells.specs.Places.{Place, bucket_name, names_of, told_program, told_tree, label_tree, IsOf}
use Rattle.susp_cells.specs.Tables.{program_of, known_value, IsIn, IsForcedIn, IsKnownIn, KnowsOf, IsFound}
use Rattle.susp_cells.specs.declared.suspensions.Label.{Label}
use Rattle.susp_cells.specs.declared.tables.Table.{Table}
use Rattle.susp_cells.specs.declared.forced.Forced.{Forced}
use Rattle.susp_cells.specs.declared.forced.Known.{Known}
use Rattle.susp_cells.proofs.TableLaws.{forced-in, known-in}
use Rattle.kan_model.specs.Programs.Scope.{is_small}

name-at : (slots : List Named) (i : ℕ) → slice_index_or (map bucket_name slots) i 0 ≡ id_at slots i
name-at [] i = refl
name-at (n ∷ slots) zero = refl
name-at (n ∷ slots) (suc i) = name-at slots i

-- the token is of the vector whose buckets have these names
shows-of : (v : Shelves) (names : List ℕ) (w : Where Label) → names ≡ names_of v → IsOf names w → Shows v w
shows-of v names w is of = of ∙ ap (λ ns. slice_index_or ns w.bucket 0) is ∙ name-at v.buckets w.bucket

-- the value of an entry is of its vector's table
pub home-of : (home tag names home_names : List ℕ) (n : ℕ) → home ≡ others tag → tag ≡ n ∷ names → names ≡ home_names → home ≡ home_names
home-of home tag names home_names n is tagged named = is ∙ ap others tagged ∙ named

module _ {St : Type 0} {g : Ghosts St} (t : Table St g) where
  -- a token's place is that of the suspension
  place-in : (p : Place) (w : Where Label) → IsIn t p → w ≡ p.token → IsIn t (record { home = names_of t.labels; token = w })
  place-in p w inside is = record {
    home = refl;
    program = ap (λ x. told_program x.value) is ∙ inside.program;
    fits = subst (λ x. IsFitting x) (sym is) inside.fits;
  }
    where
      IsFitting : Where Label → Type 0
      IsFitting x = Rattle.kan_model.specs.Streams.Bounds.Fits (program_of t) (told_tree x.value)

  pub knows-of : (p : Place) (k : Known St g) (w : Where Label) → IsIn t p → w ≡ p.token → IsOf p.home p.token → k.label ≡ w → Shows t.cells.all k.cell → (known_value k).of.home ≡ names_of t.labels →
      (known_value k).of.token.value ≡ w.value → KnowsOf t p k
  knows-of p k w inside token shown label cell home same = (
    record {
      label = subst (Shows t.labels) (sym (label ∙ token)) (shows-of t.labels p.home p.token inside.home shown);
      cell = cell;
      inside = place-in p k.label inside (label ∙ token);
      home = home;
      same = same ∙ ap (λ x. x.value) (sym label);
    },
    ap (λ x. x.index) (label ∙ token),
    ap (λ x. told_tree x.value) (label ∙ token),
  )

  -- a value that was found in the suspension's cell
  pub found-is : (p : Place) (f : Forced St g) (k : Known St g) (w v : Where Label) → is_small (program_of t) ≡ true → IsIn t p → w ≡ p.token → IsOf p.home p.token → k.label ≡ w → Shows t.cells.all k.cell →
      f.of.home ≡ names_of t.labels → v ≡ f.of.token → v.value ≡ w.value → known_value k ≡ f → IsFound t p f k
  found-is p f k w v small inside token shown label cell home of same seen =
      let value : f.of.token.value ≡ w.value = ap (λ x. x.value) (sym of) ∙ same in (
        knows-of p k w inside token shown label cell (ap (λ x. x.of.home) seen ∙ home) (ap (λ x. x.of.token.value) seen ∙ value),
        seen,
        forced-in t p f small inside home (value ∙ ap (λ x. x.value) token),
      )

  -- a value that was settled before
  pub theirs-is : (p : Place) (f : Forced St g) (k : Known St g) → IsFound t p f k → KnowsOf t p k × IsForcedIn t (label_tree p) (known_value k)
  theirs-is p f k (knows, seen, forced) = (knows, subst (IsForcedIn t (label_tree p)) (sym seen) forced)

  pub value-is : (k : Known St g) (f : Forced St g) → is_small (program_of t) ≡ true → IsKnownIn t k → f ≡ known_value k → IsForcedIn t (told_tree k.label.value) f
  value-is k f small known is = subst (IsForcedIn t (told_tree k.label.value)) (sym is) (known-in t k small known)
