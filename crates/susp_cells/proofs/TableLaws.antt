-- Suspensions of a shared table: those inside one of them are of the table too, and so is what it is settled with.
use Rattle.std.proofs.Common.{◌≡◌, ℕ, List, sym, ◌∙◌, ap, ap₂, subst, map}
use Rattle.std.specs.Prelude.{Option, Some, None, option_map, IfSome, true}
use Rattle.kan_model.specs.declared.stores.Store.{Ghosts}
use Rattle.kan_model.specs.Programs.Goals.{Program}
use Rattle.kan_model.specs.Stores.Store as facts
use Rattle.kan_model.specs.Streams.Stream as model
use Rattle.kan_model.specs.Streams.Bounds.{Fits, StreamFits}
use Rattle.kan_model.specs.Streams.Running.{force}
use Rattle.stream_core.specs.Suspensions.{going_on, ThunkBelongs}
use Rattle.kan_model.specs.Programs.Scope.{is_small}
use Rattle.stream_core.specs.CounterBounds.{RestFits}
use Rattle.stream_core.proofs.ClosedLaws.{program-closed}
use Rattle.stream_core.proofs.FitLaws.{force-fits}
use Rattle.stream_core.specs.declared.streams.Thunk.{Thunk}
use Rattle.stream_core.specs.declared.streams.Thunk.TheVariants.{Call, Pause, Swap, Bind}
use Rattle.boxcar.specs.Table.{Where}
use Rattle.susp_cells.specs.Sketches.{program_in, program-read}
use Rattle.susp_cells.specs.Places.{Place, names_of, label_program, label_tree, told_program, told_tree, IsBeside}
use Rattle.susp_cells.specs.Tables.{program_of, known_place, known_tree, known_value, IsIn, IsForcedIn, IsKnownIn}
use Rattle.susp_cells.specs.declared.forced.Forced.{Forced}
use Rattle.susp_cells.specs.declared.forced.Known.{Known}
use Rattle.susp_cells.specs.declared.suspensions.Label.{Label}
use Rattle.susp_cells.specs.declared.tables.Table.{Table}

some-like : {X : Type 0} (P Q : X → Type 0) → ((x : X) → P x → Q x) → (o : Option X) → IfSome o P → IfSome o Q
some-like P Q f None h = tt
some-like P Q f (Some x) h = f x h

thunk-like : {I St : Type 0} (P Q : I → Type 0) → ((i : I) → P i → Q i) → (t : Thunk I St) → ThunkBelongs P t → ThunkBelongs Q t
thunk-like P Q f (Call rel args store) h = tt
thunk-like P Q f (Pause goal env store) h = tt
thunk-like P Q f (Swap heads tail inner) (first, rest) = (some-like P Q f tail first, f inner rest)
thunk-like P Q f (Bind goal env inner) h = f inner h

rest-fits : (program : Program) (low high : ℕ) (s : model.Stream) → RestFits program low high s → StreamFits program s
rest-fits program low high (model.Stream.ends hs) rest = tt
rest-fits program low high (model.Stream.goes_on hs i) rest = rest.0

module _ {St : Type 0} {g : Ghosts St} (t : Table St g) where
  -- a suspension whose label is among the table's
  pub inside-of : (p : Place) (w : Where Label) (l : Label) → p.home ≡ names_of t.labels → w ≡ p.token → l ≡ w.value → told_program l ≡ program_in t.labels.tag → Fits (label_program p) (label_tree p) → IsIn t p
  inside-of p w l home token is told fits =
      let program : label_program p ≡ program_of t = ap (λ x. told_program x.value) (sym token) ∙ ap told_program (sym is) ∙ told ∙ ap program_in t.drawn ∙ program-read _ _ in
      record { home = home; program = program; fits = subst (λ q. Fits q (label_tree p)) program fits }

  beside-in : (p i : Place) → IsIn t p → IsBeside p i → Fits (program_of t) (label_tree i) → IsIn t i
  beside-in p i inside beside fits = record { home = beside.0 ∙ inside.home; program = beside.1 ∙ inside.program; fits = fits }

  -- the tail of a stream that fits
  pub tail-in : (p : Place) (hs : List facts.Store) (tail : Option Place) → IsIn t p → IfSome tail (IsBeside p) → StreamFits (program_of t) (going_on hs (option_map label_tree tail)) → IfSome tail (IsIn t)
  tail-in p hs None inside beside fits = tt
  tail-in p hs (Some i) inside beside fits = beside-in p i inside beside fits

  -- the force of a suspension of the table, and the ids in it
  pub forced-in : (p : Place) (f : Forced St g) → is_small (program_of t) ≡ true → IsIn t p → f.of.home ≡ names_of t.labels → f.of.token.value ≡ p.token.value → IsForcedIn t (label_tree p) f
  forced-in p f small inside home same =
      let program : label_program f.of ≡ program_of t = ap told_program same ∙ inside.program in
      let tree : label_tree f.of ≡ label_tree p = ap told_tree same in
      let is : going_on (map g.meaning f.heads) (option_map label_tree f.tail) ≡ force (program_of t) (label_tree p) = f.is_force.1 ∙ ap₂ force program tree in
      let of_in : IsIn t f.of = record { home = home; program = program; fits = subst (Fits (program_of t)) (sym tree) inside.fits } in
      let fits : StreamFits (program_of t) (force (program_of t) (label_tree p)) = rest-fits _ _ _ (force (program_of t) (label_tree p)) (force-fits (program_of t) (label_tree p) (program-closed t.program.now small) inside.fits).tail in
      (tail-in f.of (map g.meaning f.heads) f.tail of_in f.is_force.0 (subst (StreamFits (program_of t)) (sym is) fits), is)

  -- what is known is the force of what the suspension stands for
  pub known-in : (k : Known St g) → is_small (program_of t) ≡ true → IsKnownIn t k → IsForcedIn t (known_tree k) (known_value k)
  known-in k small known = forced-in (known_place t k) (known_value k) small known.inside known.home known.same
