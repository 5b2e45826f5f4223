-- Suspensions of the code that were taken apart, and what those around others make of streams.
use Rattle.std.specs.Prelude.{◌≡◌, ℕ, ◌<◌, ◌≤◌, ◌^◌, List, length, false}
use Rattle.kan_model.specs.Streams.Bounds.{top}
use Rattle.kan_model.specs.Programs.Environments.{terms_of}
use Rattle.kan_model.specs.Stores.Store as facts
use Rattle.kan_model.specs.Streams.Stream as model
use Rattle.kan_model.specs.declared.environment.Env.{Env}
use Rattle.stream_core.specs.InnerSuspensions.{has_inner, MayForce}
use Rattle.stream_core.specs.Suspensions.{goal_in}
use Rattle.stream_core.specs.Surroundings as outer
use Rattle.stream_core.specs.Tables.{Table, IsForce, thunk_in}
use Rattle.stream_core.specs.declared.streams.Stream.{Stream}
use Rattle.stream_core.specs.declared.nodes.Innermost.{Innermost}
use Rattle.stream_core.specs.declared.nodes.Innermost.TheVariants.{Last, Shared}
use Rattle.stream_core.specs.declared.nodes.Parted.{Parted}
use Rattle.stream_core.specs.declared.nodes.Closed.{Closed}
use Rattle.stream_core.specs.declared.nodes.Closed.TheVariants.{Made, Run}

module _ {I St : Type 0} (t : Table I) (means : St → facts.Store) where
  -- the innermost suspension is this one: it has none inside, or an id of the table
  abbrev pub StandsInnermost : model.Thunk → Innermost I St → Type 0
  StandsInnermost tree (Last thunk) = (thunk_in t means thunk ≡ tree) × (has_inner tree ≡ false)
  StandsInnermost tree (Shared id) = (t.tree id ≡ tree) × t.belongs id

  -- the innermost suspension may be forced
  abbrev pub MayForceInnermost : Innermost I St → Type 0
  MayForceInnermost (Last thunk) =
      MayForce t.program (thunk_in t means thunk) × (has_inner (thunk_in t means thunk) ≡ false)
  MayForceInnermost (Shared id) = t.belongs id × (top (t.tree id) ≤ 2 ^ 62)

module _ {A I St : Type 0} (t : Table I) (around_in : A → List outer.Around)
    (means : St → facts.Store) where
  -- a suspension that was taken apart
  pub record IsParted (whole : model.Thunk) (parted : Parted A I St) : Type 0 where
    pub tree : model.Thunk
    pub is : outer.within_all (around_in parted.around) tree ≡ whole
    pub innermost : StandsInnermost t means tree parted.innermost

  -- a stream is the force of a suspension that is the whole one with what stands around it
  pub record IsForceWithin (whole : model.Thunk) (around : A) (s : Stream I St) : Type 0 where
    pub tree : model.Thunk
    pub is : outer.within_all (around_in around) tree ≡ whole
    pub force : IsForce t means tree s

  -- a stream is the force of a suspension for whose stores a goal waits, and there are fewer around
  -- that
  pub record IsForceOfBound (whole : model.Thunk) (around : A) (g : ℕ) (env : Env)
      (s : Stream I St) (shorter : A) : Type 0 where
    pub tree : model.Thunk
    pub is : outer.within_all (around_in shorter)
        (model.Thunk.bind (goal_in t.program g) (terms_of env) tree) ≡ whole
    pub force : IsForce t means tree s
    pub fewer : length (around_in shorter) < length (around_in around)

  -- what is made of a stream inside suspensions
  abbrev pub StandsClosed : model.Thunk → A → Closed A I St → Type 0
  StandsClosed whole around (Made s) = IsForce t means whole s
  StandsClosed whole around (Run g env s shorter) = IsForceOfBound whole around g env s shorter
