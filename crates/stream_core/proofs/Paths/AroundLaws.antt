-- Suspensions taken apart and put together again.
use Rattle.std.proofs.Common.{◌≡◌, ℕ, ◌≤◌, ◌^◌, false, List, [], ◌∷◌, map, refl, sym, ◌∙◌, ap, subst}
use Rattle.std.specs.Prelude.{option_map}
use Rattle.kan_model.specs.Programs.Environments.{terms_of}
use Rattle.kan_model.specs.Programs.Goals.{Program}
use Rattle.kan_model.specs.Programs.Closed as programs
use Rattle.kan_model.specs.declared.program.Program as code
use Rattle.kan_model.specs.declared.environment.Env.{Env}
use Rattle.kan_model.specs.Stores.Store as facts
use Rattle.kan_model.specs.Streams.Bounds.{Fits, top}
use Rattle.kan_model.specs.Streams.Stream as model
use Rattle.kan_model.specs.Streams.Running.{run, force}
use Rattle.stream_core.specs.InnerSuspensions.{MayForce, has_inner}
use Rattle.stream_core.specs.Suspensions.{goal_in}
use Rattle.stream_core.specs.Surroundings as outer
use Rattle.stream_core.specs.Surroundings.{within, within_all, made_within}
use Rattle.stream_core.specs.CodeSurroundings.{StandsInnermost, MayForceInnermost, IsForceWithin, IsForceOfBound}
use Rattle.stream_core.specs.Tables.{Table, OnlyAdds, IsTableOf, HasStream, stream_in}
use Rattle.stream_core.specs.declared.nodes.Innermost.{Innermost}
use Rattle.stream_core.specs.declared.nodes.Innermost.TheVariants.{Last, Shared}
use Rattle.stream_core.specs.declared.streams.Stream.{Stream}
use Rattle.stream_core.proofs.Paths.ForceLaws.{swap-inner, bind-inner, climb-binds, MayBindForce}
use Rattle.stream_core.proofs.ClosedLaws.{program-closed}
use Rattle.stream_core.proofs.StreamLaws.{heads-going}

-- what stands inside a suspension that may be forced may be forced
within-may : (p : Program) (a : outer.Around) (i : model.Thunk) → MayForce p (within a i) → MayForce p i
within-may p (outer.Around.swap t) i may = swap-inner p t i may
within-may p (outer.Around.bind g env) i may = bind-inner p g env i may

all-may : (p : Program) (around : List outer.Around) (i : model.Thunk) → MayForce p (within_all around i) → MayForce p i
all-may p [] i may = may
all-may p (a ∷ around) i may = within-may p a i (all-may p around (within a i) may)

-- and fits the program where the whole one does
pub within-fits : (p : Program) (a : outer.Around) (i : model.Thunk) → Fits p (within a i) → Fits p i
within-fits p (outer.Around.swap t) i fits = fits.1
within-fits p (outer.Around.bind g env) i (there, slots, below, fits) = fits

pub all-fits : (p : Program) (around : List outer.Around) (i : model.Thunk) → Fits p (within_all around i) → Fits p i
all-fits p [] i fits = fits
all-fits p (a ∷ around) i fits = within-fits p a i (all-fits p around (within a i) fits)

-- what is made of the force of a suspension is the force of the whole one
pub made-force : (p : Program) (a : outer.Around) (i : model.Thunk) → made_within a (force p i) ≡ force p (within a i)
made-force p (outer.Around.swap t) i = refl
made-force p (outer.Around.bind g env) i = refl

module _ {I St : Type 0} (t : Table I) (means : St → facts.Store) where
  -- the innermost suspension of one that may be forced may be forced
  innermost-may : (tree : model.Thunk) (last : Innermost I St) → MayForce t.program tree → StandsInnermost t means tree last → MayForceInnermost t means last
  innermost-may tree (Last thunk) may (is, alone) = (subst (MayForce t.program) (sym is) may, subst (λ x. has_inner x ≡ false) (sym is) alone)
  innermost-may tree (Shared id) may (is, there) = (there, subst (λ x. top x ≤ 2 ^ 62) (sym is) may.1)

  pub parted-may : (around : List outer.Around) (tree whole : model.Thunk) (last : Innermost I St) → within_all around tree ≡ whole → MayForce t.program whole → StandsInnermost t means tree last → MayForceInnermost t means last
  parted-may around tree whole last is may stands = innermost-may tree last (all-may t.program around tree (subst (MayForce t.program) (sym is) may)) stands

module _ {A I St : Type 0} (t : Table I) (around_in : A → List outer.Around) (means : St → facts.Store) (whole : model.Thunk) (around : A) (g : ℕ) (env : Env) (s : Stream I St) (shorter : A) where
  -- a goal that waits may be bound to the force of what it waits for
  pub bound-inside : (p : code.Program) → IsTableOf p t → MayForce t.program whole → IsForceOfBound t around_in means whole around g env s shorter →
      MayBindForce (programs.meaning p) (programs.goal p g) (terms_of env) (stream_in t means s) (map means s.heads)
  bound-inside p table may inside =
      climb-binds (programs.meaning p) (programs.goal p g) (terms_of env) inside.tree (model.Thunk.bind (programs.goal p g) (terms_of env) inside.tree) (stream_in t means s) (map means s.heads)
      (program-closed p table.small) refl
      (subst (λ q. MayForce q (model.Thunk.bind (goal_in q g) (terms_of env) inside.tree)) table.program
      (all-may t.program (around_in shorter) _ (subst (MayForce t.program) (sym inside.is) may)))
      (inside.force.1 ∙ ap (λ q. force q inside.tree) table.program) (heads-going (map means s.heads) (option_map t.tree s.tail))

  -- what comes of that is the force of what waits
  pub bound-force : (p : code.Program) (u : Table I) (around_then : A → List outer.Around) (made : Stream I St) → IsTableOf p t → OnlyAdds t u → around_then shorter ≡ around_in shorter →
      IsForceOfBound t around_in means whole around g env s shorter → HasStream u made →
      stream_in u means made ≡ model.bind_all (run (programs.goal p g) (terms_of env)) (programs.goal p g) (terms_of env) (stream_in t means s) → IsForceWithin u around_then means whole shorter made
  bound-force p u around_then made table adds stays inside belong is = record {
    tree = model.Thunk.bind (goal_in t.program g) (terms_of env) inside.tree;
    is = ap (λ xs. within_all xs (model.Thunk.bind (goal_in t.program g) (terms_of env) inside.tree)) stays ∙ inside.is;
    force = (
      belong,
      is ∙ ap (λ q. model.bind_all (run (goal_in q g) (terms_of env)) (goal_in q g) (terms_of env) (stream_in t means s)) (sym table.program)
          ∙ ap (model.bind_all (run (goal_in t.program g) (terms_of env)) (goal_in t.program g) (terms_of env)) inside.force.1
          ∙ ap (λ q. force q (model.Thunk.bind (goal_in t.program g) (terms_of env) inside.tree)) (sym adds.program),
    );
  }
