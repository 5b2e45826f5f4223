-- Steps on the path down from a suspension and up again.
use Rattle.std.proofs.Common.{◌≡◌, true, List, [], ◌∷◌, ◌++◌, refl, sym, ◌∙◌, ap, ap₂, subst}
use Rattle.std.specs.Prelude.{Option, Some, None, IfSome}
use Rattle.kan_model.specs.Stores.Store as facts
use Rattle.kan_model.specs.Streams.Stream.{Thunk}
use Rattle.kan_model.specs.Each.{Each}
use Rattle.stream_core.specs.InnerSuspensions.{MayForce, InnerId, has_inner, inner_of}
use Rattle.stream_core.specs.Tables.{Told, Table, GrowsBy, IsForce}
use Rattle.stream_core.specs.CodeTasks.{stack}
use Rattle.stream_core.specs.PathDown.{next, IsPath, Leads, MayForceAround, IsPathFrom, IsNext}
use Rattle.stream_core.specs.declared.streams.Stream.{Stream}
use Rattle.stream_core.proofs.Paths.ForceLaws.{inner-may}
use Rattle.stream_core.proofs.StackLaws.{stack-pop}
use Rattle.kan_model.proofs.ListLaws.{Each-last, Each-front}

module _ {I : Type 0} where
  -- the id that was reached put on the path
  pub path-longer : (t : Table I) (whole : Thunk) (ids longer : List I) (last : I) → longer ≡ ids ++ last ∷ [] → IsNext t whole ids last → has_inner (t.tree last) ≡ true → IsPathFrom t whole ids →
      IsPathFrom t whole longer
  path-longer t whole ids longer last grown comes holds path = record {
    path = subst (IsPath whole) (sym (stack-pop t.tree longer ids last grown)) (comes.is, path.path);
    each = subst (Each (MayForceAround t)) (sym grown) (Each-last (MayForceAround t) ids last path.each (comes.belongs, comes.may, holds));
  }

  -- what comes next is what is inside it
  pub next-inside : (t : Table I) (whole : Thunk) (ids longer : List I) (last : I) → longer ≡ ids ++ last ∷ [] → next whole (stack t.tree longer) ≡ inner_of (t.tree last)
  next-inside t whole ids longer last grown = ap (next whole) (stack-pop t.tree longer ids last grown)

  pub next-longer : (t : Table I) (whole : Thunk) (ids longer : List I) (last inside : I) → longer ≡ ids ++ last ∷ [] → InnerId t last inside → IsNext t whole ids last → IsNext t whole longer inside
  next-longer t whole ids longer last inside grown inner comes = record {
    belongs = inner.belongs;
    may = subst (MayForce t.program) (sym inner.is) (inner-may t.program (t.tree last) comes.may);
    is = inner.is ∙ sym (next-inside t whole ids longer last grown);
  }

  pub leads-longer : (whole last inside : I) (ids longer : List I) (o : Option (Told I)) → longer ≡ ids ++ last ∷ [] → IfSome o (λ told. told.inner last ≡ Some inside) →
      IfSome o (λ told. Leads told.inner whole (stack (λ (i : I). i) ids) last) → IfSome o (λ told. Leads told.inner whole (stack (λ (i : I). i) longer) inside)
  leads-longer whole last inside ids longer None grown inner leads = tt
  leads-longer whole last inside ids longer (Some told) grown inner leads =
      subst (λ xs. Leads told.inner whole xs inside) (sym (stack-pop (λ (i : I). i) longer ids last grown)) (inner, leads)

  -- where a path begins
  pub path-begins : (t : Table I) (whole : Thunk) (ids : List I) → ids ≡ [] → IsPathFrom t whole ids
  path-begins t whole ids none = rw none (record { path = tt; each = tt })

  pub next-begins : (t : Table I) (id last : I) (ids : List I) → ids ≡ [] → MayForce t.program (t.tree id) → t.belongs last × (t.tree last ≡ t.tree id) → IsNext t (t.tree id) ids last
  next-begins t id last ids none may (there, same) = rw none (record { belongs = there; may = subst (MayForce t.program) (sym same) may; is = same })

  pub leads-begins : (whole copy : I) (ids : List I) (o : Option (Told I)) → ids ≡ [] → IfSome o (λ told. copy ≡ whole) → IfSome o (λ told. Leads told.inner whole (stack (λ (i : I). i) ids) copy)
  leads-begins whole copy ids None none same = tt
  leads-begins whole copy ids (Some told) none same = rw none same

  -- nothing is left of it
  pub force-end : {St : Type 0} (t : Table I) (means : St → facts.Store) (whole : Thunk) (ids : List I) (made : Stream I St) → ids ≡ [] → IsForce t means (next whole (stack t.tree ids)) made → IsForce t means whole made
  force-end t means whole ids made none forced = subst (λ xs. IsForce t means (next whole (stack t.tree xs)) made) none forced

  -- the last id of a path
  pub last-around : (t : Table I) (whole : Thunk) (ids rest : List I) (at : I) → IsPathFrom t whole ids → ids ≡ rest ++ at ∷ [] → MayForceAround t at
  last-around t whole ids rest at path split = (Each-front (MayForceAround t) ids rest at split path.each).1

  -- ids stand for what they stood for
  module _ (R : Told I → Told I → Type 0) (t u : Table I) (grew : GrowsBy R t u) where
    trees-stay : (ids : List I) → Each (MayForceAround t) ids → stack u.tree ids ≡ stack t.tree ids
    trees-stay [] h = refl
    trees-stay (id ∷ ids) ((there, may, holds), hs) = ap₂ (λ x xs. xs ++ x ∷ []) (grew.ids id there).1 (trees-stay ids hs)

    each-stays : (ids : List I) → Each (MayForceAround t) ids → Each (MayForceAround u) ids
    each-stays [] h = tt
    each-stays (id ∷ ids) ((there, may, holds), hs) =
        let same = sym (grew.ids id there).1 in (
          (
            (grew.ids id there).0,
            subst (λ p. MayForce p (u.tree id)) (sym grew.program) (subst (MayForce t.program) same may),
            subst (λ x. has_inner x ≡ true) same holds,
          ),
          each-stays ids hs,
        )

    -- a path while the table grows
    pub path-stays : (whole : Thunk) (ids : List I) → IsPathFrom t whole ids → IsPathFrom u whole ids
    path-stays whole ids path = record {
      path = subst (IsPath whole) (sym (trees-stay ids path.each)) path.path;
      each = each-stays ids path.each;
    }

    -- one step up
    pub path-up : (whole : Thunk) (ids rest : List I) (at : I) → ids ≡ rest ++ at ∷ [] → IsPathFrom t whole ids → IsPathFrom u whole rest
    path-up whole ids rest at split path =
        let (all, last) = Each-front (MayForceAround t) ids rest at split path.each in
        path-stays whole rest (record { path = (subst (IsPath whole) (stack-pop t.tree ids rest at split) path.path).1; each = all })

    -- the force of what came next is that of what comes next
    pub force-next : {St : Type 0} (means : St → facts.Store) (whole : Thunk) (ids : List I) (last : I) (made : Stream I St) → IsPathFrom t whole ids → t.tree last ≡ next whole (stack t.tree ids) →
        IsForce u means (t.tree last) made → IsForce u means (next whole (stack u.tree ids)) made
    force-next means whole ids last made path is forced =
        subst (λ x. IsForce u means x made) (is ∙ ap (next whole) (sym (trees-stay ids path.each))) forced

    pub force-up : {St : Type 0} (means : St → facts.Store) (whole : Thunk) (ids rest : List I) (at : I) (made : Stream I St) → ids ≡ rest ++ at ∷ [] → IsPathFrom t whole ids →
        IsForce u means (t.tree at) made → IsForce u means (next whole (stack u.tree rest)) made
    force-up means whole ids rest at made split path forced =
        let (all, last) = Each-front (MayForceAround t) ids rest at split path.each in
        let down = subst (IsPath whole) (stack-pop t.tree ids rest at split) path.path in
        subst (λ x. IsForce u means x made) (down.0 ∙ ap (next whole) (sym (trees-stay rest all))) forced
