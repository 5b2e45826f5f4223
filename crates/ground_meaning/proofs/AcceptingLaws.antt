-- Steps that are followed to the end spell a derivation, and the steps of a derivation can be followed.
use Rattle.std.proofs.Common.{◌≡◌, Bool, true, false, eqb, List, [], ◌∷◌, ◌++◌, length, Option, Some, None, slice_get, refl, sym, ap, subst, ◌∙◌, append_assoc, append-nil}
use Rattle.std.proofs.lemmas.Bool.{eq-eqb, eqb-true}
use Rattle.kan_terms.specs.Tree.{Gd}
use Rattle.kan_model.specs.Programs.Goals.{Goal, Relation, Program}
use Rattle.kan_model.specs.Meaning.Holds.{holds_at}
use Rattle.kan_model.specs.Meaning.Derivations.{Derivation, Step, steps_of, values, Derives, AreSteps}
use Rattle.kan_model.proofs.Meaning.DerivationLaws.{Derives-from_test, test_from-Derives}
use Rattle.ground_meaning.specs.Accepting.{Claim, claim, when, body_claim, claims_after, in_front, after_steps, Shows, AcceptedAreSteps}

module _ (program : Program) where
  -- no claims come of none
  pub none_after : (steps : List Step) (cs : List Claim) → after_steps program steps None ≡ Some cs → ⊥
  none_after [] cs e = cc
  none_after (s ∷ ss) cs e = none_after ss cs e

  -- the steps of a derivation show its goal, and what follows shows the rest
  shown : (g : Goal) (us : List Gd) (d : Derivation) → Derives program g us d → (rest : List Step) (cs : List Claim) →
      after_steps program (steps_of d ++ rest) (Some (claim g us ∷ cs)) ≡ after_steps program rest (Some cs)
  shown g us d (Derives.primitive {p = p} h) rest cs = ap (λ b. after_steps program rest (in_front (when b []) cs)) h
  shown g us d Derives.succeed rest cs = refl
  shown g us d (Derives.both {g = g'} {h = k} {d = d'} {e = e} first second) rest cs =
      ap (λ l. after_steps program l (Some (claim g' us ∷ claim k us ∷ cs))) (append_assoc (steps_of d') (steps_of e) rest)
      ∙ shown g' us d' first (steps_of e ++ rest) (claim k us ∷ cs) ∙ shown k us e second rest cs
  shown g us d (Derives.left {g = g'} {d = d'} below) rest cs = shown g' us d' below rest cs
  shown g us d (Derives.right {h = k} {d = d'} below) rest cs = shown k us d' below rest cs
  shown g us d (Derives.choose {g = g'} {vs = vs} {d = d'} below) rest cs =
      ap (λ b. after_steps program (steps_of d' ++ rest) (in_front (when b (claim g' (us ++ vs) ∷ [])) cs)) (eq-eqb (length vs) (length vs) refl) ∙ shown g' (us ++ vs) d' below rest cs
  shown g us d (Derives.later {g = g'} {d = d'} below) rest cs = shown g' us d' below rest cs
  shown g us d (Derives.enter {args = args} {rel = rel} {d = d'} e below) rest cs =
      ap (λ found. after_steps program (steps_of d' ++ rest) (in_front (body_claim (values us args) found) cs)) e ∙ shown rel.body (values us args) d' below rest cs

  -- claims have derivations whose steps are these, one after the other
  abbrev AllDerived : List Claim → List Step → Type 0
  AllDerived [] steps = steps ≡ []
  AllDerived (c ∷ cs) steps = (d : Derivation) × (rest : List Step) × (steps ≡ steps_of d ++ rest) × Derives program c.goal c.values d × AllDerived cs rest

  -- a step that leads to claims that have derivations is the first one of the claim's derivation
  step_derived : (g : Goal) (us : List Gd) (cs : List Claim) (s : Step) (ss : List Step) → ((new : List Claim) → after_steps program ss (Some new) ≡ Some [] → AllDerived new ss) →
      after_steps program ss (in_front (claims_after program g us s) cs) ≡ Some [] → AllDerived (claim g us ∷ cs) (s ∷ ss)
  step_derived (Goal.prim p) us cs Step.holds ss ih h = by (holds_at us p) refl h
    where
      by : (b : Bool) → holds_at us p ≡ b → after_steps program ss (in_front (when b []) cs) ≡ Some [] → AllDerived (claim (Goal.prim p) us ∷ cs) (Step.holds ∷ ss)
      by true e k = (Derivation.holds, ss, refl, Derives.primitive e, ih cs k)
      by false e k = absurd (none_after ss [] k)
  step_derived Goal.succeed us cs Step.holds ss ih h = (Derivation.holds, ss, refl, Derives.succeed, ih cs h)
  step_derived (Goal.both g k) us cs Step.both ss ih h =
      let (d, more, split, first, (e, rest, again, second, others)) = ih (claim g us ∷ claim k us ∷ cs) h in
      (Derivation.both d e, rest, ap (λ l. Step.both ∷ l) (split ∙ ap (λ l. steps_of d ++ l) again ∙ sym (append_assoc (steps_of d) (steps_of e) rest)), Derives.both first second, others)
  step_derived (Goal.either g k) us cs Step.left ss ih h =
      let (d, rest, split, below, others) = ih (claim g us ∷ cs) h in (Derivation.left d, rest, ap (λ l. Step.left ∷ l) split, Derives.left below, others)
  step_derived (Goal.either g k) us cs Step.right ss ih h =
      let (d, rest, split, below, others) = ih (claim k us ∷ cs) h in (Derivation.right d, rest, ap (λ l. Step.right ∷ l) split, Derives.right below, others)
  step_derived (Goal.fresh k g) us cs (Step.choose vs) ss ih h = by (eqb (length vs) k) refl h
    where
      by : (b : Bool) → eqb (length vs) k ≡ b → after_steps program ss (in_front (when b (claim g (us ++ vs) ∷ [])) cs) ≡ Some [] → AllDerived (claim (Goal.fresh k g) us ∷ cs) (Step.choose vs ∷ ss)
      by true e h' =
          let (d, rest, split, below, others) = ih (claim g (us ++ vs) ∷ cs) h' in
          (Derivation.choose vs d, rest, ap (λ l. Step.choose vs ∷ l) split, subst (λ n. Derives program (Goal.fresh n g) us (Derivation.choose vs d)) (eqb-true (length vs) k e) (Derives.choose below), others)
      by false e h' = absurd (none_after ss [] h')
  step_derived (Goal.later g) us cs Step.enter ss ih h =
      let (d, rest, split, below, others) = ih (claim g us ∷ cs) h in (Derivation.enter d, rest, ap (λ l. Step.enter ∷ l) split, Derives.later below, others)
  step_derived (Goal.call r args) us cs Step.enter ss ih h = by (slice_get program.relations r) refl h
    where
      by : (found : Option Relation) → slice_get program.relations r ≡ found → after_steps program ss (in_front (body_claim (values us args) found) cs) ≡ Some [] →
          AllDerived (claim (Goal.call r args) us ∷ cs) (Step.enter ∷ ss)
      by None e h' = absurd (none_after ss [] h')
      by (Some rel) e h' =
          let (d, rest, split, below, others) = ih (claim rel.body (values us args) ∷ cs) h' in (Derivation.enter d, rest, ap (λ l. Step.enter ∷ l) split, Derives.enter e below, others)
  step_derived _ _ cs _ ss ih h = absurd (none_after ss [] h)

  derived : (steps : List Step) (cs : List Claim) → after_steps program steps (Some cs) ≡ Some [] → AllDerived cs steps
  derived [] [] h = refl
  derived [] (c ∷ cs) h = cc
  derived (s ∷ ss) [] h = absurd (none_after ss [] h)
  derived (s ∷ ss) (c ∷ cs) h = step_derived c.goal c.values cs s ss (derived ss) h

pub accepted_are_steps : AcceptedAreSteps
accepted_are_steps program g us steps = (to, from)
  where
    to : Shows program steps g us → AreSteps program g us steps
    to h =
        let (d, rest, split, below, last) = derived program steps (claim g us ∷ []) h in
        (d, split ∙ ap (λ l. steps_of d ++ l) last ∙ append-nil (steps_of d), test_from-Derives program g us d below)

    from : AreSteps program g us steps → Shows program steps g us
    from (d, spelled, derives) =
        ap (λ l. after_steps program l (Some (claim g us ∷ []))) (spelled ∙ sym (append-nil (steps_of d))) ∙ shown program g us d (Derives-from_test program g us d derives) [] []
