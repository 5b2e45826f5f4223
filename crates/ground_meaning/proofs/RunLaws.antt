-- Following steps one after the other, with what waits on a stack.
use Rattle.std.proofs.Common.{◌≡◌, ◌↔◌, ℕ, zero, suc, ◌+◌, ◌<◌, ◌≤◌, Bool, true, false, List, [], ◌∷◌, ◌++◌, length, map, drop, Option, Some, get_or, refl, sym, ap, ap₂, subst, ◌∙◌, arith}
use Rattle.std.specs.Prelude.{IsTrue, IfOk, Result, Ok, Err}
use Rattle.std.proofs.Math.Seq.{drop-cons, drop-nil}
use Rattle.std.proofs.lemmas.Bool.{true≢false}
use Rattle.kan_terms.specs.Tree.{Gd}
use Rattle.kan_model.specs.Meaning.Derivations as model
use Rattle.kan_model.specs.Programs.Closed as programs
use Rattle.kan_model.specs.declared.program.Program.{Program}
use Rattle.ground_meaning.specs.Accepting.{Claim, claim, after_step, after_steps}
use Rattle.ground_meaning.specs.Following.{step_of, claims_in, FollowsClaim, ShowsAll}
use Rattle.ground_meaning.specs.declared.following.Waiting.{Waiting}
use Rattle.ground_meaning.specs.declared.steps.Step.{Step}
use Rattle.ground_meaning.proofs.AcceptingLaws.{none_after, accepted_are_steps}
use Rattle.ground_meaning.proofs.FollowingLaws.{waiting_for, claims-push}

-- nothing is left past the end
drop_past : {X : Type 0} (l : List X) (i : ℕ) → length l ≤ i → drop i l ≡ []
drop_past [] i h = drop-nil i
drop_past (x ∷ l) zero h = absurd (omega (arith, h))
drop_past (x ∷ l) (suc i) h = drop_past l i (omega (arith, h))

module _ (p : Program) (steps : List Step) (whole : Option (List Claim)) where
  -- the steps from a place on lead from these claims to the whole's
  abbrev pub Leads : ℕ → List Waiting → Type 0
  Leads i ws = after_steps (programs.meaning p) (map step_of (drop i steps)) (Some (claims_in p ws)) ≡ whole

  -- the next step comes first
  step_first : (i : ℕ) (s : Step) → i < length steps → s ≡ get_or steps i s → (o : Option (List Claim)) →
      after_steps (programs.meaning p) (map step_of (drop i steps)) o ≡ after_steps (programs.meaning p) (map step_of (drop (suc i) steps)) (after_step (programs.meaning p) (step_of s) o)
  step_first i s within is o =
      ap (λ l. after_steps (programs.meaning p) (map step_of l) o) (drop-cons steps i s within)
      ∙ ap (λ x. after_steps (programs.meaning p) (map step_of (drop (suc i) steps)) (after_step (programs.meaning p) (step_of x) o)) (sym is)

  pub run_on : (i : ℕ) (s : Step) (w : Waiting) (before rest new : List Waiting) → i < length steps → s ≡ get_or steps i s → before ≡ rest ++ w ∷ [] → FollowsClaim p w s rest true new →
      Leads i before → Leads (i + 1) new
  run_on i s w before rest new within is popped follows leads =
      let next : i + 1 ≡ suc i = omega arith in
      ap (λ j. after_steps (programs.meaning p) (map step_of (drop j steps)) (Some (claims_in p new))) next
      ∙ ap (after_steps (programs.meaning p) (map step_of (drop (suc i) steps))) (sym follows)
      ∙ ap (λ cs. after_steps (programs.meaning p) (map step_of (drop (suc i) steps)) (after_step (programs.meaning p) (step_of s) (Some cs))) (sym (claims-push p rest w) ∙ ap (claims_in p) (sym popped))
      ∙ sym (step_first i s within is (Some (claims_in p before))) ∙ leads

  refuted : (whole ≡ Some [] → ⊥) → IsTrue false ↔ (whole ≡ Some [])
  refuted none = (λ e. absurd (true≢false (sym e)), λ e. absurd (none e))

  pub run_refused : (i : ℕ) (s : Step) (w : Waiting) (before rest new : List Waiting) → i < length steps → s ≡ get_or steps i s → before ≡ rest ++ w ∷ [] → FollowsClaim p w s rest false new →
      Leads i before → IsTrue false ↔ (whole ≡ Some [])
  run_refused i s w before rest new within is popped follows leads =
      refuted (λ e. none_after (programs.meaning p) (map step_of (drop (suc i) steps)) []
      (ap (after_steps (programs.meaning p) (map step_of (drop (suc i) steps))) (sym follows)
      ∙ ap (λ cs. after_steps (programs.meaning p) (map step_of (drop (suc i) steps)) (after_step (programs.meaning p) (step_of s) (Some cs))) (sym (claims-push p rest w) ∙ ap (claims_in p) (sym popped))
      ∙ sym (step_first i s within is (Some (claims_in p before))) ∙ leads ∙ e))

  pub run_empty : (i : ℕ) (s : Step) (before : List Waiting) → i < length steps → s ≡ get_or steps i s → before ≡ [] → Leads i before → IsTrue false ↔ (whole ≡ Some [])
  run_empty i s before within is empty leads =
      refuted (λ e. none_after (programs.meaning p) (map step_of (drop (suc i) steps)) []
      (ap (λ ws. after_steps (programs.meaning p) (map step_of (drop (suc i) steps)) (after_step (programs.meaning p) (step_of s) (Some (claims_in p ws)))) (sym empty)
      ∙ sym (step_first i s within is (Some (claims_in p before))) ∙ leads ∙ e))

  filled : (cs : List Claim) (c : Claim) → Some (cs ++ c ∷ []) ≡ Some [] → ⊥
  filled [] c e = cc
  filled (d ∷ cs) c e = cc

  none_wait : (ws : List Waiting) → Some (claims_in p ws) ≡ Some [] → ws ≡ []
  none_wait [] e = refl
  none_wait (w ∷ ws) e = absurd (filled (claims_in p ws) (claim (programs.goal p w.goal) w.values) e)

  pub run_ended : (i : ℕ) (ws : List Waiting) (shown : Bool) → length steps ≤ i → IsTrue shown ↔ (ws ≡ []) → Leads i ws → IsTrue shown ↔ (whole ≡ Some [])
  run_ended i ws shown end told leads =
      let now : Some (claims_in p ws) ≡ whole =
      ap (λ l. after_steps (programs.meaning p) (map step_of l) (Some (claims_in p ws))) (sym (drop_past steps i end)) ∙ leads in
      (λ yes_it. sym now ∙ ap (λ l. Some (claims_in p l)) (told.0 yes_it), λ e. told.1 (none_wait ws (now ∙ e)))

-- what shows all that waits is a derivation, where one claim waits
pub shown_alone : {E : Type 0} (r : Result Bool E) (p : Program) (g : ℕ) (us copies : List Gd) (steps given : List Step) (ws : List Waiting) → ws ≡ waiting_for g copies ∷ [] → copies ≡ us → given ≡ steps →
    IfOk r (λ shown. IsTrue shown ↔ ShowsAll p given ws) → IfOk r (λ shown. IsTrue shown ↔ model.AreSteps (programs.meaning p) (programs.goal p g) us (map step_of steps))
shown_alone (Err e) p g us copies steps given ws one same are h = h
shown_alone (Ok shown) p g us copies steps given ws one same are (to, from) =
    let (steps_are, shows) = accepted_are_steps (programs.meaning p) (programs.goal p g) us (map step_of steps) in
    let turned : ShowsAll p given ws ≡ ShowsAll p steps (waiting_for g us ∷ []) = ap₂ (λ l vs. ShowsAll p l vs) are (one ∙ ap (λ vs. waiting_for g vs ∷ []) same) in
    (λ e. steps_are (subst (λ T. T) turned (to e)), λ d. from (subst (λ T. T) (sym turned) (shows d)))
