-- What following a step does to the claims on a stack.
use Rattle.std.proofs.Common.{◌≡◌, ℕ, ◌+◌, Bool, true, List, [], ◌∷◌, ◌++◌, length, map, take, drop, Option, Some, slice_get, refl, sym, ap, ap₂, subst, ◌∙◌}
use Rattle.std.specs.Prelude.{Result, IfOk, option_map}
use Rattle.std.proofs.lemmas.Bool.{eq-eqb}
use Rattle.std.proofs.lemmas.Option.{slice_get-map}
use Rattle.kan_terms.specs.Tree.{Gd}
use Rattle.kan_model.specs.Meaning.Derivations.{values}
use Rattle.kan_model.specs.Programs.Closed as programs
use Rattle.kan_model.specs.Programs.Tables.{RelationEntry, goal_at, goals_of}
use Rattle.kan_model.specs.declared.nodes.GoalNode.{GoalNode}
use Rattle.kan_model.specs.declared.nodes.GoalNode.TheVariants as nodes
use Rattle.kan_model.specs.declared.program.Program.{Program}
use Rattle.ground_meaning.specs.Accepting.{claim, when, body_claim, in_front}
use Rattle.ground_meaning.specs.Following.{claims_in, Follows}
use Rattle.ground_meaning.specs.Values.{value_of}
use Rattle.ground_meaning.specs.declared.following.Waiting.{Waiting}
use Rattle.ground_meaning.specs.declared.steps.Step.{Step}
use Rattle.ground_meaning.specs.declared.steps.Step.TheVariants.{Both, Left, Right, Choose, Enter}

abbrev pub waiting_for : ℕ → List Gd → Waiting
waiting_for g us = record { goal = g; values = us }

module _ (p : Program) where
  -- what is put on a stack is to be shown first
  pub claims-push : (ws : List Waiting) (w : Waiting) → claims_in p (ws ++ w ∷ []) ≡ claim (programs.goal p w.goal) w.values ∷ claims_in p ws
  claims-push [] w = refl
  claims-push (x ∷ ws) w = ap (λ l. l ++ claim (programs.goal p x.goal) x.values ∷ []) (claims-push ws w)

  grown : (old new : List Waiting) (w : Waiting) → new ≡ old ++ w ∷ [] → claim (programs.goal p w.goal) w.values ∷ claims_in p old ≡ claims_in p new
  grown old new w e = sym (claims-push old w) ∙ ap (claims_in p) (sym e)

  pub both_follows : (node : GoalNode) (us copies : List Gd) (g h : ℕ) (old middle new : List Waiting) → node ≡ nodes.Both g h → copies ≡ us →
      middle ≡ old ++ waiting_for h copies ∷ [] → new ≡ middle ++ waiting_for g us ∷ [] → Follows p node us Both old true new
  both_follows node us copies g h old middle new is same first second =
      subst (λ n. Follows p n us Both old true new) (sym is)
      (ap Some (ap (λ l. claim (programs.goal p g) us ∷ l) (ap (λ vs. claim (programs.goal p h) vs ∷ claims_in p old) (sym same) ∙ grown old middle (waiting_for h copies) first)
      ∙ grown middle new (waiting_for g us) second))

  pub left_follows : (node : GoalNode) (us : List Gd) (g h : ℕ) (old new : List Waiting) → node ≡ nodes.Either g h → new ≡ old ++ waiting_for g us ∷ [] → Follows p node us Left old true new
  left_follows node us g h old new is e = subst (λ n. Follows p n us Left old true new) (sym is) (ap Some (grown old new (waiting_for g us) e))

  pub right_follows : (node : GoalNode) (us : List Gd) (g h : ℕ) (old new : List Waiting) → node ≡ nodes.Either g h → new ≡ old ++ waiting_for h us ∷ [] → Follows p node us Right old true new
  right_follows node us g h old new is e = subst (λ n. Follows p n us Right old true new) (sym is) (ap Some (grown old new (waiting_for h us) e))

  pub choose_follows : (node : GoalNode) (us vs all : List Gd) (k g : ℕ) (old new : List Waiting) → node ≡ nodes.Fresh k g → length vs ≡ k → all ≡ us ++ vs →
      new ≡ old ++ waiting_for g all ∷ [] → Follows p node us (Choose vs) old true new
  choose_follows node us vs all k g old new is long made e =
      subst (λ n. Follows p n us (Choose vs) old true new) (sym is)
      (ap (λ b. in_front (when b (claim (programs.goal p g) (us ++ vs) ∷ [])) (claims_in p old)) (eq-eqb (length vs) k long)
      ∙ ap Some (ap (λ ws. claim (programs.goal p g) ws ∷ claims_in p old) (sym made) ∙ grown old new (waiting_for g all) e))

  pub later_follows : (node : GoalNode) (us : List Gd) (g : ℕ) (old new : List Waiting) → node ≡ nodes.Later g → new ≡ old ++ waiting_for g us ∷ [] → Follows p node us Enter old true new
  later_follows node us g old new is e = subst (λ n. Follows p n us Enter old true new) (sym is) (ap Some (grown old new (waiting_for g us) e))

  -- the same of a node that is another's
  pub same_node : {E : Type 0} (r : Result Bool E) (node other : GoalNode) (us : List Gd) (step : Step) (old new : List Waiting) → node ≡ other →
      IfOk r (λ followed. Follows p other us step old followed new) → IfOk r (λ followed. Follows p node us step old followed new)
  same_node r node other us step old new is h = subst (λ n. IfOk r (λ followed. Follows p n us step old followed new)) (sym is) h

  -- the relation of an entry is the program's
  relation-there : (r : ℕ) (o : Option RelationEntry) → o ≡ slice_get (programs.tables p).relations r → slice_get (programs.meaning p).relations r ≡ option_map (λ e. record { params = e.params; body = goal_at (goals_of (programs.tables p)) e.body }) o
  relation-there r o is =
      slice_get-map (λ e. record { params = e.params; body = goal_at (goals_of (programs.tables p)) e.body }) (programs.tables p).relations r
      ∙ ap (option_map (λ e. record { params = e.params; body = goal_at (goals_of (programs.tables p)) e.body })) (sym is)

  values-are : (us : List Gd) (xs : List ℕ) → values us (map (programs.template p) xs) ≡ map (value_of p us) xs
  values-are us [] = refl
  values-are us (x ∷ xs) = ap (λ l. value_of p us x ∷ l) (values-are us xs)

  pub call_follows : (us all : List Gd) (r at k body : ℕ) (e : RelationEntry) (xs : List ℕ) (old new : List Waiting) → Some e ≡ slice_get (programs.tables p).relations r → body ≡ e.body →
      xs ≡ take k (drop at (programs.tables p).arguments) → all ≡ map (value_of p us) xs → new ≡ old ++ waiting_for body all ∷ [] → Follows p (nodes.Call r at k) us Enter old true new
  call_follows us all r at k body e xs old new there is args made pushed =
      ap (λ o. in_front (body_claim (values us (map (programs.template p) (take k (drop at (programs.tables p).arguments)))) o) (claims_in p old)) (relation-there r (Some e) there)
      ∙ ap Some (ap₂ (λ b vs. claim (programs.goal p b) vs ∷ claims_in p old) (sym is) (ap (λ l. values us (map (programs.template p) l)) (sym args) ∙ values-are us xs ∙ sym made)
      ∙ grown old new (waiting_for body all) pushed)
