-- What nodes have under a key.
use Rattle.std.proofs.Common.{◌≡◌, ◌≢◌, ◌-◌, ℕ, zero, suc, Bool, true, false, eqb, refl, sym, ap, ◌∙◌, arith, Option, Some, None}
use Rattle.std.specs.Prelude.{Result, Ok, Err, IfOk, OnErr, if◌then◌else◌, ◌&&◌}
use Rattle.std.specs.Option.{option_map}
use Rattle.std.specs.Arc.{arc_value}
use Rattle.kan_tree.specs.Slots.{at}
use Rattle.std.specs.declared.sync.Arc.{Arc}
use Rattle.std.specs.declared.alloc.Global.{Global}
use Rattle.std.proofs.lemmas.Bool.{eqb-true}
use Rattle.kan_tree.specs.Nodes.{look, onward, agree, digit_of, in_leaf, in_inner, of_leaf, of_inner}
use Rattle.kan_tree.specs.declared.slots.Slots.{Slots}
use Rattle.kan_tree.specs.declared.nodes.Node.{Node}
use Rattle.kan_tree.specs.declared.nodes.Node.TheViews.{outs-Leaf, outs-Inner}
use Rattle.kan_tree.specs.declared.nodes.Node.TheVariants.{Leaf, Inner}
use Rattle.kan_tree.proofs.SlotLaws.{by_eqb}

in_leaf-Leaf : {T : Type 0} (slots : Slots T) (d : ℕ) → in_leaf (Leaf slots) d ≡ at slots d
in_leaf-Leaf {T} slots d = ap (λ n. of_leaf n d) (outs-Leaf slots)

in_inner-Leaf : {T : Type 0} (slots : Slots T) (d : ℕ) → in_inner (Leaf slots) d ≡ None
in_inner-Leaf {T} slots d = ap (λ n. of_inner n d) (outs-Leaf slots)

in_leaf-Inner : {T : Type 0} (slots : Slots (Arc (Node T) Global)) (d : ℕ) → in_leaf (Inner slots) d ≡ None
in_leaf-Inner {T} slots d = ap (λ n. of_leaf n d) (outs-Inner slots)

in_inner-Inner : {T : Type 0} (slots : Slots (Arc (Node T) Global)) (d : ℕ) → in_inner (Inner slots) d ≡ option_map arc_value (at slots d)
in_inner-Inner {T} slots d = ap (λ n. of_inner n d) (outs-Inner slots)

module _ {T M : Type 0} (m : T → M) where
  -- a leaf has nothing above level 0
  pub leaf_high : (level key : ℕ) (slots : Slots T) → level ≢ 0 → look m level key (Leaf slots) ≡ None
  leaf_high zero key slots h = absurd (h refl)
  leaf_high (suc level) key slots h = ap (onward (look m level key)) (in_inner-Leaf slots _)

  -- a node with nodes below has nothing at level 0
  pub inner_low : (level key : ℕ) (slots : Slots (Arc (Node T) Global)) → level ≡ 0 → look m level key (Inner slots) ≡ None
  inner_low zero key slots h = ap (option_map m) (in_leaf-Inner slots _)
  inner_low (suc level) key slots h = absurd (omega (arith, h))

  look_leaf : (level key d : ℕ) (slots : Slots T) → level ≡ 0 → d ≡ digit_of 0 key → look m level key (Leaf slots) ≡ option_map m (at slots d)
  look_leaf zero key d slots h e = ap (option_map m) (in_leaf-Leaf slots _ ∙ ap (at slots) (sym e))
  look_leaf (suc level) key d slots h e = absurd (omega (arith, h))

  -- one level further down
  pub look_inner : (level key d : ℕ) (slots : Slots (Arc (Node T) Global)) → level ≢ 0 → d ≡ digit_of level key → look m level key (Inner slots) ≡ onward (look m (level - 1) key) (option_map arc_value (at slots d))
  look_inner zero key d slots h e = absurd (h refl)
  look_inner (suc level) key d slots h e = let same : level ≡ suc level - 1 = omega arith in rw (← same) (ap (onward (look m level key)) (in_inner-Inner slots _ ∙ ap (λ i. option_map arc_value (at slots i)) (sym e)))

  pub found_inner : (level key d : ℕ) (slots : Slots (Arc (Node T) Global)) (x : Arc (Node T) Global) → level ≢ 0 → d ≡ digit_of level key → Some x ≡ at slots d → look m level key (Inner slots) ≡ look m (level - 1) key (arc_value x)
  found_inner level key d slots x h e w = look_inner level key d slots h e ∙ ap (λ o. onward (look m (level - 1) key) (option_map arc_value o)) (sym w)

  pub missing_inner : (level key d : ℕ) (slots : Slots (Arc (Node T) Global)) → level ≢ 0 → d ≡ digit_of level key → None ≡ at slots d → look m level key (Inner slots) ≡ None
  missing_inner level key d slots h e w = look_inner level key d slots h e ∙ ap (λ o. onward (look m (level - 1) key) (option_map arc_value o)) (sym w)

  -- a leaf after a write
  pub leaf_made : (before : ℕ → Option M) (new : Slots T) (level key d : ℕ) (v : M) → level ≡ 0 → d ≡ digit_of 0 key →
      ((e : ℕ) → option_map m (at new e) ≡ (if eqb e d then Some v else before e)) →
      (k : ℕ) → look m level k (Leaf new) ≡ (if agree level k key then Some v else before (digit_of 0 k))
  leaf_made before new zero key d v h e w k =
      ap (option_map m) (in_leaf-Leaf new _) ∙ w (digit_of 0 k) ∙ ap (λ i. if eqb (digit_of 0 k) i then Some v else before (digit_of 0 k)) e
  leaf_made before new (suc level) key d v h e w k = absurd (omega (arith, h))

  pub leaf_put : (old new : Slots T) (level key d : ℕ) (v : M) → level ≡ 0 → d ≡ digit_of 0 key →
      ((e : ℕ) → option_map m (at new e) ≡ (if eqb e d then Some v else option_map m (at old e))) →
      (k : ℕ) → look m level k (Leaf new) ≡ (if agree level k key then Some v else look m level k (Leaf old))
  leaf_put old new level key d v h e w k =
      leaf_made (λ e. option_map m (at old e)) new level key d v h e w k
      ∙ ap (λ o. if agree level k key then Some v else o) (sym (look_leaf level k (digit_of 0 k) old h refl))

  inner_case : (before : ℕ → Option (Node T)) (b : Bool) (level k key : ℕ) (below : Node T) (v : M) (d e : ℕ) → (b ≡ true → e ≡ d) →
      ((k : ℕ) → look m level k below ≡ (if agree level k key then Some v else onward (look m level k) (before d))) →
      onward (look m level k) (if b then Some below else before e) ≡ (if b && agree level k key then Some v else onward (look m level k) (before e))
  inner_case before true level k key below v d e same w = w k ∙ ap (λ i. if agree level k key then Some v else onward (look m level k) (before i)) (sym (same refl))
  inner_case before false level k key below v d e same w = refl

  -- a node with nodes below, after a write
  pub inner_made : (before : ℕ → Option (Node T)) (new : Slots (Arc (Node T) Global)) (below : Node T) (level key d : ℕ) (v : M) → level ≢ 0 → d ≡ digit_of level key →
      ((e : ℕ) → option_map arc_value (at new e) ≡ (if eqb e d then Some below else before e)) →
      ((k : ℕ) → look m (level - 1) k below ≡ (if agree (level - 1) k key then Some v else onward (look m (level - 1) k) (before d))) →
      (k : ℕ) → look m level k (Inner new) ≡ (if agree level k key then Some v else onward (look m (level - 1) k) (before (digit_of level k)))
  inner_made before new below zero key d v h e w b k = absurd (h refl)
  inner_made before new below (suc level) key d v h e w b k =
      let same : suc level - 1 ≡ level = omega arith in
      let b' : (k : ℕ) → look m level k below ≡ (if agree level k key then Some v else onward (look m level k) (before d)) = rw same at b in
      rw same (ap (onward (look m level k)) (in_inner-Inner new _ ∙ w (digit_of (suc level) k))
      ∙ inner_case before (eqb (digit_of (suc level) k) d) level k key below v d (digit_of (suc level) k) (λ t. eqb-true _ _ t) b'
      ∙ ap (λ i. if eqb (digit_of (suc level) k) i && agree level k key then Some v else onward (look m level k) (before (digit_of (suc level) k))) e)

  pub inner_put : (old new : Slots (Arc (Node T) Global)) (below : Node T) (level key d : ℕ) (v : M) → level ≢ 0 → d ≡ digit_of level key →
      ((e : ℕ) → option_map arc_value (at new e) ≡ (if eqb e d then Some below else option_map arc_value (at old e))) →
      ((k : ℕ) → look m (level - 1) k below ≡ (if agree (level - 1) k key then Some v else onward (look m (level - 1) k) (option_map arc_value (at old d)))) →
      (k : ℕ) → look m level k (Inner new) ≡ (if agree level k key then Some v else look m level k (Inner old))
  inner_put old new below level key d v h e w b k =
      inner_made (λ e. option_map arc_value (at old e)) new below level key d v h e w b k
      ∙ ap (λ o. if agree level k key then Some v else o) (sym (look_inner level k (digit_of level k) old h refl))

  -- copies
  pub leaf_same : (old new : Slots T) → ((e : ℕ) → option_map m (at new e) ≡ option_map m (at old e)) → (level k : ℕ) → look m level k (Leaf new) ≡ look m level k (Leaf old)
  leaf_same old new w zero k = ap (option_map m) (in_leaf-Leaf new _) ∙ w _ ∙ sym (ap (option_map m) (in_leaf-Leaf old _))
  leaf_same old new w (suc level) k = ap (onward (look m level k)) (in_inner-Leaf new _) ∙ sym (ap (onward (look m level k)) (in_inner-Leaf old _))

  pub inner_same : (old new : Slots (Arc (Node T) Global)) → ((e : ℕ) → option_map arc_value (at new e) ≡ option_map arc_value (at old e)) → (level k : ℕ) → look m level k (Inner new) ≡ look m level k (Inner old)
  inner_same old new w zero k = ap (option_map m) (in_leaf-Inner new _) ∙ sym (ap (option_map m) (in_leaf-Inner old _))
  inner_same old new w (suc level) k = ap (onward (look m level k)) (in_inner-Inner new _ ∙ w _) ∙ sym (ap (onward (look m level k)) (in_inner-Inner old _))

  -- what a node below that was there has after a write
  pub below_some : (l key : ℕ) (v : M) (made was arc : Node T) (x : Arc (Node T) Global) (o : Option (Arc (Node T) Global)) →
      ((k : ℕ) → look m l k made ≡ (if agree l k key then Some v else look m l k was)) → was ≡ arc_value x → Some x ≡ o → arc ≡ made →
      (k : ℕ) → look m l k arc ≡ (if agree l k key then Some v else onward (look m l k) (option_map arc_value o))
  below_some l key v made was arc x o h e w f k =
      ap (look m l k) f ∙ h k ∙ ap (λ r. if agree l k key then Some v else r) (ap (look m l k) e ∙ ap (λ o. onward (look m l k) (option_map arc_value o)) w)

  -- what a node below that is new has
  pub below_none : (l key : ℕ) (v : M) (made arc : Node T) (o : Option (Arc (Node T) Global)) →
      ((k : ℕ) → look m l k made ≡ (if agree l k key then Some v else None)) → None ≡ o → arc ≡ made →
      (k : ℕ) → look m l k arc ≡ (if agree l k key then Some v else onward (look m l k) (option_map arc_value o))
  below_none l key v made arc o h w f k =
      ap (look m l k) f ∙ h k ∙ ap (λ r. if agree l k key then Some v else r) (ap (λ o. onward (look m l k) (option_map arc_value o)) w)

  -- a write that failed further down
  pub inner_kept : (old new : Slots (Arc (Node T) Global)) (x y : Arc (Node T) Global) (level d : ℕ) → level ≢ 0 →
      ((e : ℕ) → at new e ≡ (if eqb e d then Some y else at old e)) → Some x ≡ at old d →
      ((k : ℕ) → look m (level - 1) k (arc_value y) ≡ look m (level - 1) k (arc_value x)) →
      (k : ℕ) → look m level k (Inner new) ≡ look m level k (Inner old)
  inner_kept old new x y level d h w f g k =
      let go : Option (Arc (Node T) Global) → Option M = λ o. onward (look m (level - 1) k) (option_map arc_value o) in
      look_inner level k (digit_of level k) new h refl ∙ ap go (w (digit_of level k))
      ∙ by_eqb (λ b. go (if b then Some y else at old (digit_of level k)) ≡ go (at old (digit_of level k))) (digit_of level k) d
      (λ same. g k ∙ ap go (f ∙ ap (at old) (sym same))) (λ _. refl)
      ∙ sym (look_inner level k (digit_of level k) old h refl)

  up_if : (l k : ℕ) (b : Bool) (x : Arc (Node T) Global) (o : Option (Arc (Node T) Global)) → o ≡ None →
      onward (look m l k) (option_map arc_value (if b then Some x else o)) ≡ (if b then look m l k (arc_value x) else None)
  up_if l k true x o e = refl
  up_if l k false x o e = ap (λ o. onward (look m l k) (option_map arc_value o)) e

  -- a level above a node
  pub look_up : (l k : ℕ) (old slots : Slots (Arc (Node T) Global)) (x : Arc (Node T) Global) → ((e : ℕ) → at old e ≡ None) → ((e : ℕ) → at slots e ≡ (if eqb e 0 then Some x else at old e)) →
      look m (suc l) k (Inner slots) ≡ (if eqb (digit_of (suc l) k) 0 then look m l k (arc_value x) else None)
  look_up l k old slots x n w = ap (onward (look m l k)) (in_inner-Inner slots _ ∙ ap (option_map arc_value) (w _)) ∙ up_if l k (eqb (digit_of (suc l) k) 0) x _ (n _)

-- what a result has if it has a value
pub if_ok_map : {A E : Type 0} (r : Result A E) {P Q : A → Type 0} → ((x : A) → P x → Q x) → IfOk r P → IfOk r Q
if_ok_map (Ok x) f h = f x h
if_ok_map (Err e) f h = tt

pub on_err_map : {A E P Q : Type 0} (r : Result A E) → (P → Q) → OnErr r P → OnErr r Q
on_err_map (Ok x) f h = tt
on_err_map (Err e) f h = f h
