-- What stands in front of nodes.
use Rattle.std.proofs.Common.{◌≡◌, ◌≢◌, ◌-◌, ◌+◌, ℕ, zero, suc, eqb, ne_eqb, refl, sym, ap, ◌∙◌, arith, Option, Some, None}
use Rattle.std.specs.Prelude.{if◌then◌else◌}
use Rattle.std.specs.Arc.{arc_value}
use Rattle.std.specs.declared.sync.Arc.{Arc}
use Rattle.std.specs.declared.alloc.Global.{Global}
use Rattle.kan_tree.specs.Whole.{value_below}
use Rattle.kan_tree.specs.UnderKeys.{in_link, value_in_front, within}
use Rattle.kan_tree.specs.declared.nodes.Node.{Node}
use Rattle.kan_tree.specs.declared.front.Link.{Link}
use Rattle.kan_tree.specs.declared.front.Front.{Front}
use Rattle.kan_tree.specs.declared.front.Front.TheViews.{outs-Nodes, outs-Link}
use Rattle.kan_tree.specs.declared.front.Front.TheVariants as front

module _ {T M : Type 0} (m : T → M) where
  pub within_nodes : (many level k : ℕ) (root : Arc (Node T) Global) → within m many level (front.Nodes root) k ≡ value_below m level (arc_value root) k
  within_nodes zero level k root = ap (λ f. value_in_front m level (λ _. None) f k) (outs-Nodes root)
  within_nodes (suc many) level k root = ap (λ f. value_in_front m level (in_link m (λ older. within m many level older k) k) f k) (outs-Nodes root)

  -- no link counts
  pub within_none : (many level k : ℕ) (link : Arc (Link T (Front T)) Global) → many ≡ 0 → within m many level (front.Link link) k ≡ None
  within_none zero level k link h = ap (λ f. value_in_front m level (λ _. None) f k) (outs-Link link)
  within_none (suc many) level k link h = absurd (omega (arith, h))

  -- the first link counts
  pub within_link : (many level k : ℕ) (link : Arc (Link T (Front T)) Global) → many ≢ 0 → within m many level (front.Link link) k ≡ in_link m (λ older. within m (many - 1) level older k) k (arc_value link)
  within_link zero level k link h = absurd (h refl)
  within_link (suc many) level k link h =
      let same : many ≡ suc many - 1 = omega arith in
      rw (← same) (ap (λ f. value_in_front m level (in_link m (λ older. within m many level older k) k) f k) (outs-Link link))

  -- the same behind another pointer
  pub nodes_same : (root copy : Arc (Node T) Global) → arc_value copy ≡ arc_value root → (many level k : ℕ) → within m many level (front.Nodes copy) k ≡ within m many level (front.Nodes root) k
  nodes_same root copy h many level k = within_nodes many level k copy ∙ ap (λ n. value_below m level n k) h ∙ sym (within_nodes many level k root)

  pub link_same : (link copy : Arc (Link T (Front T)) Global) → arc_value copy ≡ arc_value link → (many level k : ℕ) → within m many level (front.Link copy) k ≡ within m many level (front.Link link) k
  link_same link copy h zero level k = within_none zero level k copy refl ∙ sym (within_none zero level k link refl)
  link_same link copy h (suc many) level k =
      let some : suc many ≢ 0 = λ e. omega (arith, e) in
      within_link (suc many) level k copy some ∙ ap (in_link m (λ older. within m (suc many - 1) level older k) k) h ∙ sym (within_link (suc many) level k link some)

  -- one more link
  pub put_link : (many level key : ℕ) (v : T) (old older : Front T) (link : Arc (Link T (Front T)) Global) → arc_value link ≡ record { key = key; value = v; older = older } →
      ((many level k : ℕ) → within m many level older k ≡ within m many level old k) →
      (k : ℕ) → within m (many + 1) level (front.Link link) k ≡ (if eqb k key then Some (m v) else within m many level old k)
  put_link many level key v old older link h same k =
      let less : many + 1 - 1 ≡ many = omega arith in
      within_link (many + 1) level k link (λ e. omega (arith, e))
      ∙ ap (in_link m (λ older. within m (many + 1 - 1) level older k) k) h
      ∙ ap (λ o. if eqb k key then Some (m v) else o) (ap (λ n. within m n level older k) less ∙ same many level k)

  -- behind a link with another key
  pub past_link : (many level key : ℕ) (reached : Front T) (link : Arc (Link T (Front T)) Global) (first second : Link T (Front T)) (x : Option M) → reached ≡ front.Link link →
      first ≡ arc_value link → second ≡ arc_value link → many ≢ 0 → first.key ≢ key → within m many level reached key ≡ x → within m (many - 1) level second.older key ≡ x
  past_link many level key reached link first second x is at_first at_second some other before =
      let l : Link T (Front T) = arc_value link in
      ap (λ l. within m (many - 1) level l.older key) at_second
      ∙ sym (ap (λ b. if b then Some (m l.value) else within m (many - 1) level l.older key) (ne_eqb key l.key (λ e. other (ap (λ l. l.key) at_first ∙ sym e))))
      ∙ sym (within_link many level key link some) ∙ ap (λ f. within m many level f key) (sym is) ∙ before

  pub nodes_at : (many level : ℕ) (f : Front T) (root : Arc (Node T) Global) → f ≡ front.Nodes root → (k : ℕ) → within m many level f k ≡ value_below m level (arc_value root) k
  nodes_at many level f root is k = ap (λ f. within m many level f k) is ∙ within_nodes many level k root

  -- nodes without links in front of them
  pub nodes_settled : (many level : ℕ) (f : Front T) (root copy : Arc (Node T) Global) → f ≡ front.Nodes root → arc_value copy ≡ arc_value root → (k : ℕ) → within m 0 level (front.Nodes copy) k ≡ within m many level f k
  nodes_settled many level f root copy is h k = within_nodes 0 level k copy ∙ ap (λ n. value_below m level n k) h ∙ sym (nodes_at many level f root is k)

  -- the newest link is put behind the others
  pub put_settled : (many level : ℕ) (f : Front T) (link : Arc (Link T (Front T)) Global) (first second third : Link T (Front T)) (value : T) (made new : ℕ → Option M) → f ≡ front.Link link →
      first ≡ arc_value link → second ≡ arc_value link → third ≡ arc_value link → many ≢ 0 → ((k : ℕ) → made k ≡ within m (many - 1) level first.older k) → m value ≡ m third.value →
      ((k : ℕ) → new k ≡ (if eqb k second.key then Some (m value) else made k)) → (k : ℕ) → new k ≡ within m many level f k
  put_settled many level f link first second third value made new is at_first at_second at_third some older same put k =
      let l : Link T (Front T) = arc_value link in
      let rest : Option M = within m (many - 1) level l.older k in
      put k
      ∙ ap (λ o. if eqb k second.key then Some (m value) else o) (older k ∙ ap (λ l. within m (many - 1) level l.older k) at_first)
      ∙ ap (λ v. if eqb k second.key then Some v else rest) (same ∙ ap (λ l. m l.value) at_third)
      ∙ ap (λ x. if eqb k x then Some (m l.value) else rest) (ap (λ l. l.key) at_second)
      ∙ sym (within_link many level k link some) ∙ ap (λ f. within m many level f k) (sym is)
