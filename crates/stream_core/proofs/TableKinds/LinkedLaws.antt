-- What ids that own their suspensions stand for.
use Rattle.std.proofs.Common.{Global, ◌≡◌, ◌∷◌, ◌<◌, ◌≤◌, ℕ, suc, length, arith, List, map, refl, sym, ◌∙◌, ap, ap₂, subst}
use Rattle.std.specs.Prelude.{Option, Some, None, option_map, unwrap_or, IfSome}
use Rattle.std.specs.Arc.{arc_value}
use Rattle.std.specs.declared.sync.Arc.{Arc}
use Rattle.kan_model.specs.Programs.Goals.{Goal, Program}
use Rattle.kan_model.specs.Programs.Environments.{terms_of}
use Rattle.kan_model.specs.declared.environment.Env.{Env}
use Rattle.kan_model.specs.Stores.Store as facts
use Rattle.kan_model.specs.Streams.Stream as model
use Rattle.kan_model.specs.Streams.Bounds.{Fits, top, floor}
use Rattle.kan_model.specs.Streams.Running.{force}
use Rattle.stream_core.specs.CounterBounds.{TailFits}
use Rattle.stream_core.specs.CodeSurroundings.{StandsInnermost, IsParted, IsForceWithin, StandsClosed}
use Rattle.stream_core.specs.InnerSuspensions.{depth}
use Rattle.stream_core.specs.TableKinds.LinkedTables.{suspensions_of}
use Rattle.stream_core.specs.Tables.{Table, IsForce, stream_in}
use Rattle.stream_core.specs.declared.nodes.Innermost.{Innermost}
use Rattle.stream_core.specs.declared.nodes.Innermost.TheVariants as innermost
use Rattle.stream_core.specs.declared.nodes.Parted.{Parted}
use Rattle.stream_core.specs.declared.nodes.Closed.{Closed}
use Rattle.stream_core.specs.declared.nodes.Closed.TheVariants as ways
use Rattle.stream_core.specs.declared.linked_ids.Level.TheVariants as levels
use Rattle.stream_core.proofs.Paths.AroundLaws.{within-fits, all-fits, made-force}
use Rattle.stream_core.proofs.ClosedLaws.{ProgramIsClosed}
use Rattle.stream_core.proofs.FitLaws.{force-fits}
use Rattle.stream_core.specs.Surroundings as outer
use Rattle.stream_core.specs.Suspensions.{goal_in, inner_id, going_on, stream_of_parts}
use Rattle.stream_core.specs.TableKinds.LinkedThunks.{thunk_of, suspension_of, nothing_read, Reading, reading, IsInnermost, IsLevel, with_inner, IsDown, IsUp, IsInside, linked_tree, linked_around, linked_stream, linked_thunk, linked_layers}
use Rattle.stream_core.specs.TableKinds.LinkedThunks.{IsInsideBind, HasEnteredSwap, IsEntered}
use Rattle.stream_core.specs.declared.streams.Stream.{Stream}
use Rattle.stream_core.specs.declared.streams.Thunk.{Thunk}
use Rattle.stream_core.specs.declared.streams.Thunk.TheVariants.{Call, Pause, Swap, Bind}
use Rattle.stream_core.specs.declared.linked_ids.Entered.{Entered}
use Rattle.stream_core.specs.declared.linked_ids.Entered.TheVariants.{Inside, Outside}
use Rattle.stream_core.specs.declared.linked_ids.LinkedId.{LinkedId, out-LinkedId, roll-LinkedId, fold_out-LinkedId, fold-roll-LinkedId}
use Rattle.stream_core.specs.declared.linked_ids.Weighed.{Weighed}

-- a stream that waits behind another one: what is made of both
swapped : (hs ks : List facts.Store) (first : model.Thunk) (last : Option model.Thunk) →
    model.Stream.goes_on hs (model.Thunk.swap (going_on ks last) first) ≡ model.append (going_on hs (Some first)) (going_on ks last)
swapped hs ks first last = refl

module _ {St : Type 0} (means : St → facts.Store) (goal : ℕ → Goal) where
  -- what is read of a suspension
  abbrev pub read : Thunk (LinkedId St) St → Reading
  read t = record { tree = linked_thunk means goal t; around = linked_layers means goal t }

  rolled : (node : Arc (Weighed (Thunk (LinkedId St) St)) Global) (t : Thunk (LinkedId St) St) →
      reading means goal (roll-LinkedId St (record { node = Some (record { ptr = node.ptr; value = record { thunk = t; weight = node.value.weight } }) })) ≡ read t
  rolled node (Call rel args store) = fold-roll-LinkedId St Reading _ _
  rolled node (Pause g env store) = fold-roll-LinkedId St Reading _ _
  rolled node (Swap heads None inner) = fold-roll-LinkedId St Reading _ _
  rolled node (Swap heads (Some tail) inner) = fold-roll-LinkedId St Reading _ _
  rolled node (Bind g env inner) = fold-roll-LinkedId St Reading _ _

  pub read-node : (node : Arc (Weighed (Thunk (LinkedId St) St)) Global) → reading means goal (roll-LinkedId St (record { node = Some node })) ≡ read (thunk_of (arc_value node))
  read-node node = rolled node node.value.thunk

  by-node : (o : Option (Arc (Weighed (Thunk (LinkedId St) St)) Global)) (node : Arc (Weighed (Thunk (LinkedId St) St)) Global) → o ≡ Some node → reading means goal (roll-LinkedId St (record { node = o })) ≡ read (thunk_of (arc_value node))
  by-node o node is = ap (λ x. reading means goal (roll-LinkedId St (record { node = x }))) is ∙ read-node node

  pub read-id : (id : LinkedId St) (node : Arc (Weighed (Thunk (LinkedId St) St)) Global) → (out-LinkedId St id).node ≡ Some node → reading means goal id ≡ read (thunk_of (arc_value node))
  read-id id node is = fold_out-LinkedId St Reading _ id ∙ sym (fold-roll-LinkedId St Reading _ (out-LinkedId St id)) ∙ by-node (out-LinkedId St id).node node is

  none-rolled : (o : Option (Arc (Weighed (Thunk (LinkedId St) St)) Global)) → option_map (λ node. thunk_of (arc_value node)) o ≡ None → reading means goal (roll-LinkedId St (record { node = o })) ≡ nothing_read
  none-rolled None none = fold-roll-LinkedId St Reading _ _
  none-rolled (Some node) none = let bad : Some (thunk_of (arc_value node)) ≡ None = none in cc

  -- nothing stands around an id without a suspension
  pub read-none : (id : LinkedId St) → suspension_of id ≡ None → reading means goal id ≡ nothing_read
  read-none id none = fold_out-LinkedId St Reading _ id ∙ sym (fold-roll-LinkedId St Reading _ (out-LinkedId St id)) ∙ none-rolled (out-LinkedId St id).node none

  -- one step down
  pub down : (whole around longer inner : LinkedId St) (t u : Thunk (LinkedId St) St) → reading means goal whole ≡ read t → reading means goal longer ≡ read u → inner_id t ≡ Some inner → u ≡ with_inner t around →
      IsDown means goal whole around longer inner
  down whole around longer inner (Call rel args store) u was is some more = let bad : None ≡ Some inner = some in cc
  down whole around longer inner (Pause g env store) u was is some more = let bad : None ≡ Some inner = some in cc
  down whole around longer inner (Swap heads tail i) u was is some more = record {
    layer = outer.Around.swap (stream_of_parts (linked_tree means goal) means heads tail);
    more = ap (λ r. r.around) (is ∙ ap read more);
    is = ap (λ o. model.Thunk.swap (stream_of_parts (linked_tree means goal) means heads tail) (linked_tree means goal (unwrap_or o i))) (sym some) ∙ ap (λ r. r.tree) (sym was);
  }
  down whole around longer inner (Bind g env i) u was is some more = record {
    layer = outer.Around.bind (goal g) (terms_of env);
    more = ap (λ r. r.around) (is ∙ ap read more);
    is = ap (λ o. model.Thunk.bind (goal g) (terms_of env) (linked_tree means goal (unwrap_or o i))) (sym some) ∙ ap (λ r. r.tree) (sym was);
  }

  -- one step up
  pub up : (whole around next : LinkedId St) (t u : Thunk (LinkedId St) St) (inside : Stream (LinkedId St) St) (heads : List St) → reading means goal whole ≡ read t → reading means goal next ≡ read u →
      IsInside means goal t u inside around heads → IsUp means goal (linked_around means goal whole) inside around (record { heads = heads; tail = Some next })
  up whole around next t u inside heads was is e = record {
    layer = e.layer;
    fewer = ap (λ r. r.around) was ∙ e.fewer;
    is = ap (λ r. model.Stream.goes_on (map means heads) r.tree) is ∙ e.made;
  }

  -- a stream without stores was let into a goal that waits
  pub entered-bind : (g : ℕ) (env : Env) (inner next : LinkedId St) (old : Thunk (LinkedId St) St) (inside : Stream (LinkedId St) St) (made : Entered St) → old ≡ Bind g env inner → IsInsideBind inner inside next made →
      IsEntered means goal old inside (Bind g env next) made
  entered-bind g env inner next old inside (Inside around heads) is (same, none, tail, front) = record {
    layer = outer.Around.bind (goal g) (terms_of env);
    fewer = ap (linked_layers means goal) is ∙ ap (λ i. outer.Around.bind (goal g) (terms_of env) ∷ linked_around means goal i) (sym same);
    made = ap (λ hs. going_on (map means hs) (Some (linked_thunk means goal (Bind g env next)))) front
        ∙ ap₂ (λ hs o. outer.made_within (outer.Around.bind (goal g) (terms_of env)) (stream_of_parts (linked_tree means goal) means hs o)) (sym none) (sym tail);
  }
  entered-bind g env inner next old inside (Outside same) is (kept, back) = (ap (Bind g env) kept ∙ sym is, back)

  -- a stream waits where another one waited
  pub entered-swap : (hs hs_new : List St) (t t_new : Option (LinkedId St)) (inner next : LinkedId St) (old : Thunk (LinkedId St) St) (inside : Stream (LinkedId St) St) (made : Entered St) → old ≡ Swap hs t inner →
      HasEnteredSwap hs t inner inside hs_new t_new next made → IsEntered means goal old inside (Swap hs_new t_new next) made
  entered-swap hs hs_new t t_new inner next old inside (Inside around heads) is e = record {
    layer = outer.Around.swap (stream_of_parts (linked_tree means goal) means hs t);
    fewer = ap (linked_layers means goal) is ∙ ap (λ i. outer.Around.swap (stream_of_parts (linked_tree means goal) means hs t) ∷ linked_around means goal i) (sym e.outer);
    made = ap₂ (λ xs w. model.Stream.goes_on (map means xs) (model.Thunk.swap w (linked_tree means goal next))) e.first (ap₂ (stream_of_parts (linked_tree means goal) means) e.waiting e.last)
        ∙ swapped (map means hs) (map means inside.heads) (linked_tree means goal next) (option_map (linked_tree means goal) inside.tail)
        ∙ ap (λ o. model.append (stream_of_parts (linked_tree means goal) means hs o) (linked_stream means goal inside)) (sym e.next);
  }
  entered-swap hs hs_new t t_new inner next old inside (Outside same) is (heads, tail, kept, back) =
      (ap₂ (λ xs o. Swap xs o next) heads tail ∙ ap (Swap hs t) kept ∙ sym is, back)

within-deeper : (a : outer.Around) (i : model.Thunk) → depth (outer.within a i) ≡ suc (depth i)
within-deeper (outer.Around.swap t) i = refl
within-deeper (outer.Around.bind g env) i = refl

module _ {St : Type 0} (means : St → facts.Store) (p : Program) where
  abbrev pub table : Table (LinkedId St)
  table = suspensions_of means p

  abbrev pub around_in : LinkedId St → List outer.Around
  around_in id = linked_around means (goal_in p) id

  module _ (around longer inside inner : LinkedId St) (d : IsDown means (goal_in p) inside around longer inner) where
    -- what is left after a step down stands in the same whole one, fits the program and is less deep
    pub down-whole : (whole : model.Thunk) → outer.within_all (around_in around) (table.tree inside) ≡ whole → outer.within_all (around_in longer) (table.tree inner) ≡ whole
    down-whole whole is = ap (λ xs. outer.within_all xs (table.tree inner)) d.more ∙ ap (outer.within_all (around_in around)) d.is ∙ is

    pub down-fits : table.belongs inside → table.belongs inner
    down-fits fits = within-fits p d.layer (table.tree inner) (subst (Fits p) (sym d.is) fits)

    pub down-smaller : depth (table.tree inner) < depth (table.tree inside)
    down-smaller = let deeper : depth (table.tree inside) ≡ suc (depth (table.tree inner)) = ap depth (sym d.is) ∙ within-deeper d.layer (table.tree inner) in omega (arith, deeper)

  innermost-stands : (inside : LinkedId St) (last : Innermost (LinkedId St) St) → IsInnermost means (goal_in p) inside last → table.belongs inside → StandsInnermost table means (table.tree inside) last
  innermost-stands inside (innermost.Last t) (is, alone) fits = (is, alone)
  innermost-stands inside (innermost.Shared same) is fits = (is, subst (Fits p) (sym is) fits)

  -- where the way down ends
  pub down-ends : (whole : model.Thunk) (around inside : LinkedId St) (parted : Parted (LinkedId St) (LinkedId St) St) → parted.around ≡ around → IsInnermost means (goal_in p) inside parted.innermost →
      outer.within_all (around_in around) (table.tree inside) ≡ whole → table.belongs inside → IsParted table around_in means whole parted
  down-ends whole around inside parted same last is fits = record {
    tree = table.tree inside;
    is = ap (λ a. outer.within_all (around_in a) (table.tree inside)) same ∙ is;
    innermost = innermost-stands inside parted.innermost last fits;
  }

  -- where it begins, nothing is around
  pub down-begins : (around inside : LinkedId St) → suspension_of around ≡ None → outer.within_all (around_in around) (table.tree inside) ≡ table.tree inside
  down-begins around inside none = ap (λ r. outer.within_all r.around (table.tree inside)) (read-none means (goal_in p) around none)

  module _ (closed : ProgramIsClosed p) where
    tail-fits : (low high : ℕ) (heads : List St) (tail : Option (LinkedId St)) → TailFits p low high (stream_of_parts table.tree means heads tail) → IfSome tail table.belongs
    tail-fits low high heads None fits = tt
    tail-fits low high heads (Some id) fits = fits.tail.0

    -- a stream that is the force of what fits is of the table
    forced : (tree : model.Thunk) (s : Stream (LinkedId St) St) → Fits p tree → stream_in table means s ≡ force p tree → IsForce table means tree s
    forced tree s fits is = (tail-fits (floor tree) (top tree) s.heads s.tail (subst (TailFits p (floor tree) (top tree)) (sym is) (force-fits p tree closed fits)), is)

    module _ (whole : model.Thunk) (around : LinkedId St) (inside : Stream (LinkedId St) St) (fits : Fits p whole) (w : IsForceWithin table around_in means whole around inside) where
      pub up-within : (shorter : LinkedId St) (made : Stream (LinkedId St) St) → IsUp means (goal_in p) (around_in around) inside shorter made → IsForceWithin table around_in means whole shorter made
      up-within shorter made u =
          let is : outer.within_all (around_in shorter) (outer.within u.layer w.tree) ≡ whole = ap (λ xs. outer.within_all xs w.tree) (sym u.fewer) ∙ w.is in
          record {
            tree = outer.within u.layer w.tree;
            is = is;
            force = forced (outer.within u.layer w.tree) made (all-fits p (around_in shorter) (outer.within u.layer w.tree) (subst (Fits p) (sym is) fits))
                (u.is ∙ ap (outer.made_within u.layer) w.force.1 ∙ made-force p u.layer w.tree);
          }

      -- where the way up ends
      pub up-ends : (first : LinkedId St) (made : Closed (LinkedId St) (LinkedId St) St) → length (around_in around) ≤ length (around_in first) → IsLevel means (goal_in p) (around_in around) inside (levels.End made) →
          StandsClosed table around_in means whole first made
      up-ends first (ways.Made made) low (none, same) =
          forced whole made fits (same ∙ w.force.1 ∙ ap (force p) (ap (λ xs. outer.within_all xs w.tree) (sym none) ∙ w.is))
      up-ends first (ways.Run g env s shorter) low (is, same) =
          let all : outer.within_all (around_in shorter) (model.Thunk.bind (goal_in p g) (terms_of env) w.tree) ≡ whole = ap (λ xs. outer.within_all xs w.tree) (sym is) ∙ w.is in
          record {
            tree = w.tree;
            is = all;
            force = forced w.tree s (all-fits p (around_in around) w.tree (subst (Fits p) (sym w.is) fits)) (same ∙ w.force.1);
            fewer = let long : length (around_in around) ≡ suc (length (around_in shorter)) = ap length is in omega (arith, long, low);
          }
