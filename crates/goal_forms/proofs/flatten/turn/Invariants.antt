use Rattle.std.proofs.Common.{◌≡◌, ◌+◌, ◌≤◌, ◌++◌, map, take, reverse, length, true}
use Rattle.std.specs.List.{list_all}
use Rattle.goal_forms.specs.Heights.{is_low_datum, AreLow}
use Rattle.goal_forms.specs.Parts.{sites}
use Rattle.goal_forms.specs.Places.{are_below, stack_sites}
use Rattle.goal_forms.specs.Unnamed.{sites_unnamed}
use Rattle.goal_forms.specs.Sizes.{parts_in}
use Rattle.goal_forms.specs.Flattening.{meaning}
use Rattle.goal_forms.proofs.flatten.turn.Given as goal

-- the data so far are made, on top of what was made before
abbrev pub invariant-loop-datum : goal.invariant-loop-datum
invariant-loop-datum l = record {
  made : stack_sites (sites l.table) l.places.items ≡ reverse (map (meaning l.names) (take l.datum-index l.forms)) ++ stack_sites (sites l.fn.table) l.fn.places.items;
  below : are_below (length (sites l.table)) l.places.items ≡ true;
  low : AreLow (map (meaning l.names) l.forms) → list_all is_low_datum (stack_sites (sites l.fn.table) l.fn.places.items) ≡ true → AreLow (sites l.fn.table) →
      (list_all is_low_datum (stack_sites (sites l.table) l.places.items) ≡ true) × AreLow (sites l.table);
  named : sites_unnamed l.names (sites l.table) ≤ sites_unnamed l.names (sites l.fn.table);
  parts : length (sites l.table) ≤ length (sites l.fn.table) + parts_in (map (meaning l.names) (take l.datum-index l.forms));
}
