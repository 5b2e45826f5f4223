use Rattle.std.proofs.Common.{◌≡◌, ◌∷◌, ◌+◌, ◌≤◌, reverse, length, max, true}
use Rattle.kan_grammar.specs.Texts.Sited.{with_sites}
use Rattle.sexpr.specs.WrittenForms.{written_form}
use Rattle.std.specs.List.{list_all}
use Rattle.goal_forms.specs.Heights.{is_low_datum, AreLow}
use Rattle.goal_forms.specs.FlatHeights.{WorksLow}
use Rattle.goal_forms.specs.Parts.{sites}
use Rattle.goal_forms.specs.Places.{are_below, stack_sites}
use Rattle.goal_forms.specs.Steps.TermSteps.{site_size}
use Rattle.goal_forms.specs.Unnamed.{sites_unnamed, works_unnamed}
use Rattle.goal_forms.specs.Sizes.{works_parts}
use Rattle.goal_forms.specs.Flattening.{finish, works_size}
use Rattle.goal_forms.proofs.flatten.turn_one.Given as goal

-- what is made once all work is done is the datum, on top of what was made before
abbrev pub invariant-loop-work : goal.invariant-loop-work
invariant-loop-work l = record {
  made : finish l.names (reverse l.works.items) (stack_sites (sites l.table) l.places.items) ≡ with_sites l.names (written_form l.names l.datum) ∷ stack_sites (sites l.fn.table) l.fn.places.items;
  below : are_below (length (sites l.table)) l.places.items ≡ true;
  low : is_low_datum (with_sites l.names (written_form l.names l.datum)) ≡ true → list_all is_low_datum (stack_sites (sites l.fn.table) l.fn.places.items) ≡ true → AreLow (sites l.fn.table) →
      WorksLow l.names (reverse l.works.items) (sites l.table) l.places.items;
  named : max (sites_unnamed l.names (sites l.table)) (works_unnamed l.names l.works.items) ≤ sites_unnamed l.names (sites l.fn.table);
  parts : length (sites l.table) + works_parts l.names l.works.items ≤ length (sites l.fn.table) + site_size (with_sites l.names (written_form l.names l.datum));
}

abbrev pub decreases-loop-work : goal.decreases-loop-work
decreases-loop-work l = works_size l.names l.works.items
