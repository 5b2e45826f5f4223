-- What is left to put gives what putting the datum at the start gives.
use Rattle.std.proofs.Common.{◌≡◌, ◌<◌, None, vec_len}
use Rattle.std.specs.List.{fold}
use Rattle.kan_grammar.specs.Data.Enclosing.{put}
use Rattle.sexpr.specs.WrittenForms.{written_form, as_kept}
use Rattle.kan_terms.specs.Table.{Table}
use Rattle.sexpr.specs.Frames.{depth_inside, place}
use Rattle.sexpr.proofs.enclosing.Enclosing.put.Given as goal

abbrev pub invariant-loop-frame : goal.invariant-loop-frame
invariant-loop-frame l = record {
  around_same : (names : Table) → put as_kept (place names l.self) (written_form names l.datum) ≡ put as_kept (place names l.initial.self) (written_form names l.initial.datum);
  depth_is : l.self.depth ≡ fold depth_inside 0 l.self.frames.items;
  room : l.self.depth < 2050;
  place_is : l.self.ended ≡ None;
}

abbrev pub decreases-loop-frame : goal.decreases-loop-frame
decreases-loop-frame l = vec_len l.self.frames
