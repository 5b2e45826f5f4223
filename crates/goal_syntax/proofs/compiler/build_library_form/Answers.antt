use Rattle.std.proofs.Common.{sym}
use Rattle.goal_syntax.proofs.compiler.build_library_form.Goals as goal

pub returns-in_ok-build_relation-clause-means : goal.returns-in_ok-build_relation-clause-means
returns-in_ok-build_relation-clause-means c = λ qs rs asked means. rw (sym c.in-Relation.ensures) (c.in_ok-build_relation.ensures.means qs rs asked means)
