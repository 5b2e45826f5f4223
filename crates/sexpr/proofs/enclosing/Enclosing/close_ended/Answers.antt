-- The list and the datum after its dot are put at the list's place.
use Rattle.std.proofs.Common.{ap, map, ◌∙◌}
use Rattle.std.specs.Prelude.{Some}
use Rattle.sexpr.specs.WrittenForms.{as_kept, list_of, written_form}
use Rattle.sexpr.specs.Frames.{place}
use Rattle.kan_grammar.specs.Data.Enclosing.{put}
use Rattle.sexpr.proofs.WrittenFormLaws.{written_dotted}
use Rattle.sexpr.proofs.FrameLaws.{on_ok}
use Rattle.sexpr.proofs.enclosing.Enclosing.close_ended.Goals as goal

pub returns-clause-around : goal.returns-clause-around
returns-clause-around c = on_ok c.put.result (λ p names. p names
    ∙ ap (put as_kept (place names c.args.self.now)) (written_dotted names c.args.ended.list.at c.args.ended.list.items c.in_ok-last.last
    ∙ ap (λ d. list_of c.args.ended.list.at (map (written_form names) c.args.ended.list.items) (Some (written_form names d))) c.in_ok-last.ensures)) c.put.ensures.around
