use Rattle.std.proofs.Common.{true, false, map, subst, refl, rules}
use Rattle.std.proofs.lemmas.Result.{IfOk-weaker}
use Rattle.kan_terms.specs.Terms.{sides}
use Rattle.type_absence.specs.Types.{made_if}
use Rattle.type_absence.specs.Meaning.{types, tags}
use Rattle.diseq.specs.Meaning.{disequalities_in}
use Rattle.kan_store.specs.Moving.{TypesMove, TagsMove}
use Rattle.kan_store.specs.Parts.{Carried}
use Rattle.kan_store.specs.Meaning.{parts_of}
use Rattle.kan_store.proofs.SolvedLaws.{added_bind, rechecked}
use Rattle.kan_store.proofs.solved.carry.Goals as goal

pub move_types-requires-clause-binds : goal.move_types-requires-clause-binds
move_types-requires-clause-binds g c = let (older, put, watched) = c.requires.older in added_bind older (map sides c.args.added.now) (g.B.Bindings.pairs c.args.solved.now.bindings) put

pub move_tags-requires-clause-binds : goal.move_tags-requires-clause-binds
move_tags-requires-clause-binds g c = let (older, put, watched) = c.requires.older in added_bind older (map sides c.args.added.now) (g.B.Bindings.pairs c.args.solved.now.bindings) put

pub returns-then-not-branch : goal.returns-then-not-branch
returns-then-not-branch g c =
    Carried.types_clash (subst (λ f. TypesMove (g.B.Bindings.pairs c.args.solved.now.bindings) (types c.args.solved.now.kinds) (map sides c.args.added.now) (made_if f (types c.move_types.new.kinds))) {y = false} (search rules) c.in_ok-move_types.ensures)

pub returns-then-not-branch-2 : goal.returns-then-not-branch-2
returns-then-not-branch-2 g c =
    Carried.tags_clash (subst (λ f. TagsMove (g.B.Bindings.pairs c.args.solved.now.bindings) (tags c.args.solved.now.absences) (map sides c.args.added.now) (made_if f (tags c.move_tags.new.absences))) {y = false} (search rules) c.in_ok-move_tags.ensures)

pub returns : goal.returns
returns g c = IfOk-weaker c.recheck.result _ _
    (λ fits brought. rechecked (parts_of g.B.Bindings.pairs c.args.solved.now)
    (record { bound = g.B.Bindings.pairs c.args.solved.now.bindings; types = types c.move_types.new.kinds; tags = tags c.move_tags.new.absences; lists = disequalities_in c.recheck.new.diseqs })
    (map sides c.args.added.now) fits refl
    (subst (λ f. TypesMove (g.B.Bindings.pairs c.args.solved.now.bindings) (types c.args.solved.now.kinds) (map sides c.args.added.now) (made_if f (types c.move_types.new.kinds))) {y = true} (search rules) c.in_ok-move_types.ensures)
    (subst (λ f. TagsMove (g.B.Bindings.pairs c.args.solved.now.bindings) (tags c.args.solved.now.absences) (map sides c.args.added.now) (made_if f (tags c.move_tags.new.absences))) {y = true} (search rules) c.in_ok-move_tags.ensures)
    brought) c.recheck.ensures
