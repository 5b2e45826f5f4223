-- Constraints that marks meet.
use Rattle.std.proofs.Common.{◌≡◌, Bool, true, List, ◌∙◌, ap, sym}
use Rattle.kan_terms.specs.declared.marks.Mark.{Mark}
use Rattle.reify.specs.Shapes.{named_pair, spells}
use Rattle.reify.specs.declared.shaping.NamePair.{NamePair}
use Rattle.reify.proofs.ShapeLaws.{spelled_whole}
use Rattle.answer_reading.specs.Marks.{marks_at, marks_eq, pair_met, term_marks}

pub pair_is_met : (vs : List (List Mark)) (p : NamePair) (met : Bool) (value made : List Mark) → spells 1 p.term ≡ true → made ≡ term_marks vs p.term → value ≡ marks_at vs p.name → met ≡ marks_eq value made → met ≡ pair_met vs (named_pair p)
pair_is_met vs p met value made whole is at same =
    same ∙ ap (λ v. marks_eq v made) at ∙ ap (marks_eq (marks_at vs p.name)) (is ∙ ap (term_marks vs) (sym (spelled_whole p.term whole)))
