-- Forms of terms with the right number of parts.
use Rattle.std.proofs.Common.{◌≡◌, ℕ, sym, ap, Some}
use Rattle.kan_terms.specs.Tree.{Tree}
use Rattle.kan_terms.specs.Table.{Table}
use Rattle.kan_grammar.specs.Texts.Sited.{Sited}
use Rattle.kan_grammar.specs.Texts.TermForms.{term_form, cons_form, quasiquote_form, template_form, unquote_form}
use Rattle.goal_forms.specs.Shapes.{only, two}
use Rattle.goal_forms.proofs.ShapeLaws.{only-is, two-is}

pub quasiquoted_only : (t : Table) (at : ℕ) (s a : Sited) → Some a ≡ only s → template_form t a ≡ quasiquote_form t at s
quasiquoted_only t at s a e = ap (quasiquote_form t at) (sym (only-is s a e).2)

pub unquoted_only : (t : Table) (at : ℕ) (s a : Sited) → Some a ≡ only s → term_form t a ≡ unquote_form t at s
unquoted_only t at s a e = ap (unquote_form t at) (sym (only-is s a e).2)

pub cons_two : (t : Table) (at : ℕ) (s a d : Sited) → Some (a, d) ≡ two s → Tree.pair (term_form t a) (term_form t d) ≡ cons_form t at s
cons_two t at s a d e = ap (cons_form t at) (sym (two-is s a d e).3)
