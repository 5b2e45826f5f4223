-- The test of derivations and their family say the same, and steps spell one derivation at most.
use Rattle.std.proofs.Common.{◌≡◌, true, eqb, List, [], ◌∷◌, ◌++◌, length, Option, Some, None, slice_get, refl, sym, ap, subst, ◌∙◌, append_assoc}
use Rattle.std.proofs.lemmas.Bool.{and_parts, and_from, eqb-true, eq-eqb, true≢false}
use Rattle.kan_terms.specs.Tree.{Gd}
use Rattle.kan_model.specs.Programs.Goals.{Goal, Relation, Program}
use Rattle.kan_model.specs.Meaning.Derivations.{Derivation, Step, steps_of, values, derives, Derives, TestIsFamily, SpelledOnce}

module _ (program : Program) where
  -- what the test accepts is in the family
  pub Derives-from_test : (g : Goal) (us : List Gd) (d : Derivation) → derives program g us d ≡ true → Derives program g us d
  Derives-from_test (Goal.prim p) us Derivation.holds h = Derives.primitive h
  Derives-from_test Goal.succeed us Derivation.holds h = Derives.succeed
  Derives-from_test (Goal.both g k) us (Derivation.both d e) h =
      let (first, second) = and_parts (derives program g us d) (derives program k us e) h in
      Derives.both (Derives-from_test g us d first) (Derives-from_test k us e second)
  Derives-from_test (Goal.either g k) us (Derivation.left d) h = Derives.left (Derives-from_test g us d h)
  Derives-from_test (Goal.either g k) us (Derivation.right d) h = Derives.right (Derives-from_test k us d h)
  Derives-from_test (Goal.fresh n g) us (Derivation.choose vs d) h =
      let (long, below) = and_parts (eqb (length vs) n) (derives program g (us ++ vs) d) h in
      subst (λ m. Derives program (Goal.fresh m g) us (Derivation.choose vs d)) (eqb-true (length vs) n long) (Derives.choose (Derives-from_test g (us ++ vs) d below))
  Derives-from_test (Goal.later g) us (Derivation.enter d) h = Derives.later (Derives-from_test g us d h)
  Derives-from_test (Goal.call r args) us (Derivation.enter d) h = by (slice_get program.relations r) refl (λ rel. Derives-from_test rel.body (values us args) d)
    where
      by : (found : Option Relation) → slice_get program.relations r ≡ found →
          ((rel : Relation) → derives program rel.body (values us args) d ≡ true → Derives program rel.body (values us args) d) →
          Derives program (Goal.call r args) us (Derivation.enter d)
      by None e ih = absurd (true≢false (sym h ∙ rw (e, derives) refl))
      by (Some rel) e ih = Derives.enter e (ih rel (rw (e, derives) at h))
  Derives-from_test _ _ _ h = absurd (true≢false (sym h))

  -- what is in the family the test accepts
  pub test_from-Derives : (g : Goal) (us : List Gd) (d : Derivation) → Derives program g us d → derives program g us d ≡ true
  test_from-Derives g us d (Derives.primitive h) = h
  test_from-Derives g us d Derives.succeed = refl
  test_from-Derives g us d (Derives.both {g = g'} {h = k} {d = d'} {e = e} first second) =
      and_from (derives program g' us d') (derives program k us e) (test_from-Derives g' us d' first) (test_from-Derives k us e second)
  test_from-Derives g us d (Derives.left {g = g'} {d = d'} below) = test_from-Derives g' us d' below
  test_from-Derives g us d (Derives.right {h = k} {d = d'} below) = test_from-Derives k us d' below
  test_from-Derives g us d (Derives.choose {g = g'} {vs = vs} {d = d'} below) =
      and_from (eqb (length vs) (length vs)) (derives program g' (us ++ vs) d') (eq-eqb (length vs) (length vs) refl) (test_from-Derives g' (us ++ vs) d' below)
  test_from-Derives g us d (Derives.later {g = g'} {d = d'} below) = test_from-Derives g' us d' below
  test_from-Derives g us d (Derives.enter {args = args} {rel = rel} {d = d'} e below) = rw (e, derives) (test_from-Derives rel.body (values us args) d' below)

pub test_is_family : TestIsFamily
test_is_family program g us d = (Derives-from_test program g us d, test_from-Derives program g us d)

without_first : List Step → List Step
without_first [] = []
without_first (s ∷ ss) = ss

-- steps spell one derivation, and it ends at one place
pub spelled_once : (d e : Derivation) (more last : List Step) → steps_of d ++ more ≡ steps_of e ++ last → (d ≡ e) × (more ≡ last)
unfolding without_first
spelled_once Derivation.holds Derivation.holds more last h = (refl, ap without_first h)
spelled_once (Derivation.both d e) (Derivation.both d' e') more last h =
    let (first, rest) = spelled_once d d' (steps_of e ++ more) (steps_of e' ++ last)
    (sym (append_assoc (steps_of d) (steps_of e) more) ∙ ap without_first h ∙ append_assoc (steps_of d') (steps_of e') last) in
    let (second, after) = spelled_once e e' more last rest in
    (cc, after)
spelled_once (Derivation.left d) (Derivation.left d') more last h = let (below, after) = spelled_once d d' more last (ap without_first h) in (ap Derivation.left below, after)
spelled_once (Derivation.right d) (Derivation.right d') more last h = let (below, after) = spelled_once d d' more last (ap without_first h) in (ap Derivation.right below, after)
spelled_once (Derivation.choose us d) (Derivation.choose vs d') more last h = let (below, after) = spelled_once d d' more last (ap without_first h) in (cc, after)
spelled_once (Derivation.enter d) (Derivation.enter d') more last h = let (below, after) = spelled_once d d' more last (ap without_first h) in (ap Derivation.enter below, after)
spelled_once _ _ more last h = cc

pub spelled_one : SpelledOnce
spelled_one d e h = (spelled_once d e [] [] (ap (λ ss. ss ++ []) h)).0
