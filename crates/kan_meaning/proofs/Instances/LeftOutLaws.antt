-- The five cases in which an answer leaves out a disequality.
use Rattle.std.proofs.Common.{◌≡◌, ℕ, zero, suc, ◌≤◌, max, Bool, true, false, ◌&&◌, not, List, [], ◌∷◌, ◌++◌, filter, Some, Contains, refl, sym, ap, subst, ◌∙◌, arith}
use Rattle.std.specs.List.{list_all}
use Rattle.std.proofs.lemmas.Bool.{and_from, both_ways, not-true, not-false, not_from_false, false_from_ne_true}
use Rattle.std.proofs.lemmas.List.Folds.{list_all-append}
use Rattle.kan_terms.specs.Tree.{Gd, fill}
use Rattle.kan_terms.specs.Valuations.{value_at, value}
use Rattle.kan_model.specs.Answers.Answer.{solved_form, rank, ranks_lower, all_named, is_no_difference, can_be_equal, is_weaker, same_form}
use Rattle.kan_model.specs.Answers.Order.{each_once}
use Rattle.kan_model.specs.Meaning.Holds.{holds_at}
use Rattle.kan_model.specs.Programs.Goals.{Primitive}
use Rattle.kan_model.specs.Stores.Solve.{Replacement, apply}
use Rattle.kan_model.specs.Stores.Store.{Equation}
use Rattle.kan_model.specs.declared.prims.Kind.{Kind}
use Rattle.kan_model.specs.declared.prims.Kind.TheVariants.{Symbol}
use Rattle.kan_model.proofs.Answering.SolvedForms.{rank-one}
use Rattle.kan_model.proofs.ListLaws.{Each-like, Each-filter, Each-each_once, list_all-from_Each, Each-from_list_all}
use Rattle.kan_model.specs.Each.{Each}
use Rattle.kan_model.proofs.Solving.UnifierLaws.{answer_most_general}
use Rattle.store_laws.proofs.OneForm.{answer_rises}
use Rattle.kan_meaning.specs.LeftOut.{NeverEqual, UnnamedCanDiffer, ExcludedDiffer, pair_holds, fails, WeakerSayNothing, EqualSayNothing}
use Rattle.kan_meaning.proofs.ChoiceLaws.{Each-from_filter, Each-from_once}
use Rattle.kan_terms.proofs.TreeLaws.{eq-ground_eq, ground_eq-true}
use Rattle.kan_meaning.proofs.Instances.NamedValues.{PairHolds}
use Rattle.kan_meaning.proofs.Instances.OwnForms.{free_values, named-free, above_values, above_terms, factors_hold, holding_named}
use Rattle.pull_bounds.proofs.KeptStores.{solved_is_kept}
use Rattle.kan_meaning.proofs.Instances.SolvedInstances.{sides, same_form-true, form_once, form_above}
use Rattle.kan_meaning.proofs.ImpliedLaws.{weaker_follow}

pub never_equal : NeverEqual
never_equal vs s e f none same = let (g, found, factors) = answer_most_general (ranks_lower vs) (sides s e.left e.right) f (same, tt) in cc

-- a number above the atoms of the terms of all forms
most_above : List ℕ → Replacement → List Equation → ℕ
most_above vs s [] = 0
most_above vs s (e ∷ es) = max (form_above (solved_form vs s e.left e.right)) (most_above vs s es)

above_one : (vs : List ℕ) (s : Replacement) (es : List Equation) (e : Equation) → Contains es e → form_above (solved_form vs s e.left e.right) ≤ most_above vs s es
unfolding most_above
above_one vs s [] e (k, within, is) = absurd (omega (arith, within))
above_one vs s (d ∷ es) e (zero, within, is) =
    subst (λ x. form_above (solved_form vs s x.left x.right) ≤ max (form_above (solved_form vs s d.left d.right)) (most_above vs s es)) is (omega arith)
above_one vs s (d ∷ es) e (suc k, within, is) = omega (arith, above_one vs s es e (k, omega (arith, within), is))

pub unnamed_can_differ : UnnamedCanDiffer
unnamed_can_differ vs named s es = (free_values vs named n all_symbols, named-free vs named n all_symbols, differ)
  where
    n : ℕ
    n = max (above_values named) (most_above vs s es)

    all_symbols : ℕ → Kind
    all_symbols v = Symbol

    differ : (e : Equation) → Contains es e → (g : Replacement) × (solved_form vs s e.left e.right ≡ Some g) × (all_named vs g ≡ false) →
        fill (free_values vs named n all_symbols) (apply s e.left) ≡ fill (free_values vs named n all_symbols) (apply s e.right) → ⊥
    differ e there (form, found_form, unnamed) same =
        let (g, found, factors) = answer_most_general (ranks_lower vs) (sides s e.left e.right) (free_values vs named n all_symbols) (same, tt) in
        let pairs = factors_hold (free_values vs named n all_symbols) g (form_once vs (sides s e.left e.right) g found) factors in
        let low : above_terms g ≤ n = omega (arith, above_one vs s es e there, ap form_above found) in
        let all = holding_named vs named n all_symbols (omega arith) g pairs (answer_rises (rank vs) (sides s e.left e.right) g (rank-one vs) found) low in
        let one : g ≡ form = cc in
        both_ways (all_named vs form) unnamed (ap (all_named vs) (sym one) ∙ all)

pub excluded_differ : ExcludedDiffer
excluded_differ st a b us excluded (long, holds) same =
    both_ways (can_be_equal st a b) excluded
    (solved_is_kept (record { prims = filter is_no_difference st.prims ++ Primitive.same a b ∷ []; counter = st.counter }) us (
      long,
      list_all-append (holds_at us) (filter is_no_difference st.prims) (Primitive.same a b ∷ [])
          ∙ and_from (list_all (holds_at us) (filter is_no_difference st.prims)) (holds_at us (Primitive.same a b) && true) holds
          (and_from (holds_at us (Primitive.same a b)) true (eq-ground_eq (value us a) (value us b) same) refl),
    ))

same_truth : (a b : Bool) → (a ≡ true → b ≡ true) → (b ≡ true → a ≡ true) → a ≡ b
same_truth true b to from = sym (to refl)
same_truth false true to from = from refl
same_truth false false to from = refl

-- the test of a form and its pairs
pairs_of : (us : List Gd) (g : Replacement) → list_all (pair_holds us) g ≡ true → Each (PairHolds (value_at us)) g
pairs_of us g h =
    Each-like (λ p. pair_holds us p ≡ true) (PairHolds (value_at us)) (λ p. ground_eq-true (value_at us p.var) (value us p.by)) g (Each-from_list_all (pair_holds us) g h)

of_pairs : (us : List Gd) (g : Replacement) → Each (PairHolds (value_at us)) g → list_all (pair_holds us) g ≡ true
of_pairs us g h =
    list_all-from_Each (pair_holds us) g (Each-like (PairHolds (value_at us)) (λ p. pair_holds us p ≡ true) (λ p. eq-ground_eq (value_at us p.var) (value us p.by)) g h)

pub weaker_say_nothing : WeakerSayNothing
weaker_say_nothing us forms = same_truth (list_all (fails us) (filter strong forms)) (list_all (fails us) forms) all_fail strong_fail
  where
    strong : Replacement → Bool
    strong g = not (is_weaker forms g)

    Fails : Replacement → Type 0
    Fails g = fails us g ≡ true

    Holding : Replacement → Type 0
    Holding g = Each (PairHolds (value_at us)) g → ⊥

    all_fail : list_all (fails us) (filter strong forms) ≡ true → list_all (fails us) forms ≡ true
    all_fail h =
        list_all-from_Each (fails us) forms
        (Each-like Holding Fails (λ g none. not_from_false (list_all (pair_holds us) g) (false_from_ne_true (list_all (pair_holds us) g) (λ k. none (pairs_of us g k)))) forms
        (weaker_follow (value_at us) forms
        (Each-from_filter (λ g. is_weaker forms g ≡ false → Holding g) strong (λ g e k. absurd (both_ways (is_weaker forms g) k (not-false (is_weaker forms g) e))) forms
        (Each-like Fails (λ g. is_weaker forms g ≡ false → Holding g) (λ g k alone holds. both_ways (list_all (pair_holds us) g) (not-true (list_all (pair_holds us) g) k) (of_pairs us g holds)) (filter strong forms)
        (Each-from_list_all (fails us) (filter strong forms) h)))))

    strong_fail : list_all (fails us) forms ≡ true → list_all (fails us) (filter strong forms) ≡ true
    strong_fail h = list_all-from_Each (fails us) (filter strong forms) (Each-filter Fails strong forms (Each-from_list_all (fails us) forms h))

pub equal_say_nothing : EqualSayNothing
equal_say_nothing us forms = same_truth (list_all (fails us) (each_once same_form forms)) (list_all (fails us) forms) all_fail once_fail
  where
    Fails : Replacement → Type 0
    Fails g = fails us g ≡ true

    all_fail : list_all (fails us) (each_once same_form forms) ≡ true → list_all (fails us) forms ≡ true
    all_fail h =
        list_all-from_Each (fails us) forms
        (Each-from_once Fails same_form (λ g k e. subst Fails (same_form-true g k e)) forms (Each-from_list_all (fails us) (each_once same_form forms) h))

    once_fail : list_all (fails us) forms ≡ true → list_all (fails us) (each_once same_form forms) ≡ true
    once_fail h = list_all-from_Each (fails us) (each_once same_form forms) (Each-each_once Fails same_form forms (Each-from_list_all (fails us) forms h))
