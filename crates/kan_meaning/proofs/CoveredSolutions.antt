-- The answer of a kept store covers the values of variable 0 under its solutions.
use Rattle.std.proofs.Common.{◌≡◌, ℕ, Bool, true, false, ◌&&◌, not, eqb, List, [], ◌∷◌, map, filter, Option, Some, None, inl, inr, refl, sym, ap, subst, ◌∙◌, unwrap_or}
use Rattle.std.specs.List.{list_all}
use Rattle.std.proofs.lemmas.Bool.{and_from, and_parts, or_cases, eqb-true, both_ways, not-true, not_from_false, false_from_ne_true, true≢false}
use Rattle.kan_terms.specs.Table.{Table}
use Rattle.kan_terms.specs.Tree.{Tm, Gd, occurs, has_symbol, ground_eq}
use Rattle.kan_terms.specs.Valuations.{value_at, value}
use Rattle.kan_terms.proofs.TreeLaws.{occurs-leaves, leaves-has_symbol, eq-ground_eq}
use Rattle.kan_model.specs.Answers.Answer.{named_variables, solved_form, in_rank, ranks_lower, all_named, can_be_equal, if_written, and_form, forms_of, is_weaker, same_form, strongest, form_in_names, names_where, keeps_out, has_absence, may_have_tag, tags_of, absence_of, has_names, tag_le, absences_of}
use Rattle.kan_model.specs.Answers.AnswerText.{difference_le, answer_under, answer_by, answer_of}
use Rattle.kan_model.specs.Answers.Covers.{pair_met, difference_met, absence_met, Covers}
use Rattle.kan_model.specs.Answers.Order.{each_once, in_order}
use Rattle.kan_model.specs.Meaning.Holds.{is_symbol, is_number, is_string, holds_at}
use Rattle.kan_model.specs.Programs.Goals.{Primitive}
use Rattle.kan_model.specs.Stores.Kept.{has_type, holds_with}
use Rattle.kan_model.specs.Stores.Solve.{Replacement, image, apply, left_first, solve_store}
use Rattle.kan_model.specs.Stores.Store.{Store, equations}
use Rattle.kan_model.specs.Stores.Unifiers.{Factors}
use Rattle.kan_model.specs.declared.prims.Kind.TheVariants.{Symbol, Number, Text}
use Rattle.kan_model.proofs.ListLaws.{Each-all, Each-map, Each-filter, Each-each_once, Each-in_order, list_all-from_Each, Each-from_list_all}
use Rattle.kan_model.specs.Each.{Each}
use Rattle.kan_model.proofs.Solving.UnifierLaws.{factors_unify}
use Rattle.store_laws.proofs.OneForm.{through_answer}
use Rattle.kan_meaning.specs.Instances.{SolutionsAreCovered}
use Rattle.kan_meaning.proofs.ChoiceLaws.{Each-from_in_order, variables_named, value_at-place, values_pass}
use Rattle.kan_meaning.proofs.Instances.NamedValues.{PairHolds, holding_factors, pair_named, value-named, met_hold}
use Rattle.pull_bounds.proofs.KeptStores.{values_unify, value-apply, type-value}

-- a form in order is over named variables where it was so
pub named-in_rank : (vs : List ℕ) (g : Replacement) → all_named vs g ≡ true → all_named vs (in_rank vs g) ≡ true
named-in_rank vs g h =
    list_all-from_Each (pair_named vs) (in_rank vs g)
    (Each-in_order (λ p. pair_named vs p ≡ true) (λ p q. not (ranks_lower vs q.var p.var)) g (Each-from_list_all (pair_named vs) g h))

module _ (st : Store) (s : Replacement) (us : List Gd) (factors : Factors (value_at us) s) where
  abbrev vs : List ℕ
  vs = named_variables (image s 0)

  abbrev ws : List Gd
  ws = map (value_at us) vs

  -- a form's pairs aren't all met where its disequality holds
  form_met : (a b : Tm) (g : Replacement) → solved_form vs s a b ≡ Some g → all_named vs g ≡ true → holds_at us (Primitive.differ a b) ≡ true →
      difference_met ws (form_in_names vs (in_rank vs g)) ≡ true
  form_met a b g found named holds =
      not_from_false (list_all (pair_met ws) (form_in_names vs (in_rank vs g))) (false_from_ne_true (list_all (pair_met ws) (form_in_names vs (in_rank vs g)))
      (λ met. both_ways (ground_eq (value us a) (value us b)) (not-true (ground_eq (value us a) (value us b)) holds) (eq-ground_eq (value us a) (value us b) (equal met))))
    where
      equal : list_all (pair_met ws) (form_in_names vs (in_rank vs g)) ≡ true → value us a ≡ value us b
      equal met =
          let pairs = Each-from_in_order (PairHolds (value_at us)) (λ p q. not (ranks_lower vs q.var p.var)) g
          (met_hold vs ws (value_at us) (value_at-place (value_at us) vs) (in_rank vs g) (named-in_rank vs g named) met) in
          let (same, _) = factors_unify (ranks_lower vs) (record { left = apply s a; right = apply s b } ∷ []) g (value_at us) found (holding_factors (value_at us) g pairs) in
          sym (value-apply us s factors a) ∙ same ∙ value-apply us s factors b

  abbrev Met : Replacement → Type 0
  Met h = difference_met ws (form_in_names vs h) ≡ true

  forms_met : (ps : List (Primitive Tm)) → list_all (holds_at us) ps ≡ true → Each Met (forms_of vs st s ps)
  forms_met [] h = tt
  forms_met (Primitive.differ a b ∷ ps) h = by (solved_form vs s a b) refl (forms_met ps (and_parts (holds_at us (Primitive.differ a b)) (list_all (holds_at us) ps) h).1)
    where
      first : holds_at us (Primitive.differ a b) ≡ true
      first = (and_parts (holds_at us (Primitive.differ a b)) (list_all (holds_at us) ps) h).0

      choice : (g : Replacement) → solved_form vs s a b ≡ Some g → (c : Bool) → (all_named vs g && can_be_equal st a b) ≡ c → Each Met (forms_of vs st s ps) →
          Each Met (if_written c (in_rank vs g) (forms_of vs st s ps))
      choice g e true k hs = (form_met a b g e (and_parts (all_named vs g) (can_be_equal st a b) k).0 first, hs)
      choice g e false k hs = hs

      by : (o : Option Replacement) → solved_form vs s a b ≡ o → Each Met (forms_of vs st s ps) → Each Met (and_form vs st a b o (forms_of vs st s ps))
      by None e hs = hs
      by (Some g) e hs = choice g e (all_named vs g && can_be_equal st a b) refl hs
  forms_met (Primitive.same a b ∷ ps) h = forms_met ps (and_parts (holds_at us (Primitive.same a b)) (list_all (holds_at us) ps) h).1
  forms_met (Primitive.symbol a ∷ ps) h = forms_met ps (and_parts (holds_at us (Primitive.symbol a)) (list_all (holds_at us) ps) h).1
  forms_met (Primitive.number a ∷ ps) h = forms_met ps (and_parts (holds_at us (Primitive.number a)) (list_all (holds_at us) ps) h).1
  forms_met (Primitive.text a ∷ ps) h = forms_met ps (and_parts (holds_at us (Primitive.text a)) (list_all (holds_at us) ps) h).1
  forms_met (Primitive.absent tag a ∷ ps) h = forms_met ps (and_parts (holds_at us (Primitive.absent tag a)) (list_all (holds_at us) ps) h).1

  module _ (holds : list_all (holds_at us) st.prims ≡ true) where
    -- a tag that a primitive keeps out of a variable doesn't stand in its value
    tag_out : (tag v : ℕ) (ps : List (Primitive Tm)) → list_all (holds_at us) ps ≡ true → has_absence s ps tag v ≡ true → has_symbol tag (value_at us v) ≡ false
    tag_out tag v [] h k = absurd (true≢false (sym k))
    tag_out tag v (p ∷ ps) h k =
        let (first, rest) = and_parts (holds_at us p) (list_all (holds_at us) ps) h in
        elim (or_cases (keeps_out s tag v p) (has_absence s ps tag v) k) [ inl here ↦ by p first here | inr there ↦ tag_out tag v ps rest there ]
      where
        by : (p : Primitive Tm) → holds_at us p ≡ true → keeps_out s tag v p ≡ true → has_symbol tag (value_at us v) ≡ false
        by (Primitive.absent t a) h e =
            let (same, inside) = and_parts (eqb tag t) (occurs v (apply s a)) e in
            false_from_ne_true (has_symbol tag (value_at us v)) (λ there. both_ways (has_symbol t (value us a)) (not-true (has_symbol t (value us a)) h)
            (subst (λ x. has_symbol x (value us a) ≡ true) (eqb-true tag t same) (ap (has_symbol tag) (sym (value-apply us s factors a))
            ∙ leaves-has_symbol tag (value_at us) (apply s a) v (occurs-leaves v (apply s a) inside) there)))
        by (Primitive.same a b) h e = absurd (true≢false (sym e))
        by (Primitive.differ a b) h e = absurd (true≢false (sym e))
        by (Primitive.symbol a) h e = absurd (true≢false (sym e))
        by (Primitive.number a) h e = absurd (true≢false (sym e))
        by (Primitive.text a) h e = absurd (true≢false (sym e))

    absences_met : (table : Table) → list_all (absence_met ws) (absences_of table vs s st.prims) ≡ true
    absences_met table =
        list_all-from_Each (absence_met ws) (absences_of table vs s st.prims)
        (Each-in_order (λ a. absence_met ws a ≡ true) (tag_le table) (filter has_names (map (absence_of vs s st.prims) (each_once eqb (tags_of st.prims))))
        (Each-filter (λ a. absence_met ws a ≡ true) has_names (map (absence_of vs s st.prims) (each_once eqb (tags_of st.prims)))
        (Each-map (λ a. absence_met ws a ≡ true) (absence_of vs s st.prims) (each_once eqb (tags_of st.prims))
        (Each-all (λ tag. absence_met ws (absence_of vs s st.prims tag) ≡ true) (λ tag.
        values_pass (λ g. not (has_symbol tag g)) (λ v. has_absence s st.prims tag v && may_have_tag s st.prims v) (value_at us)
        (λ v e. not_from_false (has_symbol tag (value_at us v)) (tag_out tag v st.prims holds (and_parts (has_absence s st.prims tag v) (may_have_tag s st.prims v) e).0)) [] vs)
        (each_once eqb (tags_of st.prims))))))

    differences_met : (table : Table) → list_all (difference_met ws) (in_order (difference_le table) (map (form_in_names vs) (strongest (forms_of vs st s st.prims)))) ≡ true
    differences_met table =
        list_all-from_Each (difference_met ws) (in_order (difference_le table) (map (form_in_names vs) (strongest (forms_of vs st s st.prims))))
        (Each-in_order (λ d. difference_met ws d ≡ true) (difference_le table) (map (form_in_names vs) (strongest (forms_of vs st s st.prims)))
        (Each-map (λ d. difference_met ws d ≡ true) (form_in_names vs) (strongest (forms_of vs st s st.prims))
        (Each-each_once Met same_form (filter (λ f. not (is_weaker (forms_of vs st s st.prims) f)) (forms_of vs st s st.prims))
        (Each-filter Met (λ f. not (is_weaker (forms_of vs st s st.prims) f)) (forms_of vs st s st.prims) (forms_met st.prims holds)))))

    covered : (table : Table) → Covers (answer_under table st s vs) (value_at us 0)
    covered table = (
      ws,
      value-named vs ws (value_at us) (value_at-place (value_at us) vs) (image s 0) (variables_named (image s 0)) ∙ sym (factors 0),
      all_five,
    )
      where
        d : Bool
        d = list_all (difference_met ws) (in_order (difference_le table) (map (form_in_names vs) (strongest (forms_of vs st s st.prims))))

        n : Bool
        n = list_all (λ m. is_number (value_at ws m)) (names_where (has_type Number s st.prims) 0 vs)

        y : Bool
        y = list_all (λ m. is_symbol (value_at ws m)) (names_where (has_type Symbol s st.prims) 0 vs)

        t : Bool
        t = list_all (λ m. is_string (value_at ws m)) (names_where (has_type Text s st.prims) 0 vs)

        a : Bool
        a = list_all (absence_met ws) (absences_of table vs s st.prims)

        all_five : (d && n && y && t && a) ≡ true
        all_five =
            and_from (d && n && y && t) a (and_from (d && n && y) t (and_from (d && n) y (and_from d n (differences_met table)
            (values_pass is_number (has_type Number s st.prims) (value_at us) (λ v e. type-value us s factors Number v st.prims holds e) [] vs))
            (values_pass is_symbol (has_type Symbol s st.prims) (value_at us) (λ v e. type-value us s factors Symbol v st.prims holds e) [] vs))
            (values_pass is_string (has_type Text s st.prims) (value_at us) (λ v e. type-value us s factors Text v st.prims holds e) [] vs))
            (absences_met table)

pub solutions_are_covered : SolutionsAreCovered
solutions_are_covered table st u kept (us, (long, holds), at) = subst (Covers (answer_of table st)) at (by (solve_store st) refl kept)
  where
    by : (o : Option Replacement) → solve_store st ≡ o → holds_with st.prims o ≡ true → Covers (answer_by table st (unwrap_or o [])) (value_at us 0)
    by None found h = absurd (true≢false (sym h))
    by (Some s) found h = covered st s us (through_answer left_first (equations st.prims) s (value_at us) found (values_unify us st.prims holds)) holds table
