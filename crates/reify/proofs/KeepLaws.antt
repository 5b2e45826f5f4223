-- The forms of the pairs that a store tells are those of its disequalities.
use Rattle.std.proofs.Common.{◌≡◌, ℕ, ◌+◌, ◌<◌, Bool, true, false, ◌&&◌, List, [], ◌∷◌, ◌++◌, length, map, filter, get_or, take, reverse, Option, Some, None, is_some, option_map, refl, sym, ◌∙◌, ap, ap₂, subst, true≢false, append_assoc}
use Rattle.std.specs.Prelude.{if◌then◌else◌}
use Rattle.std.specs.List.{list_all, All}
use Rattle.std.specs.Option.{option_to_list}
use Rattle.std.proofs.lemmas.Bool.{and_parts, eqb-true}
use Rattle.std.proofs.lemmas.List.{map-append, take_more, reverse-reverse}
use Rattle.std.proofs.lemmas.List.Folds.{list_all-append}
use Rattle.std.proofs.lemmas.List.Elements.{All-cons, All-nil}
use Rattle.std.proofs.lemmas.Map.Views.{Contains-from_any}
use Rattle.kan_terms.specs.Tree.{Tree, Tm, leaves}
use Rattle.kan_terms.specs.Terms.{tree}
use Rattle.kan_terms.specs.declared.terms.TermPair.{TermPair}
use Rattle.kan_model.specs.Programs.Goals.{Primitive}
use Rattle.kan_model.specs.Stores.Store.{Store, Equation}
use Rattle.kan_model.specs.Stores.Solve as model
use Rattle.kan_model.specs.Stores.Composition.{apply_sides, compose}
use Rattle.kan_model.specs.Stores.Kept.{holds_with, is_kept}
use Rattle.kan_model.specs.Stores.Prims.{equation}
use Rattle.kan_model.specs.Stores.Calls.{replacement_of, differences, SaysTheSame, AreDifferences, IsFree}
use Rattle.kan_model.specs.Terms.Letters as letters_of
use Rattle.kan_model.specs.Answers.Order.{stands_in}
use Rattle.kan_model.specs.Answers.Answer.{ranks_lower, solved_form, in_rank, all_named, can_be_equal, is_no_difference, if_written, and_form, forms_of}
use Rattle.kan_solving.specs.Solving.{replaced_by, on_stack}
use Rattle.kan_solving.specs.declared.solving.Replaced.{Replaced}
use Rattle.kan_solving.proofs.SolvingSteps.{map-reverse}
use Rattle.store_laws.proofs.GeneralUnifiers.{answer_is_general}
use Rattle.store_laws.proofs.OneForm.{also_answered}
use Rattle.store_laws.proofs.RankedForms.{difference_in_rank, named_in_rank}
use Rattle.store_laws.proofs.CanBeEqual.{pairs_can_be_equal}
use Rattle.reify.specs.Fitting.{IsFreeLeaf, IsOver, fits}
use Rattle.reify.specs.Keeping.{answer_kept, forms_meant, letter_named, is_named}
use Rattle.reify.proofs.KindLaws.{answer_holds}
use Rattle.reify.proofs.FittingLaws.{fits_is}

-- the forms of the disequalities of equations
abbrev forms_for : List ℕ → Store → List Equation → List model.Replacement
forms_for vs st [] = []
forms_for vs st (e ∷ es) = and_form vs st e.left e.right (solved_form vs (replacement_of st) e.left e.right) (forms_for vs st es)

forms_for_all : (vs : List ℕ) (st : Store) (ps : List (Primitive Tm)) → forms_of vs st (replacement_of st) ps ≡ forms_for vs st (differences ps)
forms_for_all vs st [] = refl
forms_for_all vs st (Primitive.differ a b ∷ ps) = ap (and_form vs st a b (solved_form vs (replacement_of st) a b)) (forms_for_all vs st ps)
forms_for_all vs st (Primitive.same a b ∷ ps) = forms_for_all vs st ps
forms_for_all vs st (Primitive.symbol a ∷ ps) = forms_for_all vs st ps
forms_for_all vs st (Primitive.number a ∷ ps) = forms_for_all vs st ps
forms_for_all vs st (Primitive.text a ∷ ps) = forms_for_all vs st ps
forms_for_all vs st (Primitive.absent t a ∷ ps) = forms_for_all vs st ps

-- what can't be solved in one order of variables can't in another
unsolved : (vs : List ℕ) (es : List Equation) → is_some (model.solve es) ≡ false → model.solve_by (ranks_lower vs) es ≡ None
unsolved vs es none = by (model.solve_by (ranks_lower vs) es) refl
  where
    no_answer : (q : Option model.Replacement) → is_some q ≡ false → q ≡ None
    no_answer None h = refl
    no_answer (Some f) h = absurd (true≢false h)

    by : (q : Option model.Replacement) → model.solve_by (ranks_lower vs) es ≡ q → q ≡ None
    by None e = refl
    by (Some f) e = absurd (also_answered model.left_first es es (model.image f) (λ g h. h) ((answer_is_general (ranks_lower vs) es f e).unifies) (no_answer (model.solve es) none))

module _ (vs : List ℕ) (st : Store) (kept : is_kept st ≡ true) where
  abbrev s : model.Replacement
  s = replacement_of st

  written_or : (c : Bool) (f : model.Replacement) (fs : List model.Replacement) → option_to_list (if c then Some f else None) ++ fs ≡ if_written c f fs
  written_or true f fs = refl
  written_or false f fs = refl

  one_form : (e : Equation) (pairs : List Equation) → SaysTheSame st e pairs → (fs : List model.Replacement) →
      option_to_list (answer_kept vs st (model.solve_by (ranks_lower vs) (map (apply_sides s) pairs))) ++ fs ≡ and_form vs st e.left e.right (solved_form vs s e.left e.right) fs
  one_form e pairs says fs =
      by (model.solve_by (ranks_lower vs) (map (apply_sides s) pairs)) (solved_form vs s e.left e.right) refl
      (difference_in_rank vs st s e pairs (answer_holds st kept).0 says) (pairs_can_be_equal (ranks_lower vs) st s e pairs (answer_holds st kept).0 says)
    where
      in_form : (r f : model.Replacement) → in_rank vs r ≡ in_rank vs f → all_named vs r ≡ all_named vs f
      in_form r f same = sym (named_in_rank vs r) ∙ ap (all_named vs) same ∙ named_in_rank vs f

      by : (q f : Option model.Replacement) → model.solve_by (ranks_lower vs) (map (apply_sides s) pairs) ≡ q → option_map (in_rank vs) q ≡ option_map (in_rank vs) f →
          can_be_equal st e.left e.right ≡ holds_with (filter is_no_difference st.prims) (option_map (compose s) q) → option_to_list (answer_kept vs st q) ++ fs ≡ and_form vs st e.left e.right f fs
      by None None found same can = refl
      by None (Some f) found same can = cc
      by (Some r) None found same can = cc
      by (Some r) (Some f) found same can =
          let ranked : in_rank vs r ≡ in_rank vs f = cc in
          let test : (all_named vs r && fits st r) ≡ (all_named vs f && can_be_equal st e.left e.right) =
          ap₂ (λ a b. a && b) (in_form r f ranked) (fits_is st kept (ranks_lower vs) (map (apply_sides s) pairs) r found ∙ sym can) in
          written_or (all_named vs r && fits st r) (in_rank vs r) fs ∙ ap₂ (λ c g. if_written c g fs) test ranked

  same_forms : (es : List Equation) (lists : List (List Equation)) → AreDifferences st es lists → forms_meant vs st lists ≡ forms_for vs st es
  same_forms [] [] AreDifferences.no_more = refl
  same_forms [] (pairs ∷ lists) are = elim are [ ]
  same_forms (e ∷ es) (pairs ∷ lists) (AreDifferences.listed says more) =
      ap (λ fs. option_to_list (answer_kept vs st (model.solve_by (ranks_lower vs) (map (apply_sides s) pairs))) ++ fs) (same_forms es lists more) ∙ one_form e pairs says (forms_for vs st es)
  same_forms (e ∷ es) lists (AreDifferences.left_out never more) =
      same_forms es lists more ∙ sym (ap (λ q. and_form vs st e.left e.right q (forms_for vs st es)) (unsolved vs (apply_sides s e ∷ []) never))

  pub forms_are : (lists : List (List Equation)) → AreDifferences st (differences st.prims) lists → forms_meant vs st lists ≡ forms_of vs st s st.prims
  forms_are lists are = same_forms (differences st.prims) lists are ∙ sym (forms_for_all vs st st.prims)

-- a reversed list is a stack with its first equation on top
pub stacked-reverse : (listed pending : List TermPair) (es : List Equation) → map equation listed ≡ es → pending ≡ reverse listed → on_stack pending ≡ es
stacked-reverse listed pending es so_far turned =
    ap on_stack turned ∙ ap reverse (map-reverse equation listed) ∙ reverse-reverse (map equation listed) ∙ so_far

-- the letters of a term are named where its variables are
pub letters_named : (vs : List ℕ) (t : Tm) → list_all (letter_named vs) (letters_of.spelling t) ≡ list_all (stands_in vs) (leaves t)
letters_named vs (Tree.leaf v) = refl
letters_named vs (Tree.sym s) = refl
letters_named vs (Tree.str s) = refl
letters_named vs (Tree.num n) = refl
letters_named vs (Tree.truth b) = refl
letters_named vs Tree.nil = refl
letters_named vs (Tree.pair a b) =
    list_all-append (letter_named vs) (letters_of.spelling a) (letters_of.spelling b) ∙ ap₂ (λ x y. x && y) (letters_named vs a) (letters_named vs b) ∙ sym (list_all-append (stands_in vs) (leaves a) (leaves b))

-- what holds of all named variables holds of those of a named form
at_all : (P : ℕ → Type 0) (vs : List ℕ) (v : ℕ) → All P vs → stands_in vs v ≡ true → P v
at_all P vs v all there = let (k, below, is) = Contains-from_any eqb-true v vs there in subst P is (all k v below)

leaf_free : (st : Store) (vs : List ℕ) → All (IsFree st) vs → (t : Tm) → list_all (stands_in vs) (leaves t) ≡ true → IsFreeLeaf st t
leaf_free st vs free (Tree.leaf x) h = at_all (IsFree st) vs x free (and_parts (stands_in vs x) true h).0
leaf_free st vs free (Tree.sym x) h = tt
leaf_free st vs free (Tree.str x) h = tt
leaf_free st vs free (Tree.num n) h = tt
leaf_free st vs free (Tree.truth b) h = tt
leaf_free st vs free Tree.nil h = tt
leaf_free st vs free (Tree.pair a b) h = tt

pub named_over : (st : Store) (vs : List ℕ) (form : List Replaced) → All (IsFree st) vs → all_named vs (map replaced_by form) ≡ true → All (IsOver st) form
named_over st vs [] free h = All-nil (IsOver st)
named_over st vs (p ∷ form) free h =
    let (first, rest) = and_parts (is_named vs (replaced_by p)) (all_named vs (map replaced_by form)) h in
    let (var, by) = and_parts (stands_in vs p.var) (list_all (stands_in vs) (leaves (tree p.by))) first in
    All-cons (IsOver st) p form (at_all (IsFree st) vs p.var free var, leaf_free st vs free (tree p.by) by) (named_over st vs form free rest)

-- one list of pairs more
forms_meant-append : (vs : List ℕ) (st : Store) (xs ys : List (List Equation)) → forms_meant vs st (xs ++ ys) ≡ forms_meant vs st xs ++ forms_meant vs st ys
forms_meant-append vs st [] ys = refl
forms_meant-append vs st (x ∷ xs) ys =
    ap (λ l. option_to_list (answer_kept vs st (model.solve_by (ranks_lower vs) (map (apply_sides (replacement_of st)) x))) ++ l) (forms_meant-append vs st xs ys)
    ∙ sym (append_assoc (option_to_list (answer_kept vs st (model.solve_by (ranks_lower vs) (map (apply_sides (replacement_of st)) x)))) (forms_meant vs st xs) (forms_meant vs st ys))

pub forms_step : (vs : List ℕ) (st : Store) (lists : List (List TermPair)) (i : ℕ) (pairs : List TermPair) (old new : List model.Replacement) → i < length lists → pairs ≡ get_or lists i pairs →
    old ≡ forms_meant vs st (map (map equation) (take i lists)) → new ≡ old ++ forms_meant vs st (map equation pairs ∷ []) → new ≡ forms_meant vs st (map (map equation) (take (i + 1) lists))
forms_step vs st lists i pairs old new below is before grown =
    grown ∙ ap (λ l. l ++ forms_meant vs st (map equation pairs ∷ [])) before ∙ sym (forms_meant-append vs st (map (map equation) (take i lists)) (map equation pairs ∷ []))
    ∙ ap (forms_meant vs st) (sym (map-append (map equation) (take i lists) (pairs ∷ [])) ∙ ap (λ x. map (map equation) (take i lists ++ x ∷ [])) is ∙ ap (map (map equation)) (sym (take_more lists i pairs below)))
