-- A variable of a kept store has one type at most, and the variables of its answer stand for themselves.
use Rattle.std.proofs.Common.{◌≡◌, ℕ, Bool, true, false, [], Option, Some, None, sym, subst, refl, ◌∙◌, ap, unwrap_or}
use Rattle.std.specs.Prelude.{if◌then◌else◌}
use Rattle.std.specs.List.{list_all}
use Rattle.std.proofs.lemmas.Bool.{and_parts, both_ways, true≢false}
use Rattle.kan_model.specs.Stores.Store.{Store}
use Rattle.kan_model.specs.Stores.Solve.{Replacement, solve_store}
use Rattle.kan_model.specs.Stores.Kept.{allows, has_type, gives_one_type, holds_under, holds_with, is_kept}
use Rattle.kan_model.specs.Stores.Calls.{replacement_of, kind_at}
use Rattle.kan_model.proofs.Answering.AnswerLaws.{symbol_alone, string_alone, where_given}
use Rattle.reify.specs.Typing.{kind_test}
use Rattle.kan_model.specs.declared.prims.Kind.{Kind}
use Rattle.kan_model.specs.declared.prims.Kind.TheVariants.{Symbol, Number, Text}

-- the constraints of a kept store hold under its answer
pub answer_holds : (st : Store) → is_kept st ≡ true → (solve_store st ≡ Some (replacement_of st)) × (holds_under st.prims (replacement_of st) ≡ true)
answer_holds st kept = by (solve_store st) refl kept
  where
    by : (o : Option Replacement) → solve_store st ≡ o → holds_with st.prims o ≡ true → (solve_store st ≡ Some (replacement_of st)) × (holds_under st.prims (replacement_of st) ≡ true)
    by None e h = absurd (true≢false (sym h))
    by (Some s) e h =
        let is : s ≡ replacement_of st = sym (ap (λ o. unwrap_or o []) e) in
        (e ∙ ap Some is, subst (λ r. holds_under st.prims r ≡ true) is h)

one_type_of : (st : Store) → is_kept st ≡ true → list_all (gives_one_type (replacement_of st) st.prims) st.prims ≡ true
one_type_of st kept = (and_parts (list_all (allows (replacement_of st)) st.prims) (list_all (gives_one_type (replacement_of st) st.prims) st.prims) (answer_holds st kept).1).1

pub no_symbol_besides : (st : Store) (v : ℕ) → is_kept st ≡ true → has_type Symbol (replacement_of st) st.prims v ≡ true →
    (has_type Number (replacement_of st) st.prims v ≡ false) × (has_type Text (replacement_of st) st.prims v ≡ false)
no_symbol_besides st v kept = where_given (replacement_of st) st.prims v Symbol _ (symbol_alone (replacement_of st) st.prims v) st.prims (one_type_of st kept)

pub no_string_besides : (st : Store) (v : ℕ) → is_kept st ≡ true → has_type Text (replacement_of st) st.prims v ≡ true → has_type Number (replacement_of st) st.prims v ≡ false
no_string_besides st v kept = where_given (replacement_of st) st.prims v Text _ (string_alone (replacement_of st) st.prims v) st.prims (one_type_of st kept)

-- the type is the one that the store tells
pub kind_is_one : (st : Store) (v : ℕ) → is_kept st ≡ true → (kind : Kind) → kind_test kind (kind_at st v) ≡ has_type kind (replacement_of st) st.prims v
kind_is_one st v kept kind = by kind (has_type Symbol (replacement_of st) st.prims v) (has_type Number (replacement_of st) st.prims v) (has_type Text (replacement_of st) st.prims v) refl refl refl
  where
    chosen : Bool → Bool → Bool → Option Kind
    chosen symbol number string = if symbol then Some Symbol else (if number then Some Number else (if string then Some Text else None))

    by : (k : Kind) (x y z : Bool) → has_type Symbol (replacement_of st) st.prims v ≡ x → has_type Number (replacement_of st) st.prims v ≡ y → has_type Text (replacement_of st) st.prims v ≡ z →
        kind_test k (chosen (has_type Symbol (replacement_of st) st.prims v) (has_type Number (replacement_of st) st.prims v) (has_type Text (replacement_of st) st.prims v)) ≡ has_type k (replacement_of st) st.prims v
    by Symbol true y z e f g = rw e refl
    by Symbol false true z e f g = rw (e, f) refl
    by Symbol false false true e f g = rw (e, f, g) refl
    by Symbol false false false e f g = rw (e, f, g) refl
    by Number true y z e f g = rw (e, (no_symbol_besides st v kept e).0) refl
    by Number false true z e f g = rw (e, f) refl
    by Number false false true e f g = rw (e, f, g) refl
    by Number false false false e f g = rw (e, f, g) refl
    by Text true y z e f g = rw (e, (no_symbol_besides st v kept e).1) refl
    by Text false true true e f g = absurd (both_ways (has_type Number (replacement_of st) st.prims v) (no_string_besides st v kept g) f)
    by Text false true false e f g = rw (e, f, g) refl
    by Text false false true e f g = rw (e, f, g) refl
    by Text false false false e f g = rw (e, f, g) refl
