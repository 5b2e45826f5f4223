-- Worked examples of answers in form, and of what answers cover.
use Rattle.std.proofs.Common.{◌≡◌, ℕ, true, false, refl, sym, List, [], ◌∷◌, pos, codes, true≢false}
use Rattle.kan_terms.specs.Tree.{Tree, Tm, Gd}
use Rattle.kan_terms.specs.Valuations.{value}
use Rattle.kan_terms.specs.Table.{Table}
use Rattle.kan_model.specs.Answers.Answer.{Answer}
use Rattle.kan_model.specs.Answers.InForm.{in_form}
use Rattle.kan_model.specs.Answers.Covers.{Covers, meets}

abbrev table : Table
table = record { symbols = codes "b" ∷ codes "a" ∷ []; strings = [] }

abbrev name : ℕ → Tm
name = Tree.leaf

abbrev num : {V : Type 0} → ℕ → Tree V
num n = Tree.num (pos n)

abbrev two_of : {V : Type 0} → Tree V → Tree V → Tree V
two_of a b = Tree.pair a (Tree.pair b Tree.nil)

-- two names that aren't 1 and 2 together
abbrev not_both : Answer
not_both = record {
  term = two_of (name 0) (name 1);
  disequalities = (record { name = 0; by = num 1 } ∷ record { name = 1; by = num 2 } ∷ []) ∷ [];
  numbers = [];
  symbols = [];
  strings = [];
  absences = [];
}

pub not_both_in_form : in_form table not_both ≡ true
not_both_in_form = refl

-- it covers 1 and 3, and doesn't cover 1 and 2
pub covers_other : Covers not_both (two_of (num 1) (num 3))
covers_other = (num 1 ∷ num 3 ∷ [], refl, refl)

pub covers_not : Covers not_both (two_of (num 1) (num 2)) → ⊥
covers_not (us, same, met) = by us same met
  where
    by : (us : List Gd) → value us not_both.term ≡ two_of (num 1) (num 2) → meets us not_both ≡ true → ⊥
    by [] same met = cc
    by (u ∷ []) same met = cc
    by (u ∷ v ∷ vs) same met =
        let first : u ≡ num 1 = cc in
        let second : v ≡ num 2 = cc in
        let failed : meets (num 1 ∷ num 2 ∷ vs) not_both ≡ true = rw (first, second) at met in
        true≢false (sym failed)

abbrev plain : Tm → Answer
plain t = record { term = t; disequalities = []; numbers = []; symbols = []; strings = []; absences = [] }

-- the first name is 0
pub first_name : in_form table (plain (name 0)) ≡ true
first_name = refl

pub no_first_name : in_form table (plain (name 1)) ≡ false
no_first_name = refl

-- no name is both a number and a symbol
pub two_types : in_form table (record { term = name 0; disequalities = []; numbers = 0 ∷ []; symbols = 0 ∷ []; strings = []; absences = [] }) ≡ false
two_types = refl

-- nor both a string and one of the others
pub string_and_symbol : in_form table (record { term = name 0; disequalities = []; numbers = []; symbols = 0 ∷ []; strings = 0 ∷ []; absences = [] }) ≡ false
string_and_symbol = refl

pub string_and_number : in_form table (record { term = name 0; disequalities = []; numbers = 0 ∷ []; symbols = []; strings = 0 ∷ []; absences = [] }) ≡ false
string_and_number = refl

-- a name may be a string, and then has no absence
pub string_in_form : in_form table (record { term = name 0; disequalities = []; numbers = []; symbols = []; strings = 0 ∷ []; absences = [] }) ≡ true
string_in_form = refl

pub absence_on_string : in_form table (record { term = name 0; disequalities = []; numbers = []; symbols = []; strings = 0 ∷ []; absences = record { tag = 0; names = 0 ∷ [] } ∷ [] }) ≡ false
absence_on_string = refl

-- tags stand in the order of their texts, and not of their numbers
abbrev with_tags : ℕ → ℕ → Answer
with_tags first second = record {
  term = name 0;
  disequalities = [];
  numbers = [];
  symbols = [];
  strings = [];
  absences = record { tag = first; names = 0 ∷ [] } ∷ record { tag = second; names = 0 ∷ [] } ∷ [];
}

pub tags_in_order : in_form table (with_tags 1 0) ≡ true
tags_in_order = refl

pub tags_out_of_order : in_form table (with_tags 0 1) ≡ false
tags_out_of_order = refl

-- of two names the lower one is replaced
pub lower_replaced : in_form table (record { term = two_of (name 0) (name 1); disequalities = (record { name = 0; by = name 1 } ∷ []) ∷ []; numbers = []; symbols = []; strings = []; absences = [] }) ≡ true
lower_replaced = refl

pub higher_replaced : in_form table (record { term = two_of (name 0) (name 1); disequalities = (record { name = 1; by = name 0 } ∷ []) ∷ []; numbers = []; symbols = []; strings = []; absences = [] }) ≡ false
higher_replaced = refl
