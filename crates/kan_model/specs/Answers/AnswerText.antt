-- The answer of a store, with its lists in the order in which they are written, and its text.
use Rattle.std.specs.Prelude.{ℕ, Bool, List, [], ◌∷◌, ◌++◌, map, unwrap_or, codes}
use Rattle.kan_model.specs.Stores.Store.{Store}
use Rattle.kan_model.specs.Stores.Solve.{Replacement, image, solve_store}
use Rattle.kan_model.specs.Stores.Kept.{has_type}
use Rattle.kan_model.specs.declared.prims.Kind.TheVariants.{Symbol, Number, Text}
use Rattle.kan_model.specs.Answers.Order.{bytes_le, in_order}
use Rattle.kan_terms.specs.Table.{Table}
use Rattle.kan_model.specs.Answers.Text.{symbol_text, name_text, term_text, with_spaces}
use Rattle.kan_model.specs.Answers.Answer.{NamedPair, Absence, Answer, named_variables, in_names}
use Rattle.kan_model.specs.Answers.Answer.{forms_of, strongest, form_in_names, names_where}
use Rattle.kan_model.specs.Answers.Answer.{absences_of}

-- a pair of a disequality: the name, and what it must not be
abbrev pub pair_text : Table → NamedPair → List ℕ
pair_text table p = codes "(" ++ name_text p.name ++ codes " " ++ term_text table p.by ++ codes ")"

abbrev pub difference_text : Table → List NamedPair → List ℕ
difference_text table ps = codes "(=/= (" ++ with_spaces (map (pair_text table) ps) ++ codes "))"

-- a word with the names of which it is said, and nothing where there are none
abbrev pub names_texts : List ℕ → List ℕ → List (List ℕ)
names_texts word [] = []
names_texts word (n ∷ ns) =
    (codes "(" ++ word ++ codes " " ++ with_spaces (map name_text (n ∷ ns)) ++ codes ")") ∷ []

abbrev pub absence_text : Table → Absence → List ℕ
absence_text table a =
    codes "(absent " ++ symbol_text table a.tag ++ codes " " ++ with_spaces (map name_text a.names)
    ++ codes ")"

-- the constraints: disequalities, numbers, symbols, strings, absences
abbrev pub constraint_texts : Table → Answer → List (List ℕ)
constraint_texts table a =
    map (difference_text table) a.disequalities ++ names_texts (codes "num") a.numbers
    ++ names_texts (codes "sym") a.symbols
    ++ names_texts (codes "str") a.strings ++ map (absence_text table) a.absences

abbrev pub where_text : List (List ℕ) → List ℕ
where_text [] = []
where_text (t ∷ ts) = codes " where " ++ with_spaces (t ∷ ts)

-- the text of an answer: its term, and the constraints where some remain
abbrev pub answer_text : Table → Answer → List ℕ
answer_text table a = term_text table a.term ++ where_text (constraint_texts table a)

-- disequalities are written in the order of their bytes
abbrev pub difference_le : Table → List NamedPair → List NamedPair → Bool
difference_le table d e = bytes_le (difference_text table d) (difference_text table e)

-- the answer of a store whose equations have the answer s: the value of variable 0
abbrev pub answer_under : Table → Store → Replacement → List ℕ → Answer
answer_under table st s vs = record {
  term = in_names vs (image s 0);
  disequalities =
      in_order (difference_le table)
      (map (form_in_names vs) (strongest (forms_of vs st s st.prims)));
  numbers = names_where (has_type Number s st.prims) 0 vs;
  symbols = names_where (has_type Symbol s st.prims) 0 vs;
  strings = names_where (has_type Text s st.prims) 0 vs;
  absences = absences_of table vs s st.prims;
}

abbrev pub answer_by : Table → Store → Replacement → Answer
answer_by table st s = answer_under table st s (named_variables (image s 0))

-- the answer of a kept store
abbrev pub answer_of : Table → Store → Answer
answer_of table st = answer_by table st (unwrap_or (solve_store st) [])
