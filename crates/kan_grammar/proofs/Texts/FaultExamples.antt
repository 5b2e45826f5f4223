-- The faults of texts, each by a small text, and two in one text.
use Rattle.std.specs.Prelude.{◌≡◌, Some, None, refl}
use Rattle.kan_refusals.specs.declared.refusals.Refusal.{Refusal}
use Rattle.kan_grammar.specs.Data.Faults.{fault}
use Rattle.kan_grammar.proofs.Texts.TextExamples.{fault_in, fault_behind}
use lib.Chars.{codes}

-- a top list with another head
unknown_form : fault_in (codes "(define x 1)") ≡ Some (fault 0 Refusal.UnknownForm)
unfolding fault_in
unknown_form = refl

-- a limit below zero
negative_limit : fault_in (codes "(run -1 q)") ≡ Some (fault 5 Refusal.BadShape)
unfolding fault_in
negative_limit = refl

-- a variable that no binder has
unbound_name : fault_in (codes "(run* q (== q x))") ≡ Some (fault 14 Refusal.UnboundName)
unfolding fault_in
unbound_name = refl

-- a call of no relation
unknown_relation : fault_in (codes "(run* q (foo q))") ≡ Some (fault 9 Refusal.UnknownRelation)
unfolding fault_in
unknown_relation = refl

-- a call with too few arguments
too_few : fault_behind (codes "(defrel (two a b) succeed)") (codes "(run* q (two q))") ≡ Some (fault 9 Refusal.WrongCount)
unfolding fault_behind
too_few = refl

-- a relation that is defined again
defined_twice : fault_in (codes "(defrel (a) succeed) (defrel (a) fail)") ≡ Some (fault 30 Refusal.DefinedTwice)
unfolding fault_in
defined_twice = refl

-- an absento whose tag is not quoted
bad_tag : fault_in (codes "(run* q (absento q 'a))") ≡ Some (fault 17 Refusal.BadTag)
unfolding fault_in
bad_tag = refl

-- a call with too few arguments of a relation of the text
too_few_here : fault_in (codes "(defrel (two a b) succeed) (run* q (two q))") ≡ Some (fault 36 Refusal.WrongCount)
unfolding fault_in
too_few_here = refl

-- a text without fault
accepted : fault_in (codes "(defrel (two a b) (== a b)) (run 3 (x y) (two x y) (conde (succeed) ((== x y))))") ≡ None
unfolding fault_in
accepted = refl

-- two faults in one text, and the other way round
unbound_then_unknown : fault_in (codes "(run* q (== q x) (foo q))") ≡ Some (fault 14 Refusal.UnboundName)
unfolding fault_in
unbound_then_unknown = refl

-- the other way round
unknown_then_unbound : fault_in (codes "(run* q (foo q) (== q x))") ≡ Some (fault 9 Refusal.UnknownRelation)
unfolding fault_in
unknown_then_unbound = refl

-- a relation of the library that is defined again
defined_behind : fault_behind (codes "(defrel (two a b) succeed)") (codes "(defrel (two) fail)") ≡ Some (fault 9 Refusal.DefinedTwice)
unfolding fault_behind
defined_behind = refl

-- a top atom is no form
top_atom : fault_in (codes " 5") ≡ Some (fault 1 Refusal.UnknownForm)
unfolding fault_in
top_atom = refl

-- a prefixed datum at the top
top_prefixed : fault_in (codes "'x") ≡ Some (fault 0 Refusal.UnknownForm)
unfolding fault_in
top_prefixed = refl

-- a top form that is no proper list
top_dotted : fault_in (codes "(run* q . x)") ≡ Some (fault 0 Refusal.BadShape)
unfolding fault_in
top_dotted = refl

-- and still defines its relation
dotted_defines : fault_in (codes "(defrel (a x) . x) (run* q (a))") ≡ Some (fault 0 Refusal.BadShape)
unfolding fault_in
dotted_defines = refl

-- a head that is no list
no_head : fault_in (codes "(defrel a fail)") ≡ Some (fault 8 Refusal.BadShape)
unfolding fault_in
no_head = refl

-- a name that is no symbol
no_name : fault_in (codes "(defrel (1 a) fail)") ≡ Some (fault 9 Refusal.BadShape)
unfolding fault_in
no_name = refl

-- a name of the language is defined
defines_cons : fault_in (codes "(defrel (cons a) fail)") ≡ Some (fault 9 Refusal.DefinedTwice)
unfolding fault_in
defines_cons = refl

-- a parameter that stands there before
same_parameter : fault_in (codes "(defrel (two a a) fail)") ≡ Some (fault 15 Refusal.BadShape)
unfolding fault_in
same_parameter = refl

-- a parameter that is a name of the language
parameter_list : fault_in (codes "(defrel (two a list) fail)") ≡ Some (fault 15 Refusal.BadShape)
unfolding fault_in
parameter_list = refl

-- a goal that is a variable
goal_variable : fault_in (codes "(run* q q)") ≡ Some (fault 8 Refusal.BadShape)
unfolding fault_in
goal_variable = refl

-- a goal whose head is a number
goal_number : fault_in (codes "(run* q (1 q))") ≡ Some (fault 8 Refusal.BadShape)
unfolding fault_in
goal_number = refl

-- a name of the language that makes no goal
goal_cons : fault_in (codes "(run* q (cons q q))") ≡ Some (fault 8 Refusal.BadShape)
unfolding fault_in
goal_cons = refl

-- an atom of the language as a list
goal_succeed : fault_in (codes "(run* q (succeed))") ≡ Some (fault 8 Refusal.BadShape)
unfolding fault_in
goal_succeed = refl

-- an equation of one term
half_equation : fault_in (codes "(run* q (== q))") ≡ Some (fault 8 Refusal.BadShape)
unfolding fault_in
half_equation = refl

-- three goals where two are wanted
three_goals : fault_in (codes "(run* q (conj2 succeed succeed fail))") ≡ Some (fault 8 Refusal.BadShape)
unfolding fault_in
three_goals = refl

-- a clause that is no list
no_clause : fault_in (codes "(run* q (conde (fail) x))") ≡ Some (fault 22 Refusal.BadShape)
unfolding fault_in
no_clause = refl

-- a binder that is no list
no_binder : fault_in (codes "(run* q (fresh x (== q 1)))") ≡ Some (fault 15 Refusal.BadShape)
unfolding fault_in
no_binder = refl

-- a name of the language as a term
term_cons : fault_in (codes "(run* q (== q cons))") ≡ Some (fault 14 Refusal.UnboundName)
unfolding fault_in
term_cons = refl

-- an unquote outside a template
term_unquote : fault_in (codes "(run* q (== q ,q))") ≡ Some (fault 14 Refusal.BadShape)
unfolding fault_in
term_unquote = refl

-- a list of terms whose head makes no term
term_call : fault_in (codes "(run* q (== q (foo q)))") ≡ Some (fault 14 Refusal.BadShape)
unfolding fault_in
term_call = refl

-- an unquote of two parts, in the list that holds its pair
spine_unquote : fault_in (codes "(run* q (== q `(a unquote b c)))") ≡ Some (fault 15 Refusal.BadShape)
unfolding fault_in
spine_unquote = refl

-- the same in a list behind a dot
dotted_unquote : fault_in (codes "(run* q (== q `(a . (unquote b c))))") ≡ Some (fault 20 Refusal.BadShape)
unfolding fault_in
dotted_unquote = refl

-- a template in a template, at its prefix
nested_template : fault_in (codes "(run* q (== q `(a `b)))") ≡ Some (fault 18 Refusal.BadShape)
unfolding fault_in
nested_template = refl

-- a bad shape hides what is inside
inside_bad_shape : fault_in (codes "(run* q (== x y x))") ≡ Some (fault 8 Refusal.BadShape)
unfolding fault_in
inside_bad_shape = refl

-- a relation called as a name of the language
defines_stringo : fault_in (codes "(defrel (stringo x) fail)") ≡ Some (fault 9 Refusal.DefinedTwice)
unfolding fault_in
defines_stringo = refl

-- a stringo of two terms
wide_stringo : fault_in (codes "(run* q (stringo q q))") ≡ Some (fault 8 Refusal.BadShape)
unfolding fault_in
wide_stringo = refl

-- a string is no goal, no name of a binder, no tag, and no limit
goal_string : fault_in (codes "(run* q \"a\")") ≡ Some (fault 8 Refusal.BadShape)
unfolding fault_in
goal_string = refl

name_string : fault_in (codes "(run* (\"a\") succeed)") ≡ Some (fault 7 Refusal.BadShape)
unfolding fault_in
name_string = refl

tag_string : fault_in (codes "(run* q (absento '\"a\" q))") ≡ Some (fault 17 Refusal.BadTag)
unfolding fault_in
tag_string = refl

limit_string : fault_in (codes "(run \"a\" q)") ≡ Some (fault 5 Refusal.BadShape)
unfolding fault_in
limit_string = refl

-- a string at the top
top_string : fault_in (codes "\"a\"") ≡ Some (fault 0 Refusal.UnknownForm)
unfolding fault_in
top_string = refl

-- a string as a term, in quoted data and in a template
strings_are_terms : fault_in (codes "(run* q (stringo \"a\") (== `(\"a\" ,q) '(\"b\")))") ≡ None
unfolding fault_in
strings_are_terms = refl
