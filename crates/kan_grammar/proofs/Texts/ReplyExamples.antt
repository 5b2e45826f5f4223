-- Replies to small texts, behind a library or none, and what is written for them.
use Rattle.std.specs.Prelude.{◌≡◌, ℕ, List, [], ◌∷◌, None, refl}
use Rattle.std.specs.Str.{is_utf8, chars}
use Rattle.std.specs.Char.{encode_utf8}
use Rattle.kan_refusals.specs.declared.refusals.Refusal.{Refusal}
use Rattle.kan_terms.specs.Tree.{Tree}
use Rattle.std.specs.Fmt.{digits}
use Rattle.kan_model.specs.Stores.Solve.{solve_by, rounds, steps}
use Rattle.kan_model.specs.Answers.Decimals.{decimal_text}
use Rattle.kan_model.specs.Programs.Goals.{Template, Primitive, Goal}
use Rattle.kan_grammar.specs.declared.dialect.Dialect.TheVariants.{Book, All}
use Rattle.kan_grammar.specs.Data.Tokens.{tokens, tokens_from, piece}
use Rattle.kan_grammar.specs.Data.Words.{word_token}
use Rattle.kan_grammar.specs.Data.Faults.{fault, read_text, read_tokens, run}
use Rattle.kan_grammar.specs.Texts.Language.{word}
use Rattle.kan_grammar.specs.Texts.ProgramText.{text_meaning}
use Rattle.kan_grammar.specs.Texts.TextFaults.{faults_of}
use Rattle.kan_grammar.specs.Texts.Reply.{Reply, reply, text_output}
use lib.Chars.{codes}

-- in the dialect of the book
unfoldable reply_in_book : List ℕ → List ℕ → Reply
unfolding reply read_text read_tokens run tokens tokens_from piece word_token is_utf8 chars encode_utf8 faults_of word text_meaning
reply_in_book library text = reply library text Book

-- where fresh and conde suspend too
unfoldable reply_in_all : List ℕ → List ℕ → Reply
unfolding reply read_text read_tokens run tokens tokens_from piece word_token is_utf8 chars encode_utf8 faults_of word text_meaning
reply_in_all library text = reply library text All

abbrev equal : Template → Template → Goal
equal a b = Goal.prim (Primitive.same a b)

-- the words of prefixes come first, and names are numbered behind them as their tokens come
accepted_text : reply_in_book [] (codes "(run* q (== q '(a \"b\")))") ≡
    Reply.accepted (record { symbols = codes "quote" ∷ codes "quasiquote" ∷ codes "unquote" ∷ codes "run*" ∷ codes "q" ∷ codes "==" ∷ codes "a" ∷ []; strings = codes "b" ∷ [] })
    (record { relations = []; goals = equal (Tree.leaf 0) (Tree.pair (Tree.sym 6) (Tree.pair (Tree.str 0) Tree.nil)) ∷ [] })
    (record { goal = equal (Tree.leaf 0) (Tree.pair (Tree.sym 6) (Tree.pair (Tree.str 0) Tree.nil)); limit = None } ∷ [])
unfolding reply_in_book
accepted_text = refl

-- a fault of its data comes before one of its forms
refused_for_data : reply_in_book [] (codes "(foo) (run* q (== q \"a))") ≡ Reply.refusal (fault 20 Refusal.BadString)
unfolding reply_in_book
refused_for_data = refl

refused_for_forms : reply_in_book [] (codes "(run* q (== q x) (foo q))") ≡ Reply.refusal (fault 14 Refusal.UnboundName)
unfolding reply_in_book
refused_for_forms = refl

-- a word of a prefix that a library spells out has its number already
spelled_in_a_library : reply_in_book (codes "(defrel (two p) (== p (quote p)))") (codes "(run* q (two q))") ≡
    Reply.accepted (record { symbols = codes "quote" ∷ codes "quasiquote" ∷ codes "unquote" ∷ codes "defrel" ∷ codes "two" ∷ codes "p" ∷ codes "==" ∷ codes "run*" ∷ codes "q" ∷ []; strings = [] })
    (record { relations = record { params = 1; body = equal (Tree.leaf 0) (Tree.sym 5) } ∷ []; goals = equal (Tree.leaf 0) (Tree.sym 5) ∷ Goal.call 0 (Tree.leaf 0 ∷ []) ∷ [] })
    (record { goal = Goal.call 0 (Tree.leaf 0 ∷ []); limit = None } ∷ [])
unfolding reply_in_book
spelled_in_a_library = refl

-- a call of a relation of the library with too many arguments
refused_behind_a_library : reply_in_book (codes "(defrel (two p) (fresh (a) (== p `(a . ,a))))") (codes "(run* q (two q q))") ≡ Reply.refusal (fault 9 Refusal.WrongCount)
unfolding reply_in_book
refused_behind_a_library = refl

-- a library with a template in it
prefixes_in_a_library : reply_in_all (codes "(defrel (two p) (fresh (a) (== p `(a . ,a))))") (codes "(run* q (two q))") ≡
    Reply.accepted (record { symbols = codes "quote" ∷ codes "quasiquote" ∷ codes "unquote" ∷ codes "defrel" ∷ codes "two" ∷ codes "p" ∷ codes "fresh" ∷ codes "a" ∷ codes "==" ∷ codes "run*" ∷ codes "q" ∷ []; strings = [] })
    (record {
      relations = record { params = 1; body = Goal.later (Goal.fresh 1 (equal (Tree.leaf 0) (Tree.pair (Tree.sym 7) (Tree.leaf 1)))) } ∷ [];
      goals = Goal.later (Goal.fresh 1 (equal (Tree.leaf 0) (Tree.pair (Tree.sym 7) (Tree.leaf 1)))) ∷ Goal.call 0 (Tree.leaf 0 ∷ []) ∷ [];
    })
    (record { goal = Goal.call 0 (Tree.leaf 0 ∷ []); limit = None } ∷ [])
unfolding reply_in_all
prefixes_in_a_library = refl

-- what is written, in the dialect of the book
unfoldable output_in_book : List ℕ → List ℕ
unfolding reply_in_book reply read_text read_tokens run tokens tokens_from piece word_token is_utf8 chars encode_utf8 faults_of word text_meaning solve_by rounds steps decimal_text digits
output_in_book text = text_output [] text Book 100

unfoldable output_in_all : List ℕ → List ℕ
unfolding reply_in_all reply read_text read_tokens run tokens tokens_from piece word_token is_utf8 chars encode_utf8 faults_of word text_meaning solve_by rounds steps decimal_text digits
output_in_all text = text_output [] text All 100

writes_a_string : output_in_book (codes "(run* q (== q \"a\\\"b\"))") ≡ codes "\"a\\\"b\"\n; 1 answers, 0 pulls, end\n"
unfolding output_in_book
writes_a_string = refl

writes_a_refusal : output_in_book (codes "(run* q (== q \"a))") ≡ codes "error 16 at 14: bad string\n"
unfolding output_in_book
writes_a_refusal = refl

-- a conde is a pull where it suspends, and so is a run over a list of names
pulls_a_conde : output_in_all (codes "(run* q (conde ((== q 1)) ((== q 2))))") ≡ codes "1\n2\n; 2 answers, 1 pulls, end\n"
unfolding output_in_all
pulls_a_conde = refl

pulls_a_run : output_in_all (codes "(run* (x) (== x 1))") ≡ codes "(1)\n; 1 answers, 1 pulls, end\n"
unfolding output_in_all
pulls_a_run = refl
