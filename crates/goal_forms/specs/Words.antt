-- What the names of the language stand for.
use Rattle.std.specs.Prelude.{ℕ, List as Numbers}
use Rattle.kan_grammar.specs.Texts.Language as words
use Rattle.kan_grammar.specs.Texts.Language.{word_among, goal_names, constraint_names, term_names}
use Rattle.goal_forms.specs.declared.word.Word.{Word}
use Rattle.goal_forms.specs.declared.word.Word.TheVariants.{Defrel, Run, RunAll, Succeed, Fail}
use Rattle.goal_forms.specs.declared.word.Word.TheVariants.{Same, Differ, Symbolo, Numbero, Stringo}
use Rattle.goal_forms.specs.declared.word.Word.TheVariants.{Absento, Fresh, Conde, Conj, Disj}
use Rattle.goal_forms.specs.declared.word.Word.TheVariants.{ConjTwo, DisjTwo, Quote, Quasiquote}
use Rattle.goal_forms.specs.declared.word.Word.TheVariants.{Unquote, Cons, List, Other}

-- a name of the language
abbrev pub word_of : Word → words.Word
word_of Defrel = words.Word.defrel
word_of Run = words.Word.run
word_of RunAll = words.Word.run_all
word_of Succeed = words.Word.succeed
word_of Fail = words.Word.fail
word_of Same = words.Word.same
word_of Differ = words.Word.differ
word_of Symbolo = words.Word.symbolo
word_of Numbero = words.Word.numbero
word_of Stringo = words.Word.stringo
word_of Absento = words.Word.absento
word_of Fresh = words.Word.fresh
word_of Conde = words.Word.conde
word_of Conj = words.Word.conj
word_of Disj = words.Word.disj
word_of ConjTwo = words.Word.conj_two
word_of DisjTwo = words.Word.disj_two
word_of Quote = words.Word.quote
word_of Quasiquote = words.Word.quasiquote
word_of Unquote = words.Word.unquote
word_of Cons = words.Word.cons
word_of List = words.Word.list
word_of Other = words.Word.other

-- the names that a text may be, group after group
abbrev pub term_word : Numbers ℕ → words.Word
term_word text = word_among term_names words.Word.other text

abbrev pub constraint_word : Numbers ℕ → words.Word
constraint_word text = word_among constraint_names (term_word text) text

abbrev pub goal_word : Numbers ℕ → words.Word
goal_word text = word_among goal_names (constraint_word text) text
