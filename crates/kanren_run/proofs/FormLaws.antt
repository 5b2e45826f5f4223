-- The answers of an accepted text are in form.
use Rattle.std.proofs.Common.{◌≡◌, ℕ, zero, suc, Bool, true, List, [], ◌∷◌, Contains, subst, arith}
use Rattle.std.specs.List.{list_all}
use Rattle.std.proofs.lemmas.Bool.{and_parts}
use Rattle.kan_terms.specs.Table.{Table}
use Rattle.kan_model.specs.Answers.InForm.{TextsDiffer}
use Rattle.kan_model.specs.Programs.Goals.{Program, Query}
use Rattle.kan_model.specs.Stores.Kept.{is_kept}
use Rattle.kan_model.specs.Stores.Store.{Store}
use Rattle.kan_model.specs.Streams.Running.{start}
use Rattle.kan_model.specs.Streams.Taking.{take_query}
use Rattle.kan_model.proofs.Answering.AnswerLaws.{answer_in_form}
use Rattle.kan_grammar.specs.Texts.Reply.{Reply}
use Rattle.kan_meaning.proofs.StandingStores.{Stands, StreamStands, force_stands, start_stands}
use Rattle.kan_meaning.proofs.TakingLaws.{one_of_each, take_each}
use Rattle.kanren_run.specs.Answers.{AreInForm}
use Rattle.kan_model.specs.Answers.Answer.{HasNames}
use Rattle.kanren_run.specs.Tags.{is_body_named, is_query_named}
use Rattle.kan_model.specs.Each.{Each}
use Rattle.kanren_run.proofs.RunLaws.{taken-has}

-- a store that is taken is kept
kept_taken : (program : Program) (q : Query) (fuel : ℕ) (st : Store) → Contains (take_query program fuel q).stores st → is_kept st ≡ true
kept_taken program q fuel st there = stands.kept
  where
    stands : Stands 1 st
    stands = one_of_each (Stands 1) (take_query program fuel q).stores st
        (take_each program (Stands 1) (λ s. StreamStands s 1) (λ hs h. h) (λ hs i (h, behind). (h, force_stands program 1 i behind)) fuel (start q.goal) q.limit (start_stands q.goal)) there

-- a fact of each element is one of an element
named_of : (table : Table) (hs : List Store) (st : Store) → Each (HasNames table) hs → Contains hs st → HasNames table st
named_of table [] st h (k, within, is) = absurd (omega (arith, within))
named_of table (x ∷ xs) st (h, later) (zero, within, is) = subst (HasNames table) is h
named_of table (x ∷ xs) st (h, later) (suc k, within, is) = named_of table xs st later (k, omega (arith, within), is)

all_of : (f : Query → Bool) (qs : List Query) (q : Query) → list_all f qs ≡ true → Contains qs q → f q ≡ true
all_of f [] q h (k, within, is) = absurd (omega (arith, within))
all_of f (x ∷ xs) q h (zero, within, is) = subst (λ y. f y ≡ true) is (and_parts _ _ h).0
all_of f (x ∷ xs) q h (suc k, within, is) = all_of f xs q (and_parts _ _ h).1 (k, omega (arith, within), is)

pub answers_in_form : (fuel : ℕ) (table : Table) (program : Program) (queries : List Query) → TextsDiffer table →
    list_all (is_body_named table) program.relations ≡ true → list_all (is_query_named table) queries ≡ true → AreInForm fuel (Reply.accepted table program queries)
answers_in_form fuel table program queries differ bodies goals = λ q there st taken.
    answer_in_form table st differ
    (named_of table (take_query program fuel q).stores st (taken-has table program fuel q bodies (all_of (is_query_named table) queries q goals there)) taken)
    (kept_taken program q fuel st taken)
