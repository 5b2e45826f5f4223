-- What a text is answered with, and what is said of it.
use Rattle.std.specs.Prelude.{◌≡◌, ℕ, Bool, true, false, List, Contains, ⊤}
use Rattle.std.specs.List.{list_any}
use Rattle.kan_refusals.specs.Refusals.{number_of}
use Rattle.kan_refusals.specs.declared.refusals.Refusal.{Refusal}
use Rattle.kan_model.specs.Answers.AnswerText.{answer_of}
use Rattle.kan_model.specs.Answers.InForm.{in_form}
use Rattle.kan_model.specs.Programs.Goals.{Program, Query}
use Rattle.kan_model.specs.Stores.Store.{Store}
use Rattle.kan_model.specs.Streams.Taking.{take_query}
use Rattle.kan_grammar.specs.Data.Faults.{fault}
use Rattle.kan_grammar.specs.Texts.Reply.{Reply, reply, reply_bytes, spends_fuel, is_spent}
use Rattle.kanren_run.specs.Settings.{library_before}
use Rattle.kanren_run.specs.declared.settings.Settings.{Settings}

-- what a text is answered with under some settings
abbrev pub reply_to : Settings → List ℕ → Reply
reply_to s text = reply (library_before s.library) text s.dialect

-- the bytes that are written for it
abbrev pub answer_bytes : Settings → List ℕ → List ℕ
answer_bytes s text = reply_bytes s.fuel (reply_to s text)

abbrev pub is_accepted : Reply → Bool
is_accepted (Reply.refusal f) = false
is_accepted (Reply.accepted table program queries) = true

-- each answer that a run gives is in form: it is written in just one way
abbrev pub AreInForm : ℕ → Reply → Type 0
AreInForm fuel (Reply.refusal f) = ⊤
AreInForm fuel (Reply.accepted table program queries) =
    (q : Query) → Contains queries q → (st : Store) →
    Contains (take_query program fuel q).stores st →
    in_form table (answer_of table st) ≡ true

-- a text is accepted, its answers are in form, and it is said whether some run of it spends its
-- fuel
pub record Runs (s : Settings) (text : List ℕ) (spent : Bool) : Type 0 where
  pub accepted : is_accepted (reply_to s text) ≡ true
  pub in_form : AreInForm s.fuel (reply_to s text)
  pub spends : spends_fuel s.fuel (reply_to s text) ≡ spent

-- a text is refused for a fault at an offset
abbrev pub IsRefusedFor : Settings → List ℕ → ℕ → Refusal → Type 0
IsRefusedFor s text at refusal = reply_to s text ≡ Reply.refusal (fault at refusal)

-- and its refusal has this number
pub record IsRefused (s : Settings) (text : List ℕ) (at number : ℕ) : Type 0 where
  pub refusal : Refusal
  pub is_for : IsRefusedFor s text at refusal
  pub numbered : number ≡ number_of refusal

-- some run spends its fuel
abbrev pub spends : Program → ℕ → List Query → Bool
spends program fuel queries = list_any (λ q. is_spent (take_query program fuel q).ending) queries
