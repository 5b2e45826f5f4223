-- Tags that must not stand in variables.
use Rattle.std.specs.Prelude.{◌≡◌, ◌↔◌, ℕ, suc, Bool, true, ◌&&◌, List, [], ◌∷◌, ◌++◌, Contains}
use Rattle.kan_model.specs.Stores.Store.{Store}
use Rattle.kan_model.specs.Stores.Calls.{replacement_of}
use Rattle.kan_model.specs.Answers.Order.{stands_in}
use Rattle.kan_model.specs.Answers.Answer.{Absence, has_absence, may_have_tag}
use Rattle.reify.specs.Typing.{here}

-- a store keeps a tag out of a variable in which it could stand
abbrev pub keeps_tag : Store → ℕ → ℕ → Bool
keeps_tag st tag v =
    has_absence (replacement_of st) st.prims tag v && may_have_tag (replacement_of st) st.prims v

-- the tags that a store keeps out of a variable
abbrev pub AreKept : Store → ℕ → List ℕ → Type 0
AreKept st v tags = (tag : ℕ) → Contains tags tag ↔ (keeps_tag st tag v ≡ true)

-- for each variable the tags that pass the test with it
abbrev pub TagLists : (ℕ → ℕ → Bool) → List ℕ → List (List ℕ) → Type 0
TagLists test [] [] = Unit {0}
TagLists test (v ∷ vs) (ts ∷ lists) =
    ((tag : ℕ) → Contains ts tag ↔ (test tag v ≡ true)) × TagLists test vs lists
TagLists test _ _ = ⊥

-- the places of the lists in which a tag is, from a number on
abbrev pub listed_names : ℕ → ℕ → List (List ℕ) → List ℕ
listed_names tag n [] = []
listed_names tag n (ts ∷ lists) = here (stands_in ts tag) n ++ listed_names tag (suc n) lists

-- a tag with those places
abbrev pub kept_of : List (List ℕ) → ℕ → Absence
kept_of lists tag = record { tag = tag; names = listed_names tag 0 lists }
