-- Words: one kind of trees that spells terms, goals, stores, suspensions and programs, and is read
-- off a list of numbers.
use Rattle.std.specs.Prelude.{◌≡◌, ℕ, zero, suc, List, [], ◌∷◌, refl}
use Rattle.std.proofs.Common.{ap, ◌∙◌}

-- which constructor is spelled
pub data Kind : Type 0 where
  first second third fourth fifth sixth seventh eighth : Kind

pub data Word : Type 0 where
  nothing : Word
  number : ℕ → Word
  node : Kind → Word → Word → Word

abbrev pub kind_number : Kind → ℕ
kind_number first = 0
kind_number second = 1
kind_number third = 2
kind_number fourth = 3
kind_number fifth = 4
kind_number sixth = 5
kind_number seventh = 6
kind_number eighth = 7

abbrev pub kind_at : ℕ → Kind
kind_at zero = first
kind_at (suc zero) = second
kind_at (suc (suc zero)) = third
kind_at (suc (suc (suc zero))) = fourth
kind_at (suc (suc (suc (suc zero)))) = fifth
kind_at (suc (suc (suc (suc (suc zero))))) = sixth
kind_at (suc (suc (suc (suc (suc (suc zero)))))) = seventh
kind_at (suc (suc (suc (suc (suc (suc (suc k))))))) = eighth

pub kind-back : (k : Kind) → kind_at (kind_number k) ≡ k
kind-back first = refl
kind-back second = refl
kind-back third = refl
kind-back fourth = refl
kind-back fifth = refl
kind-back sixth = refl
kind-back seventh = refl
kind-back eighth = refl

-- the numbers of a word, each node before its parts, in front of others
abbrev pub put_word : Word → List ℕ → List ℕ
put_word nothing more = 0 ∷ more
put_word (number n) more = 1 ∷ n ∷ more
put_word (node k v w) more = suc (suc (kind_number k)) ∷ put_word v (put_word w more)

-- the first two words, joined
abbrev pub join_words : Kind → List Word → List Word
join_words k [] = []
join_words k (v ∷ []) = v ∷ []
join_words k (v ∷ w ∷ more) = node k v w ∷ more

-- the words that numbers spell, one after another
abbrev pub words : List ℕ → List Word
words [] = []
words (zero ∷ more) = nothing ∷ words more
words (suc zero ∷ []) = []
words (suc zero ∷ n ∷ more) = number n ∷ words more
words (suc (suc k) ∷ more) = join_words (kind_at k) (words more)

abbrev pub first_word : List Word → Word
first_word [] = nothing
first_word (w ∷ more) = w

-- what is read from the numbers of a word and others after them
pub words-put : (w : Word) (more : List ℕ) → words (put_word w more) ≡ w ∷ words more
words-put nothing more = refl
words-put (number n) more = refl
words-put (node k v w) more =
    ap (join_words (kind_at (kind_number k)))
    (words-put v (put_word w more) ∙ ap (λ ws. v ∷ ws) (words-put w more))
    ∙ ap (λ j. node j v w ∷ words more) (kind-back k)

-- a word from its numbers
abbrev pub word_of : List ℕ → Word
word_of ns = first_word (words ns)

abbrev pub numbers_of : Word → List ℕ
numbers_of w = put_word w []

pub word-back : (w : Word) → word_of (numbers_of w) ≡ w
word-back w = ap first_word (words-put w [])
