-- Letters of templates whose slots are filled, and environments that are extended.
use Rattle.std.proofs.Common.{◌≡◌, ℕ, suc, zero, ◌+◌, ◌<◌, Bool, true, false, List, [], ◌∷◌, ◌++◌, length, refl, sym, ◌∙◌, ap, arith, add-zero, append_assoc, append-nil, map}
use Rattle.std.specs.Prelude.{slice_get, Some, None, Option}
use Rattle.std.specs.List.{list_all}
use Rattle.std.proofs.lemmas.Bool.{and_from, and_parts}
use Rattle.std.proofs.lemmas.List.{map-append}
use Rattle.std.proofs.lemmas.List.Folds.{list_all-append}
use Rattle.kan_terms.specs.Tree.{Tree, Tm}
use Rattle.kan_terms.specs.Terms.{tree}
use Rattle.kan_terms.specs.declared.terms.Term.{Term}
use Rattle.kan_terms.specs.declared.terms.Term.TheVariants.{Var}
use Rattle.kan_model.specs.Programs.Goals.{Template}
use Rattle.kan_model.specs.Streams.Running.{slot, instance, variables}
use Rattle.kan_model.specs.Terms.Letters.{letter_of, spelling}
use Rattle.kan_model.specs.Terms.Flat.{is_flat, letters_waiting}
use Rattle.kan_model.specs.Programs.Tables.{TermEntry, template_of}
use Rattle.kan_model.specs.declared.letters.Letter.{Letter}
use Rattle.kan_model.specs.declared.letters.Letter.TheVariants.{Nil as NilLetter}
use Rattle.kan_model.specs.declared.nodes.TermNode.{TermNode}
use Rattle.kan_model.specs.declared.nodes.TermNode.TheVariants.{Slot, Sym, Str, Num, Truth, Nil, Pair}
use Rattle.kan_model.specs.Programs.Nodes.{term_entry}

-- the letter of what may be a term
abbrev pub letter_found : Option Term → Letter
letter_found None = NilLetter
letter_found (Some t) = letter_of (tree t)

-- the letter of what a slot stands for
pub slot-letter : (values : List Term) (i : ℕ) (found : Option Term) → found ≡ slice_get values i → letter_found found ≡ letter_of (slot (map tree values) i)
slot-letter [] i found is = ap letter_found is
slot-letter (t ∷ values) zero found is = ap letter_found is
slot-letter (t ∷ values) (suc i) found is = slot-letter values i found is

-- what may be a term; where there is none it is the empty list
abbrev pub term_found : Option Term → Tm
term_found None = Tree.nil
term_found (Some t) = tree t

-- what a slot stands for
pub slot-term : (values : List Term) (i : ℕ) (found : Option Term) → found ≡ slice_get values i →
    term_found found ≡ slot (map tree values) i
slot-term [] i found is = ap term_found is
slot-term (t ∷ values) zero found is = ap term_found is
slot-term (t ∷ values) (suc i) found is = slot-term values i found is

-- a variable more
pub variables-last : (first k : ℕ) → variables first (k + 1) ≡ variables first k ++ Tree.leaf (first + k) ∷ []
variables-last first zero = ap (λ n. Tree.leaf n ∷ []) (sym (add-zero first))
variables-last first (suc k) =
    let moved : suc first + k ≡ first + suc k = omega arith in
    let longer : suc k + 1 ≡ suc (k + 1) = omega arith in
    ap (variables first) longer ∙ ap (λ vs. Tree.leaf first ∷ vs) (variables-last (suc first) k ∙ ap (λ n. variables (suc first) k ++ Tree.leaf n ∷ []) moved)

pub extended-step : (env : List Tm) (first k : ℕ) (values longer : List Term) → map tree values ≡ env ++ variables first k → longer ≡ values ++ Var (first + k) ∷ [] →
    map tree longer ≡ env ++ variables first (k + 1)
extended-step env first k values longer so_far grown =
    ap (map tree) grown ∙ map-append tree values (Var (first + k) ∷ []) ∙ ap (λ ts. ts ++ Tree.leaf (first + k) ∷ []) so_far
    ∙ append_assoc env (variables first k) (Tree.leaf (first + k) ∷ []) ∙ ap (λ vs. env ++ vs) (sym (variables-last first k))

variables-flat : (first k : ℕ) → list_all is_flat (variables first k) ≡ true
variables-flat first zero = refl
variables-flat first (suc k) = variables-flat (suc first) k

pub extended-flat : (env : List Tm) (first k : ℕ) (values : List Term) → map tree values ≡ env ++ variables first k → list_all is_flat env ≡ true → list_all is_flat (map tree values) ≡ true
extended-flat env first k values is flat =
    ap (list_all is_flat) is ∙ list_all-append is_flat env (variables first k) ∙ and_from _ _ flat (variables-flat first k)

-- a term without pairs is spelled by its one letter
pub flat-spelling : (t : Tm) → is_flat t ≡ true → spelling t ≡ letter_of t ∷ []
flat-spelling (Tree.leaf v) h = refl
flat-spelling (Tree.sym s) h = refl
flat-spelling (Tree.str s) h = refl
flat-spelling (Tree.num n) h = refl
flat-spelling (Tree.truth b) h = refl
flat-spelling Tree.nil h = refl
flat-spelling (Tree.pair a b) h = cc

pub slot-flat : (env : List Tm) (i : ℕ) → list_all is_flat env ≡ true → is_flat (slot env i) ≡ true
slot-flat [] i h = refl
slot-flat (t ∷ ts) zero h = (and_parts (is_flat t) (list_all is_flat ts) h).0
slot-flat (t ∷ ts) (suc i) h = slot-flat ts i (and_parts (is_flat t) (list_all is_flat ts) h).1

-- an entry that isn't a pair
abbrev pub is_flat_entry : TermEntry → Bool
is_flat_entry (TermEntry.pair a b) = false
is_flat_entry _ = true

pub entry-spelling : (env : List Tm) (ts : List Template) (e : TermEntry) → list_all is_flat env ≡ true → is_flat_entry e ≡ true →
    spelling (instance env (template_of ts e)) ≡ letter_of (instance env (template_of ts e)) ∷ []
entry-spelling env ts (TermEntry.slot i) flat h = flat-spelling (slot env i) (slot-flat env i flat)
entry-spelling env ts (TermEntry.sym s) flat h = refl
entry-spelling env ts (TermEntry.str s) flat h = refl
entry-spelling env ts (TermEntry.num n) flat h = refl
entry-spelling env ts (TermEntry.truth b) flat h = refl
entry-spelling env ts TermEntry.nil flat h = refl
entry-spelling env ts (TermEntry.pair a b) flat h = cc

-- a term put on top of a stack is spelled first
pub letters-push : (ts : List Tm) (t : Tm) → letters_waiting (ts ++ t ∷ []) ≡ spelling t ++ letters_waiting ts
letters-push [] t = sym (append-nil (spelling t))
letters-push (u ∷ ts) t = rw (letters-push ts t) (append_assoc (spelling t) (letters_waiting ts) (spelling u))

-- the same of terms that numbers stand for
pub stack-push : (f : ℕ → Tm) (is : List ℕ) (i : ℕ) → letters_waiting (map f (is ++ i ∷ [])) ≡ spelling (f i) ++ letters_waiting (map f is)
stack-push f is i = ap letters_waiting (map-append f is (i ∷ [])) ∙ letters-push (map f is) (f i)

-- the parts of a pair put on the stack
pub pair-waits : (f : ℕ → Tm) (old middle new : List ℕ) (a b : ℕ) (t : Tm) → middle ≡ old ++ b ∷ [] → new ≡ middle ++ a ∷ [] → t ≡ Tree.pair (f a) (f b) →
    letter_of t ∷ letters_waiting (map f new) ≡ spelling t ++ letters_waiting (map f old)
pair-waits f old middle new a b t first second pair =
    rw (pair, second, stack-push f middle a, first, stack-push f old b, append_assoc)

-- a letter written, and its parts put on the stack
pub spelled-step : (f : ℕ → Tm) (letters longer : List Letter) (x : Letter) (old rest new : List ℕ) (i : ℕ) (whole : List Letter) →
    x ≡ letter_of (f i) → longer ≡ letters ++ x ∷ [] → old ≡ rest ++ i ∷ [] → letters ++ letters_waiting (map f old) ≡ whole →
    letter_of (f i) ∷ letters_waiting (map f new) ≡ spelling (f i) ++ letters_waiting (map f rest) → longer ++ letters_waiting (map f new) ≡ whole
spelled-step f letters longer x old rest new i whole first grown split kept parts =
    ap (λ w. w ++ letters_waiting (map f new)) grown ∙ append_assoc letters (x ∷ []) (letters_waiting (map f new)) ∙ ap (λ y. letters ++ (y ∷ letters_waiting (map f new))) first
    ∙ ap (λ w. letters ++ w) (parts ∙ sym (stack-push f rest i)) ∙ ap (λ w. letters ++ letters_waiting (map f w)) (sym split) ∙ kept

-- then fewer letters wait
pub fewer-wait : (f : ℕ → Tm) (old rest new : List ℕ) (i : ℕ) → old ≡ rest ++ i ∷ [] →
    letter_of (f i) ∷ letters_waiting (map f new) ≡ spelling (f i) ++ letters_waiting (map f rest) → length (letters_waiting (map f new)) < length (letters_waiting (map f old))
fewer-wait f old rest new i split parts =
    let same : length (letter_of (f i) ∷ letters_waiting (map f new)) ≡ length (letters_waiting (map f old)) = ap length (parts ∙ sym (stack-push f rest i) ∙ ap (λ w. letters_waiting (map f w)) (sym split)) in
    omega (arith, same)

-- a node that isn't a pair
pub node-flat : (node : TermNode) → ((a b : ℕ) → node ≡ Pair a b → ⊥) → is_flat_entry (term_entry node) ≡ true
node-flat (Slot i) other = refl
node-flat (Sym s) other = refl
node-flat (Str s) other = refl
node-flat (Num n) other = refl
node-flat (Truth b) other = refl
node-flat Nil other = refl
node-flat (Pair a b) other = absurd (other a b refl)

pub node-waits : (env : List Tm) (ts : List Template) (node : TermNode) (t : Template) (rest : List Letter) → list_all is_flat env ≡ true → ((a b : ℕ) → node ≡ Pair a b → ⊥) →
    t ≡ template_of ts (term_entry node) → letter_of (instance env t) ∷ rest ≡ spelling (instance env t) ++ rest
node-waits env ts node t rest flat other is =
    rw is (ap (λ w. w ++ rest) (sym (entry-spelling env ts (term_entry node) flat (node-flat node other))))
