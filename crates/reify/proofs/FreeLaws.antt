-- What a solved answer leaves stands for itself.
use Rattle.std.proofs.Common.{◌≡◌, ℕ, true, eqb, List, [], ◌∷◌, ◌++◌}
use Rattle.std.specs.List.{All}
use Rattle.std.proofs.lemmas.List.Elements.{All-cons, All-nil}
use Rattle.kan_terms.specs.Tree.{Tree, Tm, fill, leaves}
use Rattle.kan_model.specs.Stores.Store.{Store, equations}
use Rattle.kan_model.specs.Stores.Solve.{image, left_first}
use Rattle.kan_model.specs.Stores.Kept.{is_kept}
use Rattle.kan_model.specs.Stores.Calls.{replacement_of, IsFree}
use Rattle.kan_model.specs.Answers.Answer.{named_variables}
use Rattle.kan_model.proofs.Solving.ReplacedLaws.{applied_twice}
use Rattle.kan_model.proofs.ListLaws.{Each-append, Each-each_once}
use Rattle.kan_model.specs.Each.{Each}
use Rattle.reify.proofs.KindLaws.{answer_holds}

pub All-from_Each : {X : Type 0} (P : X → Type 0) (xs : List X) → Each P xs → All P xs
All-from_Each P [] h = All-nil P
All-from_Each P (x ∷ xs) (h, hs) = All-cons P x xs h (All-from_Each P xs hs)

-- what fills no leaf of a term keeps it
first_part : (a b c d : Tm) → Tree.pair a b ≡ Tree.pair c d → a ≡ c
first_part a b c d e = cc

last_part : (a b c d : Tm) → Tree.pair a b ≡ Tree.pair c d → b ≡ d
last_part a b c d e = cc

fixed_leaves : (f : ℕ → Tm) (t : Tm) → fill f t ≡ t → Each (λ v. f v ≡ Tree.leaf v) (leaves t)
fixed_leaves f (Tree.leaf v) e = (e, tt)
fixed_leaves f (Tree.sym s) e = tt
fixed_leaves f (Tree.str s) e = tt
fixed_leaves f (Tree.num n) e = tt
fixed_leaves f (Tree.truth b) e = tt
fixed_leaves f Tree.nil e = tt
fixed_leaves f (Tree.pair a b) e =
    Each-append (λ v. f v ≡ Tree.leaf v) (leaves a) (leaves b) (fixed_leaves f a (first_part (fill f a) (fill f b) a b e)) (fixed_leaves f b (last_part (fill f a) (fill f b) a b e))

-- the variables of the query's value stand for themselves
pub named_are_free : (st : Store) → is_kept st ≡ true → Each (IsFree st) (named_variables (image (replacement_of st) 0))
named_are_free st kept =
    Each-each_once (IsFree st) eqb (leaves (image (replacement_of st) 0))
    (fixed_leaves (image (replacement_of st)) (image (replacement_of st) 0) (applied_twice left_first (equations st.prims) (replacement_of st) (Tree.leaf 0) (answer_holds st kept).0))

pub all_named_free : (st : Store) (vs : List ℕ) → is_kept st ≡ true → vs ≡ named_variables (image (replacement_of st) 0) → All (IsFree st) vs
all_named_free st vs kept e = rw e (All-from_Each (IsFree st) (named_variables (image (replacement_of st) 0)) (named_are_free st kept))
