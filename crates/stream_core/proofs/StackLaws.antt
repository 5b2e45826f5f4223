-- What is put on a stack comes first.
use Rattle.std.specs.Prelude.{Option, Some, None, MatchOption}
use Rattle.std.specs.Option.{option_to_list}
use Rattle.std.proofs.Common.{◌≡◌, ℕ, ◌-◌, ◌<◌, length, arith, take, append-nil, List, [], ◌∷◌, ◌++◌, refl, sym, ap, ap₂, ◌∙◌}
use Rattle.std.proofs.lemmas.List.{length-append}
use Rattle.stream_core.specs.CodeTasks.{stack}

pub stack-push : {X Y : Type 0} (f : X → Y) (xs : List X) (x : X) → stack f (xs ++ x ∷ []) ≡ f x ∷ stack f xs
stack-push f [] x = refl
stack-push f (y ∷ xs) x = ap (λ ys. ys ++ f y ∷ []) (stack-push f xs x)

-- the last one taken
pub stack-pop : {X Y : Type 0} (f : X → Y) (xs rest : List X) (x : X) → xs ≡ rest ++ x ∷ [] → stack f xs ≡ f x ∷ stack f rest
stack-pop f xs rest x split = rw split (stack-push f rest x)

-- one item more, in front of what stood there
pub pushed-one : {X Y : Type 0} (f : X → Y) (old new : List X) (x : X) (y : Y) (ys : List Y) → new ≡ old ++ x ∷ [] → f x ≡ y → stack f old ≡ ys → stack f new ≡ y ∷ ys
pushed-one f old new x y ys grown is rest = ap (stack f) grown ∙ stack-push f old x ∙ ap₂ (λ z zs. z ∷ zs) is rest

-- a stack from which nothing could be taken is empty
pub none-left : {T : Type 0} (o : Option T) (new old : List T) (n m : ℕ) (B : T → Type 0) → old ≡ new ++ option_to_list o → new ≡ take (n - 1) old →
    MatchOption o ((n ≡ 0) × (m ≡ 0)) B → ((x : T) → o ≡ Some x → ⊥) → old ≡ []
none-left None new old n m B whole front cases other = whole ∙ append-nil new ∙ front ∙ ap (λ k. take (k - 1) old) cases.0
none-left (Some x) new old n m B whole front cases other = absurd (other x refl)

-- what could be taken from a stack with enough on it
pub one-pop : {T : Type 0} (o : Option T) (new old : List T) (n m : ℕ) (B : T → Type 0) → old ≡ new ++ option_to_list o → new ≡ take (n - 1) old →
    MatchOption o ((n ≡ 0) × (m ≡ 0)) B → ((x : T) → o ≡ Some x → ⊥) → 0 < length old → ⊥
one-pop o new old n m B whole front cases other low =
    let none : length old ≡ 0 = ap length (none-left o new old n m B whole front cases other) in omega (arith, none, low)

pub two-pops : {T : Type 0} (first : T) (whole : List T) (o : Option T) (new old : List T) (n m : ℕ) (B : T → Type 0) → whole ≡ old ++ first ∷ [] → old ≡ new ++ option_to_list o → new ≡ take (n - 1) old →
    MatchOption o ((n ≡ 0) × (m ≡ 0)) B → ((x : T) → o ≡ Some x → ⊥) → 1 < length whole → ⊥
two-pops first whole o new old n m B split rest front cases other low =
    let none : length old ≡ 0 = ap length (none-left o new old n m B rest front cases other) in
    let one = length-append old (first ∷ []) in
    let long : length whole ≡ length (old ++ first ∷ []) = ap length split in omega (arith, none, one, long, low)

pub none-pop : {T Y : Type 0} (f : T → Y) (o : Option T) (new old : List T) (n m : ℕ) (B : T → Type 0) → old ≡ new ++ option_to_list o → new ≡ take (n - 1) old →
    MatchOption o ((n ≡ 0) × (m ≡ 0)) B → ((x : T) → o ≡ Some x → ⊥) → stack f old ≡ []
none-pop f o new old n m B whole front cases other = ap (stack f) (none-left o new old n m B whole front cases other)

pub stack-length : {X Y : Type 0} (f : X → Y) (xs : List X) → length (stack f xs) ≡ length xs
stack-length f [] = refl
stack-length f (x ∷ xs) = let one = length-append (stack f xs) (f x ∷ []) in let rest = stack-length f xs in omega (arith, one, rest)

pub not-some : {T : Type 0} (o : Option T) → o ≡ None → (x : T) → o ≡ Some x → ⊥
not-some o none x some = let bad : None ≡ Some x = sym none ∙ some in cc
