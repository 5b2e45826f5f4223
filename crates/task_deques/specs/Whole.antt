-- When deques and stealers are all that there are.
use Rattle.std.specs.Prelude.{◌≡◌, ℕ, ◌+◌, eqb, List, [], ◌∷◌, cond, ⊤}
use mathlib.Core.Option.{some}
use lib.ListN.{get_elem?}
use Rattle.atomic_blocks.specs.Lent.{RowsId}
use Rattle.std.specs.declared.alloc.Global.{Global}
use Rattle.task_deques.specs.Shares.{whole, total}

-- which deque it is, and how many of its parts are here
abbrev pub DequePart : Type 0
DequePart = (RowsId × Global) × ℕ

-- the number of a deque, and the same
abbrev pub StealerPart : Type 0
StealerPart = ℕ × DequePart

abbrev pub Every : {X : Type 0} → (X → Type 0) → List X → Type 0
Every P [] = ⊤
Every P (x ∷ xs) = P x × Every P xs

-- the parts that a stealer has of the deque with this number
abbrev pub part_for : ℕ → StealerPart → ℕ
part_for number s = cond (eqb s.0 number) s.1.1 0

abbrev pub parts_for : ℕ → List StealerPart → ℕ
parts_for number ss = total (part_for number) ss

-- the deque with the stealer's number is the one that it takes from
abbrev pub IsOfDeque : List DequePart → StealerPart → Type 0
IsOfDeque ds s = (d : DequePart) × (get_elem? ds s.0 ≡ some d) × (d.0 ≡ s.1.0)

-- each stealer is of one of the deques, and all parts of each deque are here
pub record IsAll (ds : List DequePart) (ss : List StealerPart) : Type 0 where
  pub parts : (number : ℕ) (d : DequePart) → get_elem? ds number ≡ some d
      → d.1 + parts_for number ss ≡ whole
  pub known : Every (IsOfDeque ds) ss
