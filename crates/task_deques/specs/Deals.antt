-- What a clause sees of deques that are to be dealt.
use Rattle.std.specs.Prelude.{◌≡◌, ℕ, Bool, List}
use Rattle.task_deques.specs.declared.dealing.Deques.{Deques}

-- the home of the tasks
abbrev pub tasks_home : Deques → List ℕ
tasks_home d = d.home.numbers

-- how many deques there are to be
abbrev pub deque_count : Deques → ℕ
deque_count d = d.count

abbrev pub has_dealt : Deques → Bool
has_dealt d = d.dealt

-- as many deques, for tasks of the same home, whether they are dealt or not
abbrev pub AreSameDeques : Deques → Deques → Type 0
AreSameDeques old new = (new.home ≡ old.home) × (new.count ≡ old.count)
