-- What a seat has done and seen, at first and after each kind of step.
use Rattle.std.specs.Prelude.{ℕ, ◌+◌, ◌==◌, Bool, true, false, cond, not}
use Rattle.pull_budget.specs.declared.rule.View.{View}

-- a seat that has done nothing yet
abbrev pub fresh : Bool → ℕ → ℕ → View
fresh puller ahead seen = record {
  puller = puller;
  ahead = ahead;
  made = 0;
  seen = seen;
  read = 0;
  found = 0;
  set = false;
  ender = false;
  loads = 0;
  tries = 0;
  won = 0;
}

-- the seat of a new table, before bound is set
abbrev pub opener : View
opener = fresh true 0 0

-- a seat that was split off
abbrev pub hired_view : View → View
hired_view v = fresh false v.ahead v.seen

-- what is left of a seat that was taken back
abbrev pub joined_view : View
joined_view = fresh false 0 0

abbrev pub after_pull : View → View
after_pull v = record v { made = v.made + 1 }

abbrev pub after_seeing : View → ℕ → View
after_seeing v n = record v { seen = n; loads = v.loads + 1 }

abbrev pub after_reading : View → ℕ → View
after_reading v n = record v { read = n; loads = v.loads + 1 }

-- an exchange that found n has won where n is what the seat had read
abbrev pub after_try : View → ℕ → View
after_try v n = record v {
  found = n;
  tries = v.tries + 1;
  won = cond (n == v.read) (v.won + 1) v.won;
}

abbrev pub after_stop : View → View
after_stop v = record v { ender = true }

abbrev pub is_set : ℕ → Bool
is_set n = not (n == 0)

abbrev pub after_asking : View → Bool → View
after_asking v set = record v { set = set; loads = v.loads + 1 }

abbrev pub after_bound : View → ℕ → View
after_bound v n = record v { ahead = n }
