-- What is left of a run, as a search holds it, and how the search's table is tied to it.
use Rattle.std.specs.Prelude.{◌≤◌, ◌+◌, ℕ, Bool, List, map, reverse, Option, option_map, IfSome}
use Rattle.std.specs.Prelude.{refl}
use Rattle.std.specs.Coded.{Coded, code_by, coded×, coded_ℕ, coded_bool, coded_list, coded_option}
use Rattle.kan_model.specs.Programs.Goals.{Program}
use Rattle.kan_model.specs.Stores.Store.{Store}
use Rattle.kan_model.specs.Streams.Stream.{Thunk}
use Rattle.kan_model.specs.declared.program.Program as code
use Rattle.stream_core.specs.Tables.{Table, IsTableOf}
use Rattle.stream_words.specs.Codes.{program_code, store_code, thunk_code}
use Rattle.kan_search.specs.Suspensions.{LeavesRoom}

-- the program, the stores at the front of the stream and how it goes on behind them; the limit and
-- the fuel that are left, the pulls of a round, the pulls that were made, and whether memory was
-- wanting
pub record Rest : Type 0 where
  pub program : Program
  pub heads : List Store
  pub next : Option Thunk
  pub limit : Option ℕ
  pub fuel : ℕ
  pub round : ℕ
  pub pulls : ℕ
  pub spent : Bool

abbrev pub Stream : Type 0
Stream = List Store × Option Thunk

abbrev pub Counts : Type 0
Counts = (Option ℕ × Bool) × (ℕ × (ℕ × ℕ))

abbrev pub stream_code : Coded Stream
stream_code = coded× (coded_list store_code) (coded_option thunk_code)

abbrev pub counts_code : Coded Counts
counts_code =
    coded× (coded× (coded_option coded_ℕ) coded_bool) (coded× coded_ℕ (coded× coded_ℕ coded_ℕ))

abbrev pub rest_code : Coded Rest
rest_code =
    code_by (Program × (Stream × Counts)) (coded× program_code (coded× stream_code counts_code))
    (λ r. (r.program, ((r.heads, r.next), ((r.limit, r.spent), (r.fuel, (r.round, r.pulls))))))
    (λ p. record {
      program = p.0;
      heads = p.1.0.0;
      next = p.1.0.1;
      limit = p.1.1.0.0;
      fuel = p.1.1.1.0;
      round = p.1.1.1.1.0;
      pulls = p.1.1.1.1.1;
      spent = p.1.1.0.1;
    })
    (λ r. refl)

-- what is left where the next store is the last one of a list
abbrev pub rest_of : {I St : Type 0} → (I → Thunk) → (St → Store) → Program → List St → Option I →
    Option ℕ → ℕ → ℕ → ℕ → Bool → Rest
rest_of tree means program heads tail limit fuel round pulls spent = record {
  program = program;
  heads = map means (reverse heads);
  next = option_map tree tail;
  limit = limit;
  fuel = fuel;
  round = round;
  pulls = pulls;
  spent = spent;
}

-- the table is of the program, what the stream goes on with is of the table, and numbers are left
-- for the variables of the pulls that may still be made
pub record IsSound {I : Type 0} (t : Table I) (program : code.Program) (tail : Option I)
    (pulls fuel : ℕ) : Type 0 where
  pub table : IsTableOf program t
  pub belongs : IfSome tail t.belongs
  pub room : IfSome tail (λ id. LeavesRoom pulls (t.tree id))
  pub few : pulls + fuel ≤ 1000000
