-- What clap's matches have, by their rows.
use Rattle.std.proofs.Common.{◌≡◌, ◌||◌, Bool, cond, true, false, List, [], ◌∷◌, Some, option_map, map, refl}
use Rattle.std.specs.Prelude.{bytes_eq, find, is_some}
use Rattle.clap.specs.Facts.{Entry}
use Rattle.clap.specs.Matches.{first_value, matched_of}
use Rattle.clap.specs.Walk.{Text, first_of, has_row, row_of, rows_of}
use Rattle.clap.specs.declared.parser.matches.Found.{Found}
use Rattle.clap.proofs.WalkLemmas.{first_value-rows}

pub value_found : (f : Found) (id : Text) → first_value f id ≡ first_of id (rows_of f)
value_found f id = first_value-rows f id

entry_found : (id : Text) (xs : List Entry) → is_some (option_map (λ e. e.1) (find (λ e. bytes_eq e.0.now id) xs)) ≡ has_row id (map row_of xs)
entry_found id [] = refl
entry_found id (x ∷ xs) = go (bytes_eq x.0.now id) (entry_found id xs)
  where
    go : (b : Bool) → is_some (option_map (λ e. e.1) (find (λ e. bytes_eq e.0.now id) xs)) ≡ has_row id (map row_of xs)
        → is_some (option_map (λ e. e.1) (cond b (Some x) (find (λ e. bytes_eq e.0.now id) xs))) ≡ (b || has_row id (map row_of xs))
    go true e = refl
    go false e = e

pub is_found : (f : Found) (id : Text) → is_some (matched_of f id) ≡ has_row id (rows_of f)
is_found f id = entry_found id f.entries.items
