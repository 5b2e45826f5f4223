-- The data that the parts of a table are.
use Rattle.std.specs.Prelude.{ℕ, List, [], ◌∷◌, ◌++◌, slice_index_or}
use Rattle.kan_grammar.specs.Texts.Sited.{Sited}
use Rattle.goal_forms.specs.declared.flat_data.Part.{Part}
use Rattle.goal_forms.specs.declared.flat_data.Part.TheVariants.{Name, Text, Number, Truth, Nil}
use Rattle.goal_forms.specs.declared.flat_data.Part.TheVariants.{Pair}
use Rattle.goal_forms.specs.declared.flat_data.FlatPart.{FlatPart}
use Rattle.goal_forms.specs.declared.flat_data.FlatData.{FlatData}

-- the datum at a place
abbrev pub site_at : List Sited → ℕ → Sited
site_at ds i = slice_index_or ds i (Sited.nil 0)

-- the datum of a part at an offset, among the data before it
abbrev pub part_site : List Sited → ℕ → Part → Sited
part_site ds at (Name s) = Sited.name at s
part_site ds at (Text s) = Sited.text at s
part_site ds at (Number n) = Sited.num at n
part_site ds at (Truth b) = Sited.bool at b
part_site ds at Nil = Sited.nil at
part_site ds at (Pair a d) = Sited.pair at (site_at ds a) (site_at ds d)

abbrev pub node_site : List Sited → FlatPart → Sited
node_site ds node = part_site ds node.at node.part

-- the data of a table, grown from those before it
abbrev pub sites_after : List Sited → List FlatPart → List Sited
sites_after ds [] = ds
sites_after ds (node ∷ flat) = sites_after (ds ++ node_site ds node ∷ []) flat

-- the data of a table
abbrev pub sites : FlatData → List Sited
sites flat = sites_after [] flat.rows.items

-- the data at two places
abbrev pub pair_at : List Sited → ℕ × ℕ → Sited × Sited
pair_at ds places = (site_at ds places.0, site_at ds places.1)
