use Rattle.std.proofs.Common.{◌≡◌, ◌++◌, [], ◌∷◌, drop, string_bytes}
use Rattle.std.specs.Prelude.{reverse}
use Rattle.reify.specs.Printing.{shapes_text}
use Rattle.reify.specs.declared.printing.Place.TheVariants.{Element}
use Rattle.reify.proofs.printing.print_shapes.Given as goal

-- what was printed and what the shapes that are left print is the whole text
abbrev pub invariant-loop-shape : goal.invariant-loop-shape
invariant-loop-shape l =
    string_bytes l.text ++ shapes_text l.names (reverse l.places.items) (drop l.shape-index l.shapes) ≡ string_bytes l.initial.text ++ shapes_text l.names (Element ∷ []) l.shapes
