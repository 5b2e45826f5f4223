-- Marks that spell a tree are those of the tree that is read from them.
use Rattle.std.proofs.Common.{refl, subst}
use Rattle.kan_terms.specs.Spelling.{SpellsTree}
use Rattle.kan_terms.proofs.SpellingLaws.{spelling-tree_of}
use Rattle.kan_terms.proofs.marks.Ground.of_marks.Goals as goal

spells : (c : goal.Then-spells_tree) → SpellsTree c.args.marks.items
spells c = subst SpellsTree c.deref.ensures.value (c.if-spells_tree.ensures.0 refl)

pub invariant_of-result : goal.invariant_of-result
invariant_of-result c = spelling-tree_of c.args.marks.items (spells c)

pub returns-then-spells_tree-clause-spelled : goal.returns-then-spells_tree-clause-spelled
returns-then-spells_tree-clause-spelled c = spelling-tree_of c.args.marks.items (spells c)
