-- The index at which the set finds a text is its number in the table.
use Rattle.std.specs.String.{string_bytes}
use Rattle.kan_terms.proofs.TableLaws.{position-number_of}
use Rattle.kan_terms.proofs.names.Texts.find.Goals as goal

pub returns-in-Some-clause-number : goal.returns-in-Some-clause-number
returns-in-Some-clause-number c = let same = position-number_of string_bytes c.self.inside.texts.keys c.args.text.now in cc

pub returns-in-None-clause-number : goal.returns-in-None-clause-number
returns-in-None-clause-number c = let same = position-number_of string_bytes c.self.inside.texts.keys c.args.text.now in cc
