use Rattle.std.proofs.Common.{refl}
use Rattle.rel_library.specs.Library.{library}
use Rattle.rel_library.proofs.library.library_text.Goals as goal

pub returns-clause-text : goal.returns-clause-text
unfolding library
returns-clause-text c = refl
