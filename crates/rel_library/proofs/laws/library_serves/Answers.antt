use Rattle.rel_library.proofs.LibraryFaultless.{library_serves}
use Rattle.rel_library.proofs.laws.library_serves.Goals as goal

pub returns : goal.returns
returns c = library_serves
