use Rattle.kan_tree.proofs.DigitLaws.{fits_at}
use Rattle.kan_tree.proofs.heights.fits.Goals as goal

pub returns-else-level-ge15 : goal.returns-else-level-ge15
returns-else-level-ge15 c = fits_at c.args.key c.args.level
