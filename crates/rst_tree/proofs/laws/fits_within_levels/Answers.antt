use Rattle.rst_tree.proofs.FitsLaw.{fits_within_levels}
use Rattle.rst_tree.proofs.laws.fits_within_levels.Goals as goal

pub returns : goal.returns
returns c = fits_within_levels
