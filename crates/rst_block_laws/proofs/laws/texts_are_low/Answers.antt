use Rattle.rst_tree_laws.proofs.AnyTexts.{Anything, any, any_kept, any_suited}
use Rattle.rst_block_laws.proofs.Fits.{fit_low}
use Rattle.rst_block_laws.proofs.TextFits.{text_fits}
use Rattle.rst_block_laws.proofs.laws.texts_are_low.Goals as goal

pub returns : goal.returns
returns c = λ parts t line number ps. fit_low Anything 3 _ (text_fits any Anything any_suited parts t line number ps (any_kept t))
