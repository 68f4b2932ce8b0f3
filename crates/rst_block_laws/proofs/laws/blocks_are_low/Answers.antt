use Rattle.rst_tree_laws.proofs.AnyTexts.{Anything, any, any_suited, block_any}
use Rattle.rst_block_laws.proofs.BlockFits.{inner_fits}
use Rattle.rst_block_laws.proofs.Fits.{fit_low}
use Rattle.rst_block_laws.proofs.Gives.{gives_more}
use Rattle.rst_block_laws.proofs.laws.blocks_are_low.Goals as goal

pub returns : goal.returns
returns c = λ code levels B. (gives_more (fit_low Anything _) (inner_fits any Anything any_suited code levels B (block_any B))).at
