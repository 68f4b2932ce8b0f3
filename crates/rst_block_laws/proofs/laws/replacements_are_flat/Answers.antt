use Rattle.rst_tree_laws.proofs.AnyTexts.{Anything, any, any_suited, block_any}
use Rattle.rst_block_laws.proofs.BlockFits.{document_flat}
use Rattle.rst_block_laws.proofs.laws.replacements_are_flat.Goals as goal

pub returns : goal.returns
returns c = λ profile B number e. (document_flat any Anything any_suited profile B (block_any B) e).at number
