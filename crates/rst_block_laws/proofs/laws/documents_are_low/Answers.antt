use Rattle.std.proofs.Common.{arith}
use Rattle.rst_tree_laws.proofs.AnyTexts.{Anything, any, any_suited, block_any}
use Rattle.rst_block_laws.proofs.BlockFits.{document_fits}
use Rattle.rst_block_laws.proofs.Gives.{gives_more}
use Rattle.rst_block_laws.proofs.Weights.{node_height_weight}
use Rattle.rst_block_laws.proofs.laws.documents_are_low.Goals as goal

pub returns : goal.returns
returns c = λ profile B. (gives_more (λ n h. omega (arith, h.0, node_height_weight n)) (document_fits any Anything any_suited profile B (block_any B))).at
