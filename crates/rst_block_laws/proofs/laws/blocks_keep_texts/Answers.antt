use Rattle.rst_block_laws.proofs.BlockFits.{document_fits, inner_fits}
use Rattle.rst_block_laws.proofs.Fits.{fit_have}
use Rattle.rst_block_laws.proofs.Gives.{gives_more}
use Rattle.rst_tree_laws.proofs.Properties.{spelled_suited}
use Rattle.rst_tree_laws.specs.Texts.{Spells}
use Rattle.rst_block_laws.proofs.laws.blocks_keep_texts.Goals as goal

pub returns : goal.returns
returns c = record {
  blocks = λ P code levels B number s kept. (gives_more (fit_have (Spells P) _) (inner_fits P (Spells P) (spelled_suited P s) code levels B kept)).at number;
  document = λ P profile B number s kept. (gives_more (λ n h. h.1) (document_fits P (Spells P) (spelled_suited P s) profile B kept)).at number;
}
