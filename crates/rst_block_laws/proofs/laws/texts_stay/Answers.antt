use Rattle.rst_tree_laws.proofs.Properties.{spelled_suited}
use Rattle.rst_block_laws.proofs.TextFits.{notes_have, text_fits}
use Rattle.rst_block_laws.proofs.Fits.{fit_have}
use Rattle.rst_tree_laws.specs.Texts.{Spells}
use Rattle.rst_block_laws.proofs.laws.texts_stay.Goals as goal

pub returns : goal.returns
returns c = record {
  nodes = λ P parts t line number pieces s h. fit_have (Spells P) 3 _ (text_fits P (Spells P) (spelled_suited P s) parts t line number pieces h);
  notes = λ P parts t line pieces s h. notes_have P (Spells P) (spelled_suited P s) parts t line pieces h;
}
