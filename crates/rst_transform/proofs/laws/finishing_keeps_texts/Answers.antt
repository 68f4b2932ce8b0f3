use Rattle.rst_tree_laws.proofs.Properties.{spelled_suited}
use Rattle.rst_transform.proofs.TransformFinishing.{finishing_held}
use Rattle.rst_tree_laws.specs.Texts.{Spells}
use Rattle.rst_transform.proofs.laws.finishing_keeps_texts.Goals as goal

pub returns : goal.returns
returns c P messages profile settings document s signs flat has = (finishing_held P (Spells P) (spelled_suited P s) signs messages profile settings document flat has).1
