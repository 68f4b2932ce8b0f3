use Rattle.rst_transform_laws.proofs.TransformLinks.{links_low}
use Rattle.rst_transform_laws.proofs.laws.links_add_little.Goals as goal

pub returns : goal.returns
returns c = links_low
