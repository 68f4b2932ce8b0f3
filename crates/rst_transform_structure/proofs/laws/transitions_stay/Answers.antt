use Rattle.rst_transform_structure.proofs.KeptTransitions.{transitions_stay}
use Rattle.rst_transform_structure.proofs.laws.transitions_stay.Goals as goal

pub returns : goal.returns
returns c = transitions_stay
