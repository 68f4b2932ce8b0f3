use Rattle.rst_block.proofs.LastLevel.{below_is}
use Rattle.rst_block.proofs.laws.below_last_level_is_blank.Goals as goal

pub returns : goal.returns
returns c = below_is
