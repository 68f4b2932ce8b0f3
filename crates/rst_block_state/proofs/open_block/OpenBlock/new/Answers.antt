use Rattle.std.proofs.Common.{refl}
use Rattle.rst_block_state.proofs.Changes.{begun_is}
use Rattle.rst_block_state.proofs.open_block.OpenBlock.new.Goals as goal

pub returns-clause-begun : goal.returns-clause-begun
returns-clause-begun c = record { done = begun_is c.none.result c.new.result.items c.none.ensures c.new.ensures.items; run = refl; at = refl }
