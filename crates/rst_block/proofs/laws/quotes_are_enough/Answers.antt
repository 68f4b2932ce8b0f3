use Rattle.rst_block_state.proofs.QuoteCounts.{quotes_enough}
use Rattle.rst_block.proofs.laws.quotes_are_enough.Goals as goal

pub returns : goal.returns
returns c = quotes_enough
