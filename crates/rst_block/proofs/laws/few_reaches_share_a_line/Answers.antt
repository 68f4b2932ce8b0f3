use Rattle.rst_block_state.proofs.UnpaidLemmas.{paid, passed, begin}
use Rattle.rst_block.proofs.laws.few_reaches_share_a_line.Goals as goal

pub returns : goal.returns
returns c = record { paid = paid; lines = passed; few = begin }
