use Rattle.rst_block_state.proofs.OpenRuns.{rest_is_all}
use Rattle.rst_block_state.proofs.RestLemmas.{rest_over, rest_blanks, rest_text}
use Rattle.rst_block.proofs.laws.constructs_follow.Goals as goal

pub returns : goal.returns
returns c = record { all = rest_is_all; over = rest_over; blank = rest_blanks; text = rest_text }
