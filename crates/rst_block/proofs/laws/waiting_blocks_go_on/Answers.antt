use Rattle.rst_block_state.proofs.MeaningLemmas.{reads_all, part_means, done_means, item_means}
use Rattle.rst_block.proofs.laws.waiting_blocks_go_on.Goals as goal

pub returns : goal.returns
returns c = record { begun = reads_all; part = part_means; ended = done_means; item = item_means }
