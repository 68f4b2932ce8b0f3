use Rattle.rst_block_state.proofs.Changes.{done_title, more_is_read, item_is_read}
use Rattle.rst_block.proofs.laws.changes_are_read.Goals as goal

pub returns : goal.returns
returns c = record { nodes = λ old new B more h. more_is_read B h; item = item_is_read; title = λ old new heading h. done_title h }
