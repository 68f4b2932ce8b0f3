use Rattle.std.proofs.Common.{refl}
use Rattle.rst_block_state.proofs.Changes.{moved_more}
use Rattle.rst_block_markup.proofs.explicit.put.Goals as goal

pub returns : goal.returns
returns c = (refl, moved_more c.go_to.ensures.moved (c.go_to.ensures.there c.requires.later) c.in_ok-push.ensures.more)
