use Rattle.rst_block_state.proofs.BegunLemmas.{marks_tell_constructs}
use Rattle.rst_block.proofs.laws.marks_tell_constructs.Goals as goal

pub returns : goal.returns
returns c = marks_tell_constructs
