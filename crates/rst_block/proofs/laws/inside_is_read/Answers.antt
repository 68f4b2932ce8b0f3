use Rattle.rst_block.proofs.InsideReads.{inside_is_read}
use Rattle.rst_block.proofs.laws.inside_is_read.Goals as goal

pub returns : goal.returns
returns c = inside_is_read
