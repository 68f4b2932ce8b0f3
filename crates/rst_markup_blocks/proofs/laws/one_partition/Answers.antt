use Rattle.rst_markup_blocks.proofs.PartitionLemmas.{some, only}
use Rattle.rst_markup_blocks.proofs.laws.one_partition.Goals as goal

pub returns : goal.returns
returns c = record { some = some; only = λ titles B S h. only titles S 0 B h }
