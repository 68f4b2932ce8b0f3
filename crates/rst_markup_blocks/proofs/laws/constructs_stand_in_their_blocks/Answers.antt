use Rattle.rst_markup_blocks.proofs.ConstructLaws.{row_on_three, row_reaches, row_within}
use Rattle.rst_markup_blocks.proofs.laws.constructs_stand_in_their_blocks.Goals as goal

pub returns : goal.returns
returns c = record { within = row_within; reaches = row_reaches; on_three = row_on_three }
