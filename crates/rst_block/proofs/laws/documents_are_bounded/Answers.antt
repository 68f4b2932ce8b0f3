use Rattle.rst_block.proofs.DocumentLooks.{last_text, bounded}
use Rattle.rst_block.proofs.laws.documents_are_bounded.Goals as goal

pub returns : goal.returns
returns c = record { flat = last_text; bounded = bounded }
