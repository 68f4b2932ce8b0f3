use Rattle.rst_block_body.proofs.QuoteSteps.{plain_quote, attributed_quote}
use Rattle.rst_block.proofs.laws.quotes_are_read.Goals as goal

pub returns : goal.returns
returns c = record { plain = plain_quote; attributed = attributed_quote }
