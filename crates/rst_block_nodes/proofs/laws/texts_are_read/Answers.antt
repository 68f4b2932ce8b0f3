use Rattle.rst_block_nodes.proofs.ReadingBridges.{termed-is, texted-is}
use Rattle.rst_block_nodes.proofs.laws.texts_are_read.Goals as goal

pub returns : goal.returns
returns c = record {
  texts = λ parts tag line t text_line first made h. texted-is parts tag line t text_line first made h;
  terms = λ parts t line first made h. termed-is parts t line first made h;
}
