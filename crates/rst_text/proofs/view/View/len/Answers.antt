use Rattle.std.proofs.Common.{sym}
use Rattle.rst_text.proofs.Cuts.{length-block_of}
use Rattle.rst_text.proofs.view.View.len.Goals as goal

pub returns : goal.returns
returns c = sym (length-block_of c.args.self.now)
