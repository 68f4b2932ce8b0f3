use Rattle.rst_text.proofs.CutLaws.{cut-cut}
use Rattle.rst_text.proofs.laws.cut_of_cut_is_cut.Goals as goal

pub returns : goal.returns
returns c = cut-cut
