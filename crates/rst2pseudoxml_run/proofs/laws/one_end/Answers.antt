use Rattle.rst2pseudoxml_run.proofs.OneEnd.{one_end}
use Rattle.rst2pseudoxml_run.proofs.laws.one_end.Goals as goal

pub returns : goal.returns
returns c = one_end
