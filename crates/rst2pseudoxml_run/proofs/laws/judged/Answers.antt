use Rattle.rst2pseudoxml_run.proofs.Judged.{judged}
use Rattle.rst2pseudoxml_run.proofs.laws.judged.Goals as goal

pub returns : goal.returns
returns c = judged
