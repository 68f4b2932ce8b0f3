use Rattle.rst2pseudoxml_run.proofs.Profiles.{profiles_agree}
use Rattle.rst2pseudoxml_run.proofs.laws.profiles_agree.Goals as goal

pub returns : goal.returns
returns c = profiles_agree
