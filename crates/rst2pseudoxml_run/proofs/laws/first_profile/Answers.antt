use Rattle.std.proofs.Common.{refl}
use Rattle.rst2pseudoxml_run.proofs.laws.first_profile.Goals as goal

pub returns : goal.returns
returns c = λ settings limit info. rw (limit, info) refl
