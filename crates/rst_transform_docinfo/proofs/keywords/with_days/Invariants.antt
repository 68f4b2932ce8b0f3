use Rattle.std.proofs.Common.{◌≡◌, ◌++◌, length}
use Rattle.rst_transform_docinfo.specs.Keywords.{by_dollars, with_days}
use Rattle.rst_transform_docinfo.proofs.KeywordLemmas.{texts}
use Rattle.rst_transform_docinfo.proofs.keywords.with_days.Given as goal

abbrev pub invariant-loop-rest : goal.invariant-loop-rest
invariant-loop-rest l = l.dated.items ++ with_days (texts l.rest) ≡ with_days (by_dollars l.text)

abbrev pub decreases-loop-rest : goal.decreases-loop-rest
decreases-loop-rest l = length l.rest
