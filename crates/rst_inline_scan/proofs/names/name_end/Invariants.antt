use Rattle.std.proofs.Common.{◌-◌, length}
use Rattle.rst_inline_scan.proofs.NameLemmas.{IsNamed}
use Rattle.rst_inline_scan.proofs.names.name_end.Given as goal

abbrev pub decreases-loop-place : goal.decreases-loop-place
decreases-loop-place l = length l.text - l.place

abbrev pub invariant-loop-place : goal.invariant-loop-place
invariant-loop-place l = IsNamed l.text l.start l.place l.found
