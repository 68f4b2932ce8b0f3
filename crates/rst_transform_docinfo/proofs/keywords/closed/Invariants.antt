use Rattle.std.proofs.Common.{◌≡◌, ◌≤◌, drop, length, None}
use Rattle.rst_transform_docinfo.specs.Keywords.{closed}
use Rattle.rst_transform_docinfo.proofs.keywords.closed.Given as goal

abbrev pub invariant-loop-i : goal.invariant-loop-i
invariant-loop-i l = record {
  none : closed l.form (drop l.i l.text) ≡ None;
  within : l.i ≤ length l.text;
}

abbrev pub decreases-loop-i : goal.decreases-loop-i
decreases-loop-i l = l.i
