use Rattle.std.proofs.Common.{◌≤◌, ◌+◌, ◌-◌}
use Rattle.rst_text.specs.Places.{NoneFrom}
use Rattle.rst_inline_scan.specs.Registered.{ends_link}
use Rattle.rst_inline_scan.proofs.mail.host_end.Given as goal

abbrev pub invariant-loop-end : goal.invariant-loop-end
invariant-loop-end l = record {
  upto : l.end ≤ l.stop + 1;
  none : NoneFrom (ends_link l.text) (l.end + 1) (l.stop + 2);
}

abbrev pub decreases-loop-end : goal.decreases-loop-end
decreases-loop-end l = l.end - l.start
