use Rattle.std.proofs.Common.{◌≡◌, ◌≤◌, ◌+◌, ◌-◌}
use Rattle.rst_text.specs.Places.{NoneFrom}
use Rattle.rst_inline_scan.specs.Registered.{ends_link, uri_limit}
use Rattle.rst_inline_scan.proofs.registered.last_end.Given as goal

abbrev pub invariant-loop-end : goal.invariant-loop-end
invariant-loop-end l = record {
  upto : l.end ≤ uri_limit l.text l.start;
  none : NoneFrom (ends_link l.text) (l.end + 1) (uri_limit l.text l.start + 1);
}

abbrev pub decreases-loop-end : goal.decreases-loop-end
decreases-loop-end l = l.end - l.start
