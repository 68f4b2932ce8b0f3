use Rattle.std.proofs.Common.{◌-◌, ◌+◌, ◌≤◌, not, get_or}
use Rattle.rst_text.specs.Places.{NoneFrom}
use Rattle.rst_inline_scan.specs.Uri.{is_uri_trail}
use Rattle.rst_inline_scan.proofs.uri.uri_close.Given as goal

abbrev pub invariant-loop-end : goal.invariant-loop-end
invariant-loop-end l = record {
  below : l.end ≤ l.stop;
  none : NoneFrom (λ e. not (is_uri_trail (get_or l.text (e - 1) 0))) (l.end + 1) (l.stop + 1);
}

abbrev pub decreases-loop-end : goal.decreases-loop-end
decreases-loop-end l = l.end - l.start
