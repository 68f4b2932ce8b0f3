use Rattle.std.proofs.Common.{◌-◌, ◌+◌, ◌≤◌, not, get_or}
use Rattle.rst_text.specs.Characters.{is_white}
use Rattle.rst_text.specs.Places.{NoneFrom}
use Rattle.rst_inline.proofs.embedded.dark_end.Given as goal

abbrev pub invariant-loop-end : goal.invariant-loop-end
invariant-loop-end l = record {
  below : l.end ≤ l.place;
  none : NoneFrom (λ e. not (is_white (get_or l.text (e - 1) 0))) (l.end + 1) (l.place + 1);
}

abbrev pub decreases-loop-end : goal.decreases-loop-end
decreases-loop-end l = l.end
