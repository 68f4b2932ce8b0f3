use Rattle.std.proofs.Common.{◌≤◌, ◌-◌}
use Rattle.rst_settings.specs.Parts.{no_parts}
use Rattle.rst_text.specs.Kept.{IsEmptyRun}
use Rattle.rst_text.specs.Lines.{numbered_from}
use Rattle.rst_text.proofs.kept.Kept.empty_end.Given as goal

abbrev pub invariant-loop-step : goal.invariant-loop-step
invariant-loop-step l = IsEmptyRun (numbered_from no_parts 0 l.self) l.i l.to l.end × (1 ≤ l.step)

abbrev pub decreases-loop-step : goal.decreases-loop-step
decreases-loop-step l = l.to - l.end

abbrev pub invariant-loop-step-2 : goal.invariant-loop-step-2
invariant-loop-step-2 l = IsEmptyRun (numbered_from no_parts 0 l.self) l.i l.to l.end × (1 ≤ l.step)

abbrev pub decreases-loop-step-2 : goal.decreases-loop-step-2
decreases-loop-step-2 l = l.step
