use Rattle.std.proofs.Common.{map}
use Rattle.rst_transform_messages.specs.Listed.{numbered_report, Adds, KeepsLevels}
use Rattle.rst_transform_messages.proofs.messages.Messages.add_reports.Given as goal

abbrev pub invariant-loop-report : goal.invariant-loop-report
invariant-loop-report l = record {
  levels : KeepsLevels l.fn.self l.self;
  adds : Adds (map numbered_report l.yielded) l.fn.self l.self;
}
