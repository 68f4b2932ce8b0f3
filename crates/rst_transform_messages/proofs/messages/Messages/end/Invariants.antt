use Rattle.std.proofs.Common.{◌≡◌, ◌≤◌, max, drop}
use Rattle.rst_transform_messages.specs.Messages.{highest_level}
use Rattle.rst_transform_messages.proofs.messages.Messages.end.Given as goal

abbrev pub invariant-loop-note : goal.invariant-loop-note
invariant-loop-note l = record {
  highest : max l.highest (highest_level (drop l.note-index l.note-items)) ≡ highest_level l.note-items;
  few : l.highest ≤ 4;
}
