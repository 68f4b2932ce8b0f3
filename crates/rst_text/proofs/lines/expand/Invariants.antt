use Rattle.std.proofs.Common.{◌≡◌, ◌≤◌, ◌+◌, ◌++◌, length, replicate, string_bytes, string_len}
use Rattle.std.specs.Str.{chars}
use Rattle.rst_text.proofs.Expanding.{Expands}
use Rattle.rst_text.proofs.lines.expand.Given as goal

abbrev pub invariant-loop : goal.invariant-loop
invariant-loop l = (string_bytes l.line ≡ string_bytes l.initial.line ++ replicate l.counter 32) × (string_len l.line ≡ string_len l.initial.line + l.counter)

abbrev pub invariant-left : goal.invariant-left
invariant-left l = Expands l.tab l.column (string_bytes l.line) l.left (chars l.piece) × (l.column ≤ string_len l.line)

abbrev pub decreases-left : goal.decreases-left
decreases-left l = length l.left
