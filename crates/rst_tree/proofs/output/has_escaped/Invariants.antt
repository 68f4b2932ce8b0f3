use Rattle.std.proofs.Common.{◌≡◌, take}
use Rattle.std.specs.List.{list_any}
use Rattle.rst_tree.specs.Print.{needs_backslash}
use Rattle.rst_tree.proofs.output.has_escaped.Given as goal

abbrev pub invariant-loop-byte : goal.invariant-loop-byte
invariant-loop-byte l = l.found ≡ list_any needs_backslash (take l.byte-index l.text)
