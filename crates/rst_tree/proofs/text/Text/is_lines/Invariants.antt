use Rattle.std.proofs.Common.{◌≡◌, take}
use Rattle.std.specs.List.{list_all}
use Rattle.rst_tree.specs.Tree.{is_plain_byte}
use Rattle.rst_tree.proofs.text.Text.is_lines.Given as goal

abbrev pub invariant-loop-byte : goal.invariant-loop-byte
invariant-loop-byte l = l.plain ≡ list_all is_plain_byte (take l.byte-index l.byte-items)
