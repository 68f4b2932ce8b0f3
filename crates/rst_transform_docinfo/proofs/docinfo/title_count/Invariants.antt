use Rattle.std.proofs.Common.{◌≡◌, ◌+◌, drop}
use Rattle.std.specs.List.{prefix_len}
use Rattle.rst_transform_work.specs.Reading.{is_title}
use Rattle.rst_transform_docinfo.proofs.docinfo.title_count.Given as goal

abbrev pub invariant-loop-i : goal.invariant-loop-i
invariant-loop-i l = l.i + prefix_len is_title (drop l.i l.nodes) ≡ prefix_len is_title l.nodes
