use Rattle.std.proofs.Common.{◌≡◌, [], ◌∷◌, ◌++◌, false, length, replicate, take}
use Rattle.rst_transform_references.proofs.Numbering.{all_written}
use Rattle.rst_transform_references.proofs.footnote_labels.free_numbers.Given as goal

abbrev pub invariant-loop-place : goal.invariant-loop-place
invariant-loop-place l = l.written.items ≡ all_written (take l.place l.links.linked) (replicate (length l.links.linked) false ++ false ∷ [])
