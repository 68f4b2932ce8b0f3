use Rattle.std.proofs.Common.{◌≡◌, drop}
use Rattle.rst_tree.specs.Attributes.{value_of}
use Rattle.rst_tree.proofs.attrs.Attrs.get.Given as goal

abbrev pub invariant-loop-attr : goal.invariant-loop-attr
invariant-loop-attr l = value_of l.key (drop l.attr-index l.attr-items) ≡ value_of l.key l.attr-items
