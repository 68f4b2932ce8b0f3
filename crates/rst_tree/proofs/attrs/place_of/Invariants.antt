use Rattle.std.proofs.Common.{◌≡◌, ◌+◌, drop}
use Rattle.rst_tree.specs.Attributes.{places_below}
use Rattle.rst_tree.proofs.attrs.place_of.Given as goal

abbrev pub invariant-loop-i : goal.invariant-loop-i
invariant-loop-i l = l.i + places_below l.key (drop l.i l.attrs) ≡ places_below l.key l.attrs
