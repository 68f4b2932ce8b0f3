use Rattle.std.proofs.Common.{◌≡◌, ◌+◌, drop}
use Rattle.rst_tree.specs.Attributes.{place_named}
use Rattle.rst_tree.proofs.attrs.place_named.Given as goal

abbrev pub invariant-loop-i : goal.invariant-loop-i
invariant-loop-i l = l.i + place_named l.key (drop l.i l.attrs) ≡ place_named l.key l.attrs
