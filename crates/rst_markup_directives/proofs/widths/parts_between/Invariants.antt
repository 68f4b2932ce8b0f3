use Rattle.std.proofs.Common.{◌≡◌}
use Rattle.rst_markup_directives.proofs.widths.parts_between.Given as goal

abbrev pub invariant-loop-part : goal.invariant-loop-part
invariant-loop-part l = l.parts.items ≡ l.yielded
