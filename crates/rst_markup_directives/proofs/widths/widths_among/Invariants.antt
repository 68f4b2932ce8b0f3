use Rattle.std.proofs.Common.{◌≡◌, drop, map}
use Rattle.rst_markup_directives.specs.Widths.{widths_among}
use Rattle.rst_markup_directives.proofs.WidthLemmas.{after_widths}
use Rattle.rst_markup_directives.proofs.widths.widths_among.Given as goal

abbrev pub invariant-loop-part : goal.invariant-loop-part
invariant-loop-part l = after_widths l.widths.items (widths_among (map (λ part. part.now) (drop l.part-index l.parts))) ≡ widths_among (map (λ part. part.now) l.parts)
