use Rattle.std.proofs.Common.{◌≡◌, ◌+◌, drop}
use Rattle.rst_markup_directives.specs.Lines.{texts_of}
use Rattle.rst_markup_directives.specs.Layout.{before_field}
use Rattle.rst_markup_directives.proofs.layout.before_field.Given as goal

abbrev pub invariant-loop-i : goal.invariant-loop-i
invariant-loop-i l = l.i + before_field l.parts (texts_of (drop l.i l.run)) ≡ before_field l.parts (texts_of l.run)
