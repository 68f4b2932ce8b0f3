use Rattle.std.proofs.Common.{◌≡◌, []}
use Rattle.std.specs.List.{fold}
use Rattle.rst_markup_directives.specs.Characters.{unindented}
use Rattle.rst_markup_directives.specs.Lines.{with_line}
use Rattle.rst_markup_directives.proofs.target.target_value.Given as goal

abbrev pub invariant-loop-line : goal.invariant-loop-line
invariant-loop-line l = l.joined.items ≡ fold (λ text line. with_line text (unindented line.now)) [] l.yielded
