use Rattle.std.proofs.Common.{◌≡◌, ◌++◌, length}
use Rattle.rst_transform_docinfo.specs.Keywords.{line_value}
use Rattle.rst_transform_docinfo.proofs.keywords.add_line.Given as goal

abbrev pub invariant-loop-rest : goal.invariant-loop-rest
invariant-loop-rest l = l.text.items ++ line_value l.form l.rest ≡ l.fn.text.items ++ line_value l.form l.line

abbrev pub decreases-loop-rest : goal.decreases-loop-rest
decreases-loop-rest l = length l.rest
