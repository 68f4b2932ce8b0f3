use Rattle.std.proofs.Common.{◌≡◌, ◌++◌, length, map}
use Rattle.std.specs.List.{join_with_byte}
use Rattle.rst_transform_docinfo.specs.Keywords.{line_value, with_values}
use Rattle.rst_transform_docinfo.proofs.KeywordLemmas.{texts}
use Rattle.rst_transform_docinfo.proofs.keywords.with_values.Given as goal

abbrev pub invariant-loop-rest : goal.invariant-loop-rest
invariant-loop-rest l = l.valued.items ++ join_with_byte 10 (map (line_value l.form) (texts l.rest)) ≡ with_values l.form l.text

abbrev pub decreases-loop-rest : goal.decreases-loop-rest
decreases-loop-rest l = length l.rest
