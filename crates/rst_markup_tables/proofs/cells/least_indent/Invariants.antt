use Rattle.std.proofs.Common.{◌≡◌, drop, None}
use Rattle.rst_text.proofs.Least.{least_from}
use Rattle.rst_text.specs.Source.{texts_with}
use Rattle.rst_markup_tables.specs.Cells.{as_lines}
use Rattle.rst_markup_tables.proofs.cells.least_indent.Given as goal

abbrev pub invariant-loop-text : goal.invariant-loop-text
invariant-loop-text l = least_from l.least (as_lines (texts_with (drop l.text-index l.texts))) ≡ least_from None (as_lines (texts_with l.texts))
