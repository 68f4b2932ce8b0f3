use Rattle.std.proofs.Common.{◌≡◌, ◌++◌, true, drop}
use Rattle.rst_text.specs.Lines.{are_lines}
use Rattle.rst_text.specs.Source.{texts_with}
use Rattle.rst_markup_tables.specs.Cells.{as_lines, texts_among}
use Rattle.rst_markup_tables.proofs.cells.cell_texts.Given as goal

abbrev pub invariant-loop-k : goal.invariant-loop-k
invariant-loop-k l = record {
  texts : texts_with l.texts.items ++ texts_among l.left l.right l.lines (drop l.k-index l.among) ≡ texts_among l.left l.right l.lines l.among;
  lines : are_lines (as_lines (texts_with l.texts.items)) ≡ true;
}
