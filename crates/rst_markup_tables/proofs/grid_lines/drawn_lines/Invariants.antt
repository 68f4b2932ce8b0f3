use Rattle.std.proofs.Common.{◌≡◌, ◌+◌, ◌-◌, true, drop, chars}
use Rattle.std.specs.Prelude.{IfSome}
use Rattle.std.specs.List.{between}
use Rattle.rst_text.specs.Looked.{Looked}
use Rattle.rst_text.specs.Places.{IsLast}
use Rattle.rst_text.specs.ViewBlock.{block_of}
use Rattle.rst_markup_lines.specs.Border.{is_grid_border}
use Rattle.rst_markup_blocks.specs.declared.lines.LineTest.TheVariants.{Drawn}
use Rattle.rst_markup_blocks.specs.Lines.{lines_while}
use Rattle.rst_markup_blocks.specs.TableRows.{is_border_at}
use Rattle.rst_markup_tables.specs.Places.{rows_of}
use Rattle.rst_markup_tables.proofs.Numbered.{NumbersFrom}
use Rattle.rst_markup_tables.proofs.grid_lines.drawn_lines.Given as goal

abbrev pub invariant-loop-k : goal.invariant-loop-k
invariant-loop-k l = record {
  lines : l.lines.items ≡ between l.i l.k (rows_of (block_of l.view));
  among : l.k + lines_while Drawn (drop l.k (block_of l.view)) ≡ l.i + lines_while Drawn (drop l.i (block_of l.view));
  numbered : NumbersFrom (block_of l.view) l.i l.k;
  last : IsLast (is_border_at (drop l.i (block_of l.view))) 2 (l.k - l.i) l.bottom;
  border : IfSome l.border (λ t. is_grid_border (chars t.now) ≡ true);
  looked : Looked (l.k - l.i) (l.k - l.i) l.fn.looks l.looks;
}
