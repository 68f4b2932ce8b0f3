use Rattle.std.proofs.Common.{◌∙◌, ◌+◌, ◌<◌, sym, subst, drop, length, length-drop, arith, refl, None, Some}
use Rattle.std.proofs.lemmas.List.{take_all}
use Rattle.rst_text.specs.Block.{Block}
use Rattle.rst_text.specs.ViewBlock.{block_of}
use Rattle.rst_markup_blocks.specs.declared.lines.LineTest.TheVariants.{Drawn}
use Rattle.rst_markup_blocks.specs.Lines.{lines_while}
use Rattle.rst_markup_blocks.proofs.RowLaws.{while_le}
use Rattle.rst_markup_blocks.proofs.TableLaws.{grid_size_le}
use Rattle.rst_markup_blocks.proofs.TableLemmas.{grid_bottom-below}
use Rattle.rst_markup_tables.specs.Places.{Grid, AreNumbered}
use Rattle.rst_markup_tables.proofs.Numbered.{numbered-take}
use Rattle.rst_markup_tables.proofs.GridLemmas.{table_rows-are}
use Rattle.rst_markup_tables.proofs.grid_lines.grid_lines.Goals as goal

pub returns-in_default-clause-lines : goal.returns-in_default-clause-lines
returns-in_default-clause-lines c =
    let X : Block = drop c.args.i (block_of c.args.view.now) in
    let L : Grid = c.in_ok-drawn.drawn.lines.items in
    sym (take_all (length L) L (omega arith)) ∙ table_rows-are X L None c.in_ok-drawn.ensures.lines (sym c.in_default.is ∙ c.in_ok-drawn.ensures.bottom)

pub overflow_add-k : goal.overflow_add-k
overflow_add-k c =
    let B : Block = block_of c.args.view.now in
    let X : Block = drop c.args.i B in
    let below : c.in-Some.k < lines_while Drawn X = grid_bottom-below X (lines_while Drawn X) (Some c.in-Some.k) refl (sym c.in-Some.is ∙ c.in_ok-drawn.ensures.bottom) in
    omega (arith, below, while_le Drawn X, length-drop c.args.i B)

pub returns-clause-lines : goal.returns-clause-lines
returns-clause-lines c =
    let X : Block = drop c.args.i (block_of c.args.view.now) in
    c.truncate.ensures.items ∙ table_rows-are X c.in_ok-drawn.drawn.lines.items (Some c.in-Some.k) c.in_ok-drawn.ensures.lines (sym c.in-Some.is ∙ c.in_ok-drawn.ensures.bottom)

pub returns-in_default-clause-each : goal.returns-in_default-clause-each
returns-in_default-clause-each c = omega (arith, grid_size_le (drop c.args.i (block_of c.args.view.now)), c.in_ok-drawn.ensures.each)

pub returns-clause-each : goal.returns-clause-each
returns-clause-each c = omega (arith, grid_size_le (drop c.args.i (block_of c.args.view.now)), c.in_ok-drawn.ensures.each)

pub returns-clause-numbered : goal.returns-clause-numbered
returns-clause-numbered c = subst AreNumbered (sym c.truncate.ensures.items) (numbered-take (c.in-Some.k + 1) c.in_ok-drawn.drawn.lines.items c.in_ok-drawn.ensures.numbered)
