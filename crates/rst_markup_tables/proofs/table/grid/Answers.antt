use Rattle.std.proofs.Common.{drop, take, subst, ℕ, Option}
use Rattle.rst_text.specs.Block.{Block}
use Rattle.rst_text.specs.ViewBlock.{block_of}
use Rattle.rst_markup_blocks.specs.TableRows.{grid_bottom, grid_size}
use Rattle.rst_markup_tables.specs.Places.{Grid, rows_of}
use Rattle.rst_markup_tables.specs.GridTable.{grid_fault, IsOfRows}
use Rattle.rst_markup_tables.proofs.EndLemmas.{grid_end}
use Rattle.rst_markup_tables.proofs.table.grid.Goals as goal

pub returns-clause-table : goal.returns-clause-table
returns-clause-table c =
    let X : Block = drop c.args.i (block_of c.args.view.now) in
    let T : Grid = rows_of (take (grid_size X) X) in
    let rows = subst (λ (G : Grid). IsOfRows c.number.result c.args.i G (grid_fault c.in_ok-found.found.bottom G) c.in_ok-table.table) c.in_ok-found.ensures.lines c.in_ok-table.ensures in
    let bottom = subst (λ (o : Option ℕ). IsOfRows c.number.result c.args.i T (grid_fault o T) c.in_ok-table.table) c.in_ok-found.ensures.bottom rows in
    subst (λ (n : ℕ). IsOfRows n c.args.i T (grid_fault (grid_bottom X) T) c.in_ok-table.table) c.number.ensures.value bottom

pub returns-clause-end : goal.returns-clause-end
returns-clause-end c = grid_end (block_of c.args.view.now) c.args.i c.in_ok-table.table (returns-clause-table c)
