use Rattle.std.proofs.Common.{◌≡◌, ◌+◌, ◌-◌, ◌*◌, [], drop, take, map, vec_items}
use Rattle.std.specs.Vec.Iter.{into_iter_items}
use Rattle.rst_text.specs.ViewBlock.{block_of, source_of}
use Rattle.rst_markup_tables.specs.declared.results.TableResult.TheVariants.{Table}
use Rattle.rst_block_state.specs.Inside.{cell_blocks}
use Rattle.rst_block_state.specs.looks.Ledger.{total_at, totals}
use Rattle.rst_block_state.specs.machine.Meanings.{comes, plug, text_items, within_at}
use Rattle.rst_block_state.specs.Numbered.{each}
use Rattle.rst_block_state.specs.Tables.{entry_of, row_of}
use Rattle.rst_block.specs.Reading.{IsReading, first_step, text_left}
use Rattle.rst_block.proofs.CellsRead.{each_after}
use Rattle.rst_block.proofs.MachinePaid.{AreLeft, cell_lines, row_lines, IsPaidFor}
use Rattle.rst_block.proofs.machine.+machine.Given as goal

abbrev pub decreases-read : goal.decreases-read
decreases-read l = 5 * (251 - l.level.now.depth) + 1

abbrev pub decreases-cells : goal.decreases-cells
decreases-cells l = 5 * (251 - l.depth) + 5

abbrev pub decreases-rows_of : goal.decreases-rows_of
decreases-rows_of l = 5 * (251 - l.depth) + 4

abbrev pub decreases-entries_of : goal.decreases-entries_of
decreases-entries_of l = 5 * (251 - l.depth) + 3

-- the blocks that wait make of what comes in the block that is read all that the text gives
abbrev pub invariant-read-loop-table : goal.invariant-read-loop-table
invariant-read-loop-table l = record {
  reading : IsReading l.depth l.base (source_of l.whole) l.frames l.level l.view (first_step l.level.depth);
  outer : take l.base l.frames ≡ l.fn.frames;
  read : plug (source_of l.whole) (drop l.base l.frames) (comes l.level (block_of l.view) (first_step l.level.depth)) l.pass.numbers ≡ text_items l.depth (block_of l.whole) l.fn.pass.numbers;
  paid : IsPaidFor (128 * total_at l.depth (block_of l.whole)) (total_at l.depth (block_of l.whole)) (source_of l.whole) (drop l.base l.frames) l.level (block_of l.view) (first_step l.level.depth) l.fn.pass.looks l.pass.looks;
}

abbrev pub decreases-read-loop-table : goal.decreases-read-loop-table
decreases-read-loop-table l = text_left l.depth l.base (source_of l.whole) l.frames l.level l.view (first_step l.level.depth)

abbrev pub invariant-rows_of-loop-cells : goal.invariant-rows_of-loop-cells
invariant-rows_of-loop-cells l = record {
  frames : l.frames ≡ l.fn.frames;
  made : each_after (row_of (within_at (l.depth - 1))) l.made (map vec_items (into_iter_items l.cells-iterator)) l.pass.numbers ≡ each (row_of (within_at (l.depth - 1))) l.fn.rows l.fn.pass.numbers;
  paid : AreLeft (totals (l.depth - 1) (cell_blocks (Table [] 0 l.fn.rows 0))) (totals (l.depth - 1) (row_lines (into_iter_items l.cells-iterator))) l.fn.pass.looks l.pass.looks;
}

abbrev pub invariant-entries_of-loop-cell : goal.invariant-entries_of-loop-cell
invariant-entries_of-loop-cell l = record {
  frames : l.frames ≡ l.fn.frames;
  made : each_after (entry_of (within_at (l.depth - 1))) l.entries (into_iter_items l.cell-iterator) l.pass.numbers ≡ each (entry_of (within_at (l.depth - 1))) l.fn.cells.items l.fn.pass.numbers;
  paid : AreLeft (totals (l.depth - 1) (cell_lines l.fn.cells.items)) (totals (l.depth - 1) (cell_lines (into_iter_items l.cell-iterator))) l.fn.pass.looks l.pass.looks;
}
