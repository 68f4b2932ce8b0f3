use Rattle.std.proofs.Common.{◌≡◌, ℕ, ◌-◌, ◌^◌, ◌≤◌, List, [], length, drop, arith, rules, refl, sym, subst, ap, ◌∙◌, map, vec_items}
use Rattle.std.proofs.lemmas.List.{drop_all, nil_from_length, take_all}
use Rattle.std.specs.Vec.Iter.{into_iter_items}
use Rattle.rst_text.specs.Block.{Block}
use Rattle.rst_text.specs.ViewBlock.{block_of, source_of}
use Rattle.rst_tree.specs.declared.node.Node.{Node}
use Rattle.rst_tree.specs.declared.tag.Tag.TheVariants.{Row}
use Rattle.rst_markup_tables.specs.declared.results.TableResult.TheVariants.{Table}
use Rattle.rst_block_nodes.specs.Elements.{element_of}
use Rattle.rst_block_state.specs.Inside.{cell_blocks}
use Rattle.rst_block_state.specs.looks.Ledger.{TakesFor, total_at, totals}
use Rattle.rst_block_state.specs.machine.Meanings.{comes, deepest, done_of, reads, text_items, within_at}
use Rattle.rst_block_state.specs.Numbered.{just, then_read}
use Rattle.rst_block_state.specs.Tables.{entry_of, row_of, table_node}
use Rattle.rst_block_state.specs.declared.frame.Frame.{Frame}
use Rattle.rst_block_state.specs.declared.step.Step.TheVariants.{Begin, Next, Cells}
use Rattle.rst_block_state.proofs.Calls.{refuses}
use Rattle.rst_block.specs.Reading.{first_step}
use Rattle.rst_block.proofs.Begins.{first_now, first_comes, first_paid, first_next}
use Rattle.rst_block.proofs.CellsRead.{each_begins, each_ends, each_goes_on, each_keeps, entries_keep, entry_next, table_keeps, then_keeps, table_reads}
use Rattle.rst_block.proofs.MachinePaid.{none_read, some_read, next_cell, row_paid, next_row, rows_paid, table_paid, text_begins, block_goes_on, text_ends}
use Rattle.rst_block.proofs.Stack.{below, goes_on}
use Rattle.rst_block_body.proofs.StepsPaid.{takes_then}
use Rattle.rst_block.proofs.Waiting.{plug_alone, plug_fails, plug_goes_on}
use Rattle.rst_block.proofs.machine.+machine.Goals as goal

pub read-loop-table-init : goal.read-loop-table-init
read-loop-table-init t c =
    let S : Block = source_of c.whole-whole.result in
    let B : Block = block_of c.whole-whole.result in
    let l = c.args.level.now in
    let base : ℕ = c.len-base.result in
    let all : length c.args.frames.now ≤ base = omega (arith, c.len-base.ensures) in
    let none : drop base c.args.frames.now ≡ [] = drop_all base c.args.frames.now all in
    record {
      reading = record {
        base = omega (arith, c.len-base.ensures);
        under = omega (arith, c.len-base.ensures, c.requires.room);
        room = omega (arith, c.len-base.ensures, c.requires.depth);
        waiting = rw none tt;
        text = refl;
        now = first_now B l c.requires.new c.requires.depth;
        depth = omega (arith, c.len-base.ensures);
        nested = rw none tt;
      };
      outer = take_all base c.args.frames.now all;
      read = plug_goes_on S (drop base c.args.frames.now) (comes l B (first_step l.depth)) (comes l B Begin) c.args.pass.now.numbers c.args.pass.now.numbers _
          (first_comes l B c.args.pass.now.numbers c.requires.new) (plug_alone S (drop base c.args.frames.now) (comes l B Begin) c.args.pass.now.numbers none);
      paid = block_goes_on _ _ S (drop base c.args.frames.now) l l B Begin (first_step l.depth) _ _ _ (text_begins S (drop base c.args.frames.now) l B c.args.pass.now.looks none)
          (first_paid l B _ c.requires.new);
    }

pub read-loop-table-smaller : goal.read-loop-table-smaller
read-loop-table-smaller t c =
    let S : Block = source_of c.whole-whole.result in
    let h = rw c.in-Some.is at c.in_ok-read_on.ensures.reading in
    let less = rw c.in-Some.is at c.in_ok-read_on.ensures.less in
    let n : ℕ = length (block_of c.read_on.new.view) in
    let next = first_next c.cells.new.level.depth (omega (arith, c.in_ok-cells-in-Some.ensures.kept, h.now.0)) in
    rw (next, c.in_ok-cells-in-Some.ensures.frames) (below (goes_on (2 ^ 64) (251 - c.args.level.now.depth) S (drop c.len-base.result c.read_on.new.frames)
    n c.read_on.new.level.at n c.cells.new.level.at (Cells c.in-Some.table) Next (omega (arith, h.now.1, c.in_ok-cells-in-Some.ensures.later))) less)

pub read-loop-table-preserved : goal.read-loop-table-preserved
read-loop-table-preserved t c =
    let S : Block = source_of c.whole-whole.result in
    let B : Block = block_of c.read_on.new.view in
    let fs : List Frame = drop c.len-base.result c.read_on.new.frames in
    let h = rw c.in-Some.is at c.in_ok-read_on.ensures.reading in
    let read = rw c.in-Some.is at c.in_ok-read_on.ensures.read in
    let paid = rw c.in-Some.is at c.in_ok-read_on.ensures.paid in
    let same : c.cells.new.frames ≡ c.read_on.new.frames = c.in_ok-cells-in-Some.ensures.frames in
    let low : c.cells.new.level.depth ≤ deepest = omega (arith, c.in_ok-cells-in-Some.ensures.kept, h.now.0) in
    let next = first_next c.cells.new.level.depth low in
    record {
      reading = rw (next, same) (record { base = h.base; under = h.under; room = h.room; waiting = h.waiting; text = h.text; now = low; depth = c.in_ok-cells-in-Some.ensures.kept ∙ h.depth; nested = h.nested });
      outer = rw same (c.in_ok-read_on.ensures.outer ∙ c.loop-table.invariant.outer);
      read = rw (next, same) (plug_goes_on S fs (reads c.cells.new.level B) (comes c.read_on.new.level B (Cells c.in-Some.table)) c.cells.new.pass.numbers c.read_on.new.pass.numbers _ c.in_ok-cells-in-Some.ensures.read
          (read ∙ c.loop-table.invariant.read));
      paid = rw (next, same) (block_goes_on _ _ S fs c.read_on.new.level c.cells.new.level B (Cells c.in-Some.table) Next _ _ _ (takes_then c.loop-table.invariant.paid paid) c.in_ok-cells-in-Some.ensures.paid);
    }

pub read-returns-in-None-clause-read : goal.read-returns-in-None-clause-read
read-returns-in-None-clause-read t c =
    let last = rw c.in-None.is at c.in_ok-read_on.ensures.last in
    let none : drop c.len-base.result c.read_on.new.frames ≡ [] = drop_all c.len-base.result c.read_on.new.frames (omega (arith, last)) in
    sym (plug_alone (source_of c.whole-whole.result) (drop c.len-base.result c.read_on.new.frames) (just (done_of c.read_on.new.level)) c.read_on.new.pass.numbers none)
    ∙ (rw c.in-None.is at c.in_ok-read_on.ensures.read ∙ c.loop-table.invariant.read ∙ ap (λ X. text_items c.args.level.now.depth X c.args.pass.now.numbers) c.whole-whole.ensures.block)

pub read-returns-in-None-clause-paid : goal.read-returns-in-None-clause-paid
read-returns-in-None-clause-paid t c =
    let last = rw c.in-None.is at c.in_ok-read_on.ensures.last in
    let none : drop c.len-base.result c.read_on.new.frames ≡ [] = drop_all c.len-base.result c.read_on.new.frames (omega (arith, last)) in
    subst (λ X. TakesFor (total_at c.args.level.now.depth X) c.args.pass.now.looks c.read_on.new.pass.looks) c.whole-whole.ensures.block
    (text_ends _ (source_of c.whole-whole.result) (drop c.len-base.result c.read_on.new.frames) c.read_on.new.level (block_of c.read_on.new.view) _ _ none
    (takes_then c.loop-table.invariant.paid (rw c.in-None.is at c.in_ok-read_on.ensures.paid)))

pub read-returns-in_err-cells-in-Some-clause-read : goal.read-returns-in_err-cells-in-Some-clause-read
read-returns-in_err-cells-in-Some-clause-read t c =
    let read = rw c.in-Some.is at c.in_ok-read_on.ensures.read in
    refuses _ c.in_err-cells-in-Some.field-0.0 _ _ (search rules)
    (plug_fails (source_of c.whole-whole.result) (drop c.len-base.result c.read_on.new.frames) (comes c.read_on.new.level (block_of c.read_on.new.view) (Cells c.in-Some.table)) c.read_on.new.pass.numbers
    (text_items c.args.level.now.depth c.args.lines.now c.args.pass.now.numbers) c.in_err-cells-in-Some.field-0.0 _ _ (read ∙ c.loop-table.invariant.read ∙ ap (λ X. text_items c.args.level.now.depth X c.args.pass.now.numbers) c.whole-whole.ensures.block) c.in_err-cells-in-Some.ensures.read)

pub cells-returns-in_err-made-clause-read : goal.cells-returns-in_err-made-clause-read
cells-returns-in_err-made-clause-read t c =
    refuses c.from_residual.result c.in_err-made.field-0.0 _ _ (search rules)
    (table_keeps c.args.level.now (block_of c.args.view.now) c.args.depth c.args.found c.in-Table.cols c.in-Table.head c.in-Table.end c.in-Table.rows c.args.pass.now.numbers c.in_err-made.field-0.0 _ _ c.in-Table.is c.requires.level
    c.in_err-made.ensures.rows)

pub cells-returns-clause-kept : goal.cells-returns-clause-kept
cells-returns-clause-kept t c = c.in_ok-after_table.ensures.more.depth ∙ c.in_ok-put_table.ensures.depth ∙ c.go_to.ensures.moved.depth

pub cells-returns-clause-read : goal.cells-returns-clause-read
cells-returns-clause-read t c =
    let B : Block = block_of c.args.view.now in
    let is_later = rw c.in-Table.is at c.requires.table in
    ap (λ k. reads c.after_table.new.level B k) c.in_ok-after_table.ensures.numbers
    ∙ table_reads c.args.level.now c.go_to.new.self c.put_table.new.level c.after_table.new.level B c.args.depth c.args.found c.in-Table.cols c.in-Table.head c.in-Table.end c.in-Table.rows c.in_ok-made.made (table_node c.as_slice.result.now c.in-Table.head c.in_ok-made.made c.number-line.result)
    c.args.pass.now.numbers c.rows_of.new.pass.numbers c.in-Table.is c.requires.level (sym c.in_ok-made.ensures.rows)
    (ap (λ widths. table_node widths c.in-Table.head c.in_ok-made.made c.number-line.result) c.as_slice.ensures
    ∙ ap (λ line. table_node c.in-Table.cols c.in-Table.head c.in_ok-made.made line) c.number-line.ensures.value)
    c.go_to.ensures.moved (c.go_to.ensures.there is_later) c.in_ok-put_table.ensures c.in_ok-after_table.ensures.more

pub cells-returns-clause-paid : goal.cells-returns-clause-paid
cells-returns-clause-paid t c =
    let is_later = rw c.in-Table.is at c.requires.table in
    table_paid c.args.level.now c.go_to.new.self c.put_table.new.level c.after_table.new.level (block_of c.args.view.now) c.args.depth c.args.found c.in-Table.cols c.in-Table.head c.in-Table.end c.in-Table.rows
    _ _ _ _ _ c.in-Table.is c.requires.level c.in_ok-made.ensures.paid c.go_to.ensures.moved (c.go_to.ensures.there is_later) c.in_ok-put_table.ensures
    c.in_ok-after_table.ensures.more (omega (arith, c.in_ok-after_table.ensures.looked.0)) c.in_ok-after_table.ensures.looked.1

pub rows_of-loop-cells-init : goal.rows_of-loop-cells-init
rows_of-loop-cells-init t c =
    let start : map vec_items (into_iter_items c.into_iter-cells-iterator.result) ≡ c.args.rows = ap (map vec_items) c.into_iter-cells-iterator.ensures.into_iter_gives.0 ∙ c.into_rows-cells-items.ensures in
    record {
      frames = refl;
      made = each_begins (row_of (within_at (c.args.depth - 1))) c.args.rows (map vec_items (into_iter_items c.into_iter-cells-iterator.result)) c.none-made.result c.args.pass.now.numbers c.none-made.ensures start;
      paid = none_read _ _ _ (ap (λ rows. totals (c.args.depth - 1) (cell_blocks (Table [] 0 rows 0))) start);
    }

pub rows_of-returns-in_err-entries-clause-rows : goal.rows_of-returns-in_err-entries-clause-rows
rows_of-returns-in_err-entries-clause-rows t c =
    refuses c.from_residual.result c.in_err-entries.field-0.0 _ _ (search rules)
    (each_keeps (row_of (within_at (c.args.depth - 1))) c.in-Some.cells.items (map vec_items (into_iter_items c.loop-cells.cells-iterator)) _ c.loop-cells.made c.loop-cells.pass.numbers _ c.in_err-entries.field-0.0 _ _
    (ap (map vec_items) c.in-Some.ensures.steps.0) c.loop-cells.invariant.made
    (then_keeps _ (λ entries. just (element_of Row [] entries 0)) c.in_err-entries.field-0.0 _ (λ (n : Node). just n 0) c.in_err-entries.ensures.entries))

pub rows_of-loop-cells-preserved : goal.rows_of-loop-cells-preserved
rows_of-loop-cells-preserved t c = record {
  frames = c.in_ok-entries.ensures.frames ∙ c.loop-cells.invariant.frames;
  made = each_goes_on (row_of (within_at (c.args.depth - 1))) c.in-Some.cells.items (map vec_items (into_iter_items c.loop-cells.cells-iterator)) _ c.loop-cells.made c.put_row.new.rows (element_of Row [] c.in_ok-entries.entries 0) c.loop-cells.pass.numbers
      c.entries_of.new.pass.numbers _ (ap (map vec_items) c.in-Some.ensures.steps.0) (ap (then_read (λ (entries : List Node). just (element_of Row [] entries 0))) c.in_ok-entries.ensures.entries) c.in_ok-put_row.ensures c.loop-cells.invariant.made;
  paid = some_read _ _ _ _ _ _ _ c.loop-cells.invariant.paid (next_row (c.args.depth - 1) (into_iter_items c.loop-cells.cells-iterator) _ c.in-Some.cells c.in-Some.ensures.steps.0) c.in_ok-entries.ensures.paid;
}

pub rows_of-returns-clause-rows : goal.rows_of-returns-clause-rows
rows_of-returns-clause-rows t c =
    let none : into_iter_items c.loop-cells.cells-iterator ≡ [] = nil_from_length _ (sym c.loop-cells.cells-iterator.rest.ok.0 ∙ c.in-None.ensures.steps.0) in
    sym (each_ends (row_of (within_at (c.args.depth - 1))) (map vec_items (into_iter_items c.loop-cells.cells-iterator)) c.loop-cells.made c.loop-cells.pass.numbers _ (ap (map vec_items) none) c.loop-cells.invariant.made)

pub rows_of-returns-clause-paid : goal.rows_of-returns-clause-paid
rows_of-returns-clause-paid t c =
    let none : into_iter_items c.loop-cells.cells-iterator ≡ [] = nil_from_length _ (sym c.loop-cells.cells-iterator.rest.ok.0 ∙ c.in-None.ensures.steps.0) in
    rows_paid (c.args.depth - 1) c.args.rows (into_iter_items c.loop-cells.cells-iterator) _ _ none c.loop-cells.invariant.paid

pub entries_of-returns-in_err-read-clause-entries : goal.entries_of-returns-in_err-read-clause-entries
entries_of-returns-in_err-read-clause-entries t c =
    refuses c.from_residual-in_err-read.result c.in_err-read.field-0.0 _ _ (search rules)
    (entries_keep c.args.depth c.args.cells.items (into_iter_items c.loop-cell.cell-iterator) _ c.in-Some.cell c.in_ok-lines.lines c.loop-cell.entries c.args.pass.now.numbers c.loop-cell.pass.numbers c.in_err-read.field-0.0 _ _
    c.requires.inner c.requires.depth c.in-Some.ensures.steps.0 c.in_ok-lines.ensures c.loop-cell.invariant.made (rw c.new-level.ensures.depth at c.in_err-read.ensures.read))

-- the lines of a cell are dropped in one of two ways: with the places of those that have text, or without any
pub entries_of-loop-cell-preserved : goal.entries_of-loop-cell-preserved
entries_of-loop-cell-preserved t c = record {
  frames = c.in_ok-read.ensures.frames ∙ c.loop-cell.invariant.frames;
  made = entry_next c.args.depth c.in-Some.cell c.in_ok-lines.lines (into_iter_items c.loop-cell.cell-iterator) _ c.read.new.level c.loop-cell.entries c.put_entry.new.entries _ c.loop-cell.pass.numbers
      c.read.new.pass.numbers _ c.requires.inner c.requires.depth (c.in_ok-read.ensures.depth ∙ c.new-level.ensures.depth) c.in-Some.ensures.steps.0 c.in_ok-lines.ensures (rw c.new-level.ensures.depth at c.in_ok-read.ensures.read) refl c.in_ok-put_entry.ensures c.loop-cell.invariant.made;
  paid = some_read _ _ _ _ _ _ _ c.loop-cell.invariant.paid (next_cell c.args.depth (into_iter_items c.loop-cell.cell-iterator) _ c.in-Some.cell c.in_ok-lines.lines c.requires.inner c.in-Some.ensures.steps.0 c.in_ok-lines.ensures)
      (rw c.new-level.ensures.depth at c.in_ok-read.ensures.paid);
}

pub entries_of-loop-cell-preserved-in_ok-put_entry : goal.entries_of-loop-cell-preserved-in_ok-put_entry
entries_of-loop-cell-preserved-in_ok-put_entry t c = record {
  frames = c.in_ok-read.ensures.frames ∙ c.loop-cell.invariant.frames;
  made = entry_next c.args.depth c.in-Some.cell c.in_ok-lines.lines (into_iter_items c.loop-cell.cell-iterator) _ c.read.new.level c.loop-cell.entries c.put_entry.new.entries _ c.loop-cell.pass.numbers
      c.read.new.pass.numbers _ c.requires.inner c.requires.depth (c.in_ok-read.ensures.depth ∙ c.new-level.ensures.depth) c.in-Some.ensures.steps.0 c.in_ok-lines.ensures (rw c.new-level.ensures.depth at c.in_ok-read.ensures.read) refl c.in_ok-put_entry.ensures c.loop-cell.invariant.made;
  paid = some_read _ _ _ _ _ _ _ c.loop-cell.invariant.paid (next_cell c.args.depth (into_iter_items c.loop-cell.cell-iterator) _ c.in-Some.cell c.in_ok-lines.lines c.requires.inner c.in-Some.ensures.steps.0 c.in_ok-lines.ensures)
      (rw c.new-level.ensures.depth at c.in_ok-read.ensures.paid);
}

pub entries_of-returns-clause-entries : goal.entries_of-returns-clause-entries
entries_of-returns-clause-entries t c =
    let none : into_iter_items c.loop-cell.cell-iterator ≡ [] = nil_from_length _ (sym c.loop-cell.cell-iterator.rest.ok.0 ∙ c.in-None.ensures.steps.0) in
    sym (each_ends (entry_of (within_at (c.args.depth - 1))) (into_iter_items c.loop-cell.cell-iterator) c.loop-cell.entries c.loop-cell.pass.numbers _ none c.loop-cell.invariant.made)

pub entries_of-returns-clause-paid : goal.entries_of-returns-clause-paid
entries_of-returns-clause-paid t c =
    let none : into_iter_items c.loop-cell.cell-iterator ≡ [] = nil_from_length _ (sym c.loop-cell.cell-iterator.rest.ok.0 ∙ c.in-None.ensures.steps.0) in
    row_paid (c.args.depth - 1) c.args.cells.items (into_iter_items c.loop-cell.cell-iterator) _ _ none c.loop-cell.invariant.paid
