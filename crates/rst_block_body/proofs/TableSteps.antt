-- A table at the next line of a block: its cells are read next, or it is malformed and its message takes its place.
use Rattle.std.proofs.Common.{◌≡◌, ℕ, ◌+◌, ◌<◌, ◌≤◌, List, [], ◌∷◌, ◌++◌, length, take, drop, map, Option, Some, None, arith, refl, sym, ◌∙◌, ap, inl, inr}
use Rattle.std.proofs.lemmas.List.{map-append}
use Rattle.rst_text.specs.Block.{Block, first_number, first_parts}
use Rattle.rst_tree.specs.declared.node.Node.{Node}
use Rattle.rst_tree.specs.declared.note.Level.TheVariants.{Error}
use Rattle.rst_markup_blocks.specs.Begun.{IsBegun}
use Rattle.rst_markup_blocks.specs.declared.begun.Begun.TheVariants as begun
use Rattle.rst_markup_blocks.specs.declared.lines.LineTest.TheVariants.{Drawn}
use Rattle.rst_markup_blocks.proofs.RowLaws.{while_le}
use Rattle.rst_markup_blocks.proofs.TableLaws.{grid_size_le, simple_size_le}
use Rattle.rst_markup_blocks.specs.TableRows.{grid_bottom, grid_size, simple_size, head_border}
use Rattle.rst_markup_tables.specs.Ends.{end_of}
use Rattle.rst_markup_tables.specs.GridTable.{IsGridTable, grid_fault, head_of, with_dashes, tiled}
use Rattle.rst_markup_tables.specs.Messages.{malformed_text}
use Rattle.rst_markup_tables.specs.Places.{Grid, rows_of}
use Rattle.rst_markup_tables.specs.SimpleTable.{simple_fault, simple_table}
use Rattle.rst_markup_tables.specs.Tiling.{grid_by, grid_table, tiling_of}
use Rattle.rst_markup_tables.specs.declared.results.TableDetail.{TableDetail}
use Rattle.rst_markup_tables.specs.declared.results.TableFault.{TableFault}
use Rattle.rst_markup_tables.specs.declared.results.TableResult.{TableResult}
use Rattle.rst_markup_tables.specs.declared.results.TableResult.TheVariants.{Table, Malformed}
use Rattle.rst_markup_tables.proofs.EndLemmas.{rows-size, simple_by_end}
use Rattle.rst_markup_tables.proofs.RowLemmas.{dashes-length}
use Rattle.rst_markup_tables.proofs.TilingLemmas.{grid_table-is}
use Rattle.rst_block_state.specs.Constructs.{Construct, grid, simple}
use Rattle.rst_block_state.specs.Inside.{opened_by, cell_blocks, cells_by}
use Rattle.rst_block_state.specs.Joins.{alone_ending}
use Rattle.rst_block_state.specs.machine.Meanings.{within_at, done_of, reads, reads_from, comes}
use Rattle.rst_block_state.specs.machine.NextLine.{IsNextConstruct, IsTableAt}
use Rattle.rst_block_state.specs.Nodes.{piece_of, plainly, ending_notes}
use Rattle.rst_block_state.specs.Numbered.{Numbered, then_read, ◌>>=◌, just, before}
use Rattle.rst_block_state.specs.machine.OpenBlocks.{HasMoreAt}
use Rattle.rst_block_state.specs.machine.Rest.{no_run, rest}
use Rattle.rst_block_state.specs.machine.RestLaws.{IsAlone}
use Rattle.rst_block_state.specs.machine.Steps.{IsStep}
use Rattle.rst_block_state.specs.Tables.{table_nodes}
use Rattle.rst_block_state.specs.Texts.{message_with_lines, span_source}
use Rattle.rst_block_state.specs.Titles.{Item, plain}
use Rattle.rst_block_state.specs.Within.{Within}
use Rattle.rst_block_state.specs.declared.open_block.OpenBlock.{OpenBlock}
use Rattle.rst_block_state.specs.declared.step.Step.TheVariants.{Cells}
use Rattle.rst_block_state.proofs.Changes.{reads_from_is, more_is_read}
use Rattle.rst_block_state.proofs.NextConstructs.{next_of, next_some, span_to, next_found, HasEnded, next_alone}
use Rattle.rst_block_state.proofs.NumberedLemmas.{same_after, after_after, before_before, before_then, at_number}

-- ---- where tables end

grid_by_end : (line i : ℕ) (T : Grid) (fault : Option TableDetail) → end_of (grid_by line i T fault) ≡ i + length T
grid_by_end line i T (Some detail) = refl
grid_by_end line i T None = by (tiling_of (with_dashes T (head_of T))) ∙ ap (λ n. i + n) (dashes-length T (head_of T))
  where
    by : (found : _) → end_of (tiled line i (head_of T) (with_dashes T (head_of T)) found) ≡ i + length (with_dashes T (head_of T))
    by None = refl
    by (Some rs) = refl

-- a grid table ends where its row does
grid_end : (B : Block) (i : ℕ) → end_of (grid_table B i) ≡ i + grid_size (drop i B)
grid_end B i =
    let X : Block = drop i B in
    let T : Grid = rows_of (take (grid_size X) X) in
    let inside : grid_size X ≤ length X = omega (arith, grid_size_le X, while_le Drawn X) in
    grid_by_end (first_number X) i T (grid_fault (grid_bottom X) T) ∙ ap (λ n. i + n) (rows-size (grid_size X) X inside)

-- and so does a simple table
simple_end : (B : Block) (i : ℕ) → end_of (simple_table B i) ≡ i + simple_size (drop i B)
simple_end B i =
    let X : Block = drop i B in
    let T : Grid = rows_of (take (simple_size X) X) in
    simple_by_end (first_parts X).unmarked (first_number X) i (head_border X) T (simple_fault X T) ∙ ap (λ n. i + n) (rows-size (simple_size X) X (simple_size_le X))

-- ---- the construct

-- the next construct of a block is this table
pub record IsNextTable (l : OpenBlock) (B : Block) (t : TableResult) : Type 0 where
  pub what : Construct
  pub lines : ℕ
  pub next : IsNextConstruct l B what lines
  pub alone : IsAlone what
  pub ending : alone_ending what ≡ alone_ending grid
  pub piece : (c : Within) → piece_of c B (next_found l what lines) ≡ plainly (table_nodes c B (span_to l.at (l.at + lines)) t)
  pub end : end_of t ≡ l.at + lines
  pub opens : (c : Within) → opened_by what c B l.at (drop l.at B) ≡ []
  pub cells : cells_by what B l.at ≡ cell_blocks t

-- where a grid table begins, what is found is its table
pub grid_there : (B : Block) (i : ℕ) (found : TableResult) → IsBegun (drop i B) begun.Grid → IsGridTable B i found → IsTableAt B i found
grid_there B i found h t = inl (h, grid_table-is B i found t)

-- it is, where a table is found
pub next_table : (l : OpenBlock) (B : Block) (t : TableResult) → IsTableAt B l.at t → IsNextTable l B t
next_table l B t (inl (h, e)) = record {
  what = grid;
  lines = grid_size (drop l.at B);
  next = next_of begun.Grid l B h tt;
  alone = tt;
  ending = refl;
  piece = λ c. ap (λ u. plainly (table_nodes c B (span_to l.at (l.at + grid_size (drop l.at B))) u)) (sym e);
  end = ap end_of e ∙ grid_end B l.at;
  opens = λ c. refl;
  cells = ap cell_blocks (sym e);
}
next_table l B t (inr (h, e)) = record {
  what = simple;
  lines = simple_size (drop l.at B);
  next = next_of begun.Simple l B h tt;
  alone = tt;
  ending = refl;
  piece = λ c. ap (λ u. plainly (table_nodes c B (span_to l.at (l.at + simple_size (drop l.at B))) u)) (sym e);
  end = ap end_of e ∙ simple_end B l.at;
  opens = λ c. refl;
  cells = ap cell_blocks (sym e);
}

-- ---- what the block gives

-- once the open run has ended, the cells of the table come next
pub table_comes : {old mid : OpenBlock} {B : Block} {t : TableResult} {n m : ℕ} → IsNextTable old B t → HasEnded old mid B n m → comes mid B (Cells t) m ≡ reads old B n
table_comes {old} {mid} {B} {t} {n} {m} h e =
    let stop : ℕ = old.at + h.lines in
    let c : Within = within_at old.depth in
    let N : List Node = ending_notes (alone_ending grid) (drop stop B) in
    let R : Numbered (List Item) = rest c B stop no_run in
    let T : Numbered (List Node) = table_nodes c B (span_to old.at stop) t in
    let D : List Item = done_of mid in
    let F : ℕ → ℕ → ℕ → _ = λ depth at end. then_read (λ ns. reads_from mid B (ns ++ ending_notes (alone_ending grid) (drop end B)) end) (table_nodes (within_at depth) B (span_to at end) t m) in
    ap (λ depth. F depth mid.at (end_of t)) e.closed.depth
    ∙ ap (λ at. F old.depth at (end_of t)) e.closed.at
    ∙ ap (λ end. F old.depth old.at end) h.end
    ∙ same_after (T m) (λ ns. reads_from mid B (ns ++ N) stop) (λ ns. just (map plain ns) >>= λ items. before D (before (items ++ map plain N) R))
    (λ ns k. at_number k (reads_from_is mid B (ns ++ N) stop (ap (λ items. D ++ items) (map-append plain ns N)) e.closed.depth e.closed.run) ∙ sym (before_before D (map plain ns ++ map plain N) R k))
    ∙ sym (after_after (T m) (λ ns. just (map plain ns)) (λ items. before D (before (items ++ map plain N) R)))
    ∙ ap (λ (p : Numbered (List Item)). (p >>= λ items. before D (before (items ++ map plain N) R)) m) (sym (h.piece c))
    ∙ sym (before_then D (piece_of c B (next_found old h.what h.lines)) (λ items. before (items ++ map plain N) R) m)
    ∙ ap (λ o. before D (piece_of c B (next_found old h.what h.lines) >>= λ items. before (items ++ map plain (ending_notes o (drop stop B))) R) m) (sym h.ending)
    ∙ sym (next_alone h.next h.alone e)

-- a malformed one is its message, with the WARNING where no blank line follows
pub malformed_reads : {old mid new : OpenBlock} {B : Block} {end : ℕ} {fault : TableFault} {n m : ℕ} → IsNextTable old B (Malformed end fault) → HasEnded old mid B n m
    → HasMoreAt mid new (message_with_lines Error (first_number (drop old.at B)) (malformed_text fault.detail) (span_source B (span_to old.at end)) ∷ ending_notes (alone_ending grid) (drop end B)) end
    → reads new B m ≡ reads old B n
malformed_reads {mid = mid} {B = B} {end = end} {fault = fault} {m = m} h e more =
    at_number m (more_is_read B more)
    ∙ ap (λ i. reads_from mid B (message_with_lines Error (first_number (drop i B)) (malformed_text fault.detail) (span_source B (span_to i end)) ∷ ending_notes (alone_ending grid) (drop end B)) end m) (sym e.closed.at)
    ∙ table_comes h e

-- a table whose cells come next ends after its first line
pub table_steps : (l : OpenBlock) (B : Block) (t : TableResult) (to : ℕ) → IsNextTable l B t → ((end : ℕ) (fault : TableFault) → t ≡ Malformed end fault → ⊥) → to ≡ l.at → l.at < length B
    → IsStep B l.at to (Cells t)
table_steps l B (Table cols head rows end) to h f e i = let stop : end ≡ l.at + h.lines = h.end in (e, i, omega (arith, stop, next_some h.next i))
table_steps l B (Malformed end fault) to h f e i = absurd (f end fault refl)
