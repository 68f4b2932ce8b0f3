-- A table has at most five levels more than what its cells hold, and its texts have a property that those in its cells have.
use Rattle.std.proofs.Common.{◌≡◌, ℕ, ◌+◌, Bool, true, List, [], ◌∷◌, ◌++◌, Some, codes, decimal, length, map, take, drop, arith, refl}
use Rattle.std.specs.Prelude.{◌==◌, nat_lt}
use Rattle.std.specs.List.{list_all}
use Rattle.std.proofs.lemmas.Bool.{cond_both}
use Rattle.rst_text.specs.Block.{Block, first_number}
use Rattle.rst_tree.specs.Attributes.{attr}
use Rattle.rst_tree.specs.declared.attrs.Value.TheVariants.{Number}
use Rattle.rst_tree.specs.declared.key.Key.TheVariants.{Cols}
use Rattle.rst_tree.specs.declared.node.Node.{Node}
use Rattle.rst_tree.specs.declared.note.Level.TheVariants.{Error}
use Rattle.rst_tree.specs.declared.tag.Tag.TheVariants.{Entry, Row, Table as TableTag, Tbody, Tgroup, Thead}
use Rattle.rst_markup_blocks.specs.Partition.{Span}
use Rattle.rst_markup_tables.specs.Messages.{malformed_text}
use Rattle.rst_markup_tables.specs.declared.results.Cell.{Cell}
use Rattle.rst_markup_tables.specs.declared.results.TableDetail.{TableDetail}
use Rattle.rst_markup_tables.specs.declared.results.TableDetail.TheVariants.{ColumnSpan, Margin, TwoHeadRules}
use Rattle.rst_markup_tables.specs.declared.results.TableResult.{TableResult}
use Rattle.rst_markup_tables.specs.declared.results.TableResult.TheVariants.{Malformed, Table}
use Rattle.rst_block_nodes.specs.Elements.{colspec_node, element_of, morecols_attrs, morerows_attrs, tgroup_node}
use Rattle.rst_block_nodes.specs.Sections.{filled}
use Rattle.rst_block_state.specs.Tables.{entry_of, head_nodes, row_of, table_node, table_nodes}
use Rattle.rst_block_state.specs.Texts.{span_source}
use Rattle.rst_block_state.specs.Within.{Within}
use Rattle.rst_block_laws.proofs.CellTexts.{CellsKept, RowKept}
use Rattle.rst_tree_laws.proofs.Decimals.{decimal_fixed}
use Rattle.rst_block_laws.proofs.Fits.{AllFit, Fits, filled_fits, message_fits, open_fits}
use Rattle.rst_block_laws.proofs.Gives.{Gives, after, each_gives, give}
use Rattle.rst_block_laws.proofs.LineTexts.{source_has}
use Rattle.rst_tree_laws.proofs.Lists.{all_append, all_drop, all_made, all_take}
use Rattle.rst_tree_laws.proofs.Properties.{Suited, fixed_has}
use Rattle.rst_tree_laws.specs.Texts.{AttrsHave, BlockKept, is_fixed}

malformed_fixed : (d : TableDetail) → list_all is_fixed (malformed_text d) ≡ true
malformed_fixed (TwoHeadRules first second) = decimal_fixed first (codes " and " ++ (decimal second ++ codes "); only one allowed.")) (decimal_fixed second (codes "); only one allowed.") refl)
malformed_fixed (ColumnSpan line) = decimal_fixed line (codes ".") refl
malformed_fixed (Margin line) = decimal_fixed line (codes ".") refl
malformed_fixed _ = refl

module _ (P : ℕ → Bool) (T : List ℕ → Type 0) (s : Suited P T) (c : Within) (m : ℕ) (inside : (B : Block) → BlockKept P B → Gives (AllFit T m) (c.inner B)) where
  table_fits : (widths : List ℕ) (n : ℕ) (rows : List Node) (line : ℕ) → AllFit T (m + 2) rows → Fits T (m + 5) (table_node widths n rows line)
  table_fits widths n rows line h =
      let parts : List Node = head_nodes n rows ++ element_of Tbody [] (drop n rows) 0 ∷ [] in
      let head : AllFit T (m + 3) (head_nodes n rows) =
      cond_both (nat_lt 0 n) _ _ (AllFit T (m + 3)) (λ e. (open_fits T Thead [] 0 (m + 2) (m + 3) (take n rows) (λ c. refl) tt (all_take _ n rows h) (omega arith), tt)) (λ e. tt) in
      let body = open_fits T Tbody [] 0 (m + 2) (m + 3) (drop n rows) (λ c. refl) tt (all_drop _ n rows h) (omega arith) in
      let fit : AllFit T (m + 3) parts = all_append _ (head_nodes n rows) (element_of Tbody [] (drop n rows) 0 ∷ []) head (body, tt) in
      let columns = all_made (Fits T 1) (colspec_node line) widths (λ w. (omega arith, ((tt, tt), tt))) in
      let group = open_fits T Tgroup (attr Cols (Number (length widths)) ∷ []) line 1 (m + 4) (map (colspec_node line) widths) (λ c. refl) (tt, tt) columns (omega arith) in
      let filled_group = filled_fits T (tgroup_node widths line) parts (m + 3) (m + 4) (λ c. refl) group fit (omega arith) in
      open_fits T TableTag [] line (m + 4) (m + 5) (filled (tgroup_node widths line) parts ∷ []) (λ c. refl) tt (filled_group, tt) (omega arith)

  entry_fits : (cell : Cell) → BlockKept P cell.lines → Gives (Fits T (m + 1)) (entry_of c cell)
  entry_fits cell h =
      let columns : AttrsHave T (morecols_attrs cell.morecols) = cond_both (cell.morecols == 0) _ _ (AttrsHave T) (λ e. tt) (λ e. (tt, tt)) in
      let rows : AttrsHave T (morerows_attrs cell.morerows) = cond_both (cell.morerows == 0) _ _ (AttrsHave T) (λ e. tt) (λ e. (tt, tt)) in
      after (inside cell.lines h) (λ nodes fit. give (open_fits T Entry _ 0 m (m + 1) nodes (λ c. refl) (all_append _ (morecols_attrs cell.morecols) (morerows_attrs cell.morerows) columns rows) fit (omega arith)))

  row_fits : (cells : List Cell) → RowKept P cells → Gives (Fits T (m + 2)) (row_of c cells)
  row_fits cells h =
      after (each_gives (λ (cell : Cell). BlockKept P cell.lines) (Fits T (m + 1)) (entry_of c) entry_fits cells h)
      (λ entries fit. give (open_fits T Row [] 0 (m + 1) (m + 2) entries (λ c. refl) tt fit (omega arith)))

  pub tables_fit : (B : Block) (g : Span) (t : TableResult) → BlockKept P B → CellsKept P t → Gives (AllFit T (m + 5)) (table_nodes c B g t)
  tables_fit B g (Table widths n rows end) h k =
      after (each_gives (RowKept P) (Fits T (m + 2)) (row_of c) row_fits rows k) (λ made fit. give (table_fits widths n made (first_number (drop g.start B)) fit, tt))
  tables_fit B g (Malformed end fault) h k =
      give (message_fits T (m + 5) (omega arith) Error (first_number (drop g.start B)) (malformed_text fault.detail) (Some (span_source B g)) (fixed_has P T s (malformed_text fault.detail) (malformed_fixed fault.detail)) (source_has P T s B g h), tt)
