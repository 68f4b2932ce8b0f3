-- A table that a directive makes has at most two levels more than its content, and its texts have a property that those in the content have. So has the
-- ERROR in its place.
use Rattle.std.proofs.Common.{◌≡◌, ℕ, ◌+◌, ◌-◌, ◌≤◌, Bool, true, List, [], ◌∷◌, ◌++◌, None, Some, codes, decimal, arith, refl, subst}
use Rattle.std.specs.List.{list_all}
use Rattle.std.specs.Option.{IfSome}
use Rattle.std.proofs.lemmas.Bool.{and_from, and_parts}
use Rattle.std.proofs.lemmas.List.{append-nil}
use Rattle.rst_tree.specs.declared.node.Node.{Node}
use Rattle.rst_tree.specs.declared.note.Level.TheVariants.{Error}
use Rattle.rst_block_nodes.specs.ListTables.{list_table_by, only_list, table_fault, table_or_fault}
use Rattle.rst_block_nodes.specs.TableFaults.{table_fault_text, widths_fault}
use Rattle.rst_block_nodes.specs.TableRequests.{Asked}
use Rattle.rst_block_nodes.specs.TitledTables.{columns_among, only_table, retitled_or_fault, titled_table_by}
use Rattle.rst_block_nodes.specs.declared.table_faults.TableDirective.{TableDirective}
use Rattle.rst_block_nodes.specs.declared.table_faults.TableDirective.TheVariants.{Table, ListTable}
use Rattle.rst_block_nodes.specs.declared.table_faults.TableFault.{TableFault}
use Rattle.rst_block_nodes.specs.declared.table_faults.TableFault.TheVariants.{FewColumns, FewRows, NoBody, NoInnerList, NoStubless, NotOneList, NotOneTable, OtherWidths, Uneven}
use Rattle.rst_block_state.specs.TableDirectives.{directive_table_nodes, table_or_error}
use Rattle.rst_block_state.specs.Texts.{message_with_lines}
use Rattle.rst_tree_laws.proofs.Decimals.{decimal_fixed}
use Rattle.rst_tree_laws.proofs.Properties.{Suited, fixed_has}
use Rattle.rst_tree_laws.specs.Texts.{is_fixed}
use Rattle.rst_block_laws.proofs.Fits.{AllFit, Fits, message_fits}
use Rattle.rst_block_laws.proofs.ListTableFits.{only_fit, table_fit}
use Rattle.rst_block_laws.proofs.TitledTableFits.{PartsFit, only_table_fits, retitled_fits}
use Rattle.rst_block_laws.proofs.Weights.{HoldsAny}

text_fixed : (a b : List ℕ) → list_all is_fixed a ≡ true → list_all is_fixed b ≡ true → list_all is_fixed (a ++ b) ≡ true
text_fixed [] b p q = q
text_fixed (c ∷ cs) b p q = let parts = and_parts (is_fixed c) (list_all is_fixed cs) p in and_from (is_fixed c) (list_all is_fixed (cs ++ b)) parts.0 (text_fixed cs b parts.1 q)

counted_fixed : (a : List ℕ) (n : ℕ) (b : List ℕ) → list_all is_fixed a ≡ true → list_all is_fixed b ≡ true → list_all is_fixed (a ++ decimal n ++ b) ≡ true
counted_fixed a n b p q =
    let number : list_all is_fixed (decimal n) ≡ true = subst (λ t. list_all is_fixed t ≡ true) (append-nil (decimal n)) (decimal_fixed n [] refl) in
    text_fixed (a ++ decimal n) b (text_fixed a (decimal n) p number) q

few_fixed : (n : ℕ) (a : List ℕ) (m : ℕ) (b : List ℕ) → list_all is_fixed a ≡ true → list_all is_fixed b ≡ true → list_all is_fixed (decimal n ++ a ++ decimal m ++ b) ≡ true
few_fixed n a m b p q = counted_fixed (decimal n ++ a) m b (decimal_fixed n a p) q

fault_fixed : (fault : TableFault) → list_all is_fixed (table_fault_text fault) ≡ true
fault_fixed NotOneTable = refl
fault_fixed NotOneList = refl
fault_fixed (NoInnerList row) = decimal_fixed row (codes " does not contain a second-level bullet list.") refl
fault_fixed (Uneven row cells columns) =
    let before : List ℕ = codes "uniform two-level bullet list expected, but row " in
    let between : List ℕ = codes " does not contain the same number of items as row 1 (" in
    text_fixed (codes "Error parsing content block for the \"list-table\" directive: ")
    (before ++ decimal row ++ between ++ decimal cells ++ codes " vs " ++ decimal columns ++ codes ").") refl
    (counted_fixed (before ++ decimal row ++ between ++ decimal cells ++ codes " vs ") columns (codes ").")
    (counted_fixed (before ++ decimal row ++ between) cells (codes " vs ") (counted_fixed before row between refl refl) refl) refl)
fault_fixed (OtherWidths Table columns) = decimal_fixed columns (codes ").") refl
fault_fixed (OtherWidths ListTable columns) = decimal_fixed columns (codes ").") refl
fault_fixed (FewRows heads rows) = few_fixed heads (codes " header row(s) specified but only ") rows (codes " row(s) of data supplied (\"list-table\" directive).") refl refl
fault_fixed (NoBody rows) = decimal_fixed rows (codes " row(s)); no data remaining for table body, required by \"list-table\" directive.") refl
fault_fixed (FewColumns stubs columns) =
    few_fixed stubs (codes " stub column(s) specified but only ") columns (codes " columns(s) of data supplied (\"list-table\" directive).") refl refl
fault_fixed (NoStubless columns) = decimal_fixed columns (codes " columns(s)); no data remaining for table body, required by \"list-table\" directive.") refl

module _ (P : ℕ → Bool) (T : List ℕ → Type 0) (s : Suited P T) where
  error_fits : (k : ℕ) → 3 ≤ k → (line : ℕ) (lines : List ℕ) → T lines → (fault : TableFault) → Fits T (k + 2) (message_with_lines Error line (table_fault_text fault) lines)
  error_fits k some line lines l fault = message_fits T (k + 2) (omega arith) Error line (table_fault_text fault) (Some lines) (fixed_has P T s (table_fault_text fault) (fault_fixed fault)) l

  pub table_directive_fits : (k : ℕ) → 3 ≤ k → (directive : TableDirective) (line : ℕ) (lines : List ℕ) (start : Node) (asked : Asked) (ns : List Node) → HoldsAny start → Fits T (k + 2) start → T lines → AllFit T k ns
      → AllFit T (k + 2) (directive_table_nodes directive line lines start asked ns)
  table_directive_fits k some Table line lines start asked ns any own l low = elim (only_table ns) as (λ o. IfSome o (PartsFit T k) → AllFit T (k + 2) (table_or_error line lines (titled_table_by o start asked))) [
    | None ↦ λ h. (error_fits k some line lines l NotOneTable, tt)
    | Some table ↦ λ h. elim (widths_fault Table (columns_among table.1) asked.columns) as (λ f. AllFit T (k + 2) (table_or_error line lines (retitled_or_fault f start asked table))) [
      | None ↦ retitled_fits T k start asked table own h
      | Some fault ↦ (error_fits k some line lines l fault, tt)
    ]
  ] (only_table_fits T k ns low)
  table_directive_fits k some ListTable line lines start asked ns any own l low = elim (only_list ns) as (λ o. IfSome o (AllFit T (k - 1)) → AllFit T (k + 2) (table_or_error line lines (list_table_by o start asked line))) [
    | None ↦ λ h. (error_fits k some line lines l NotOneList, tt)
    | Some items ↦ λ h. elim (table_fault asked items) as (λ f. AllFit T (k + 2) (table_or_error line lines (table_or_fault f start asked line items))) [
      | None ↦ table_fit T k some start asked line items any own h
      | Some fault ↦ (error_fits k some line lines l fault, tt)
    ]
  ] (only_fit T k ns low)
