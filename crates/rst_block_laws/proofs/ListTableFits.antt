-- A table that is made of lists has at most two levels more than these, and its texts have a property that those in the lists have.
use Rattle.std.proofs.Common.{ℕ, ◌+◌, ◌-◌, ◌≤◌, List, [], ◌∷◌, ◌++◌, Option, None, Some, map, take, drop, length, arith, refl}
use Rattle.std.specs.Prelude.{if◌then◌else◌, nat_lt, unwrap_or}
use Rattle.std.specs.Option.{IfSome}
use Rattle.std.proofs.lemmas.Bool.{cond_both}
use Rattle.rst_tree.specs.Attributes.{attr}
use Rattle.rst_tree.specs.Forest.{Forest, bare}
use Rattle.rst_tree.specs.Nodes.{children_in, nodes_of}
use Rattle.rst_tree.specs.declared.attrs.Attr.{Attr}
use Rattle.rst_tree.specs.declared.attrs.Value.TheVariants.{Number}
use Rattle.rst_tree.specs.declared.key.Key.TheVariants.{Classes, Cols}
use Rattle.rst_tree.specs.declared.node.Node.{Node}
use Rattle.rst_tree.specs.declared.node.Node.TheVariants.{Element, Text}
use Rattle.rst_tree.specs.declared.tag.Tag.{Tag}
use Rattle.rst_tree.specs.declared.tag.Tag.TheVariants.{BulletList, Entry, Row, Tbody, Tgroup, Thead}
use Rattle.rst_markup_directives.specs.Widths.{Columns}
use Rattle.rst_block_nodes.specs.Elements.{element_of}
use Rattle.rst_block_nodes.specs.TableRequests.{Asked}
use Rattle.rst_block_nodes.specs.ListTables.{column_attrs, column_count, column_widths, columns_of, entry_of, items_in, made_table, only_list, row_cells, row_groups, row_of, table_group, with_width_class}
use Rattle.rst_tree_laws.proofs.Have.{with_attr_has, without_key_has}
use Rattle.rst_tree_laws.proofs.Lists.{all_append, all_drop, all_map, all_take}
use Rattle.rst_tree_laws.specs.Texts.{AttrsHave}
use Rattle.rst_block_laws.proofs.Fits.{AllFit, Fits, ForestFits, fit_more, fit_nodes, open_fits}
use Rattle.rst_block_laws.proofs.TitledTableFits.{title_fits}
use Rattle.rst_block_laws.proofs.Weights.{HoldsAny, is_flat, light_at, weight, weighed_more}

module _ (T : List ℕ → Type 0) where
  -- ---- the lists

  items_fit : (t : Tag) (content : Forest) (j : ℕ) → ForestFits T j content → IfSome (items_in t content) (AllFit T j)
  items_fit BulletList content j h = fit_nodes T j content h
  items_fit _ content j h = tt

  pub only_fit : (j : ℕ) (ns : List Node) → AllFit T j ns → IfSome (only_list ns) (AllFit T (j - 1))
  only_fit j [] h = tt
  only_fit j (Element t a c l ∷ []) h = items_fit t c (j - 1) (omega (arith, h.0.0, weighed_more (is_flat t c) (weight c)), h.0.1.1)
  only_fit j (Text t ∷ []) h = tt
  only_fit j (n ∷ p ∷ ns) h = tt

  inside_fit : (j : ℕ) (n : Node) → Fits T j n → AllFit T (j - 1) (nodes_of (children_in n))
  inside_fit j (Element t a c l) h = fit_nodes T (j - 1) c (omega (arith, h.0, weighed_more (is_flat t c) (weight c)), h.1.1)
  inside_fit j (Text t) h = tt

  cells_fit : (j : ℕ) (item : Node) → Fits T j item → AllFit T (j - 1 - 1) (unwrap_or (row_cells item) [])
  cells_fit j item h = elim (row_cells item) as (λ o. IfSome o (AllFit T (j - 1 - 1)) → AllFit T (j - 1 - 1) (unwrap_or o [])) [
    | None ↦ λ k. tt
    | Some cells ↦ λ k. k
  ] (only_fit (j - 1) (nodes_of (children_in item)) (inside_fit j item h))

  -- ---- rows and columns

  entry_fits : (j : ℕ) (item : Node) → Fits T j item → Fits T j (entry_of item)
  entry_fits j (Element t a c l) h = (light_at Entry c j refl (omega (arith, h.0, weighed_more (is_flat t c) (weight c))), (tt, h.1.1))
  entry_fits j (Text t) h = (light_at Entry bare j refl (omega (arith, h.0)), (tt, tt))

  row_fits : (j : ℕ) → 2 ≤ j → (item : Node) → Fits T j item → Fits T j (row_of item)
  row_fits j enough item h =
      let cells = unwrap_or (row_cells item) [] in
      open_fits T Row [] 0 (j - 1 - 1) j (map entry_of cells) (λ c. refl) tt (all_map (Fits T (j - 1 - 1)) (Fits T (j - 1 - 1)) entry_of (entry_fits (j - 1 - 1)) cells (cells_fit j item h)) (omega arith)

  columns_fit : (stubs : ℕ) (widths : List ℕ) (line : ℕ) → AllFit T 1 (columns_of stubs widths line)
  columns_fit stubs [] line = tt
  columns_fit stubs (w ∷ ws) line =
      let own : AttrsHave T (column_attrs stubs w) = cond_both (nat_lt 0 stubs) _ _ (AttrsHave T) (λ e. (tt, (tt, tt))) (λ e. (tt, tt)) in
      ((omega arith, (own, tt)), columns_fit (stubs - 1) ws line)

  groups_fit : (j heads : ℕ) (rows : List Node) → AllFit T j rows → AllFit T (j + 1) (row_groups heads rows)
  groups_fit j heads rows h =
      let head : AllFit T (j + 1) (if nat_lt 0 heads then element_of Thead [] (take heads rows) 0 ∷ [] else []) =
      cond_both (nat_lt 0 heads) _ _ (AllFit T (j + 1)) (λ e. (open_fits T Thead [] 0 j (j + 1) (take heads rows) (λ c. refl) tt (all_take _ heads rows h) (omega arith), tt)) (λ e. tt) in
      all_append (Fits T (j + 1)) _ (element_of Tbody [] (drop heads rows) 0 ∷ []) head (open_fits T Tbody [] 0 j (j + 1) (drop heads rows) (λ c. refl) tt (all_drop _ heads rows h) (omega arith), tt)

  group_fits : (j : ℕ) → 2 ≤ j → (asked : Asked) (line : ℕ) (items : List Node) → AllFit T j items → Fits T (j + 2) (table_group asked line items)
  group_fits j enough asked line items h =
      let widths = column_widths (column_count items) asked.columns in
      let rows : AllFit T (j + 1) (row_groups asked.heads (map row_of items)) = groups_fit j asked.heads (map row_of items) (all_map (Fits T j) (Fits T j) row_of (row_fits j enough) items h) in
      open_fits T Tgroup (attr Cols (Number (length widths)) ∷ []) line (j + 1) (j + 2) (columns_of asked.stubs widths line ++ row_groups asked.heads (map row_of items)) (λ c. refl) (tt, tt)
      (all_append (Fits T (j + 1)) (columns_of asked.stubs widths line) _ (fit_more T 1 (j + 1) (columns_of asked.stubs widths line) (omega arith) (columns_fit asked.stubs widths line)) rows) (omega arith)

  -- ---- the table

  class_has : (columns : Option Columns) (a : List Attr) → AttrsHave T a → AttrsHave T (with_width_class columns a)
  class_has None a h = h
  class_has (Some columns) a h = with_attr_has T Classes _ _ tt (without_key_has T Classes a h)

  pub table_fit : (k : ℕ) → 3 ≤ k → (start : Node) (asked : Asked) (line : ℕ) (items : List Node) → HoldsAny start → Fits T (k + 2) start → AllFit T (k - 1) items → AllFit T (k + 2) (made_table start asked line items)
  table_fit k some (Element t a c l) asked line items any h low =
      let inside : AllFit T (k + 1) (nodes_of c) = fit_nodes T (k + 1) c (omega (arith, h.0, weighed_more (is_flat t c) (weight c)), h.1.1) in
      let group = group_fits (k - 1) (omega arith) asked line items low in
      title_fits T k t (with_width_class asked.columns a) (nodes_of c) (table_group asked line items ∷ []) l any (class_has asked.columns a h.1.0) inside ((omega (arith, group.0), group.1), tt)
  table_fit k some (Text t) asked line items any h low = (h, tt)
