-- A table that gets a title and options has at most two levels more than its content, and its texts have a property that those in the content have.
use Rattle.std.proofs.Common.{ℕ, ◌+◌, ◌-◌, List, [], ◌∷◌, ◌++◌, Option, None, Some, map, take, drop, arith, refl}
use Rattle.std.specs.Option.{IfSome}
use Rattle.std.proofs.lemmas.Bool.{cond_both}
use Rattle.rst_tree.specs.Forest.{Forest}
use Rattle.rst_tree.specs.KeyNames.{is_same}
use Rattle.rst_tree.specs.Nodes.{nodes_of}
use Rattle.rst_tree.specs.declared.attrs.Attr.{Attr}
use Rattle.rst_tree.specs.declared.attrs.Value.{Value}
use Rattle.rst_tree.specs.declared.attrs.Value.TheVariants.{Number}
use Rattle.rst_tree.specs.declared.key.Key.{Key}
use Rattle.rst_tree.specs.declared.key.Key.TheVariants.{Classes, Colwidth, TextMessages}
use Rattle.rst_tree.specs.declared.node.Node.{Node}
use Rattle.rst_tree.specs.declared.node.Node.TheVariants.{Element, Text}
use Rattle.rst_tree.specs.declared.tag.Tag.{Tag}
use Rattle.rst_tree.specs.declared.tag.Tag.TheVariants.{Table as TableTag, Tgroup}
use Rattle.rst_markup_directives.specs.Widths.{Columns, given}
use Rattle.rst_block_nodes.specs.TableOfContents.{uncounted}
use Rattle.rst_block_nodes.specs.TableRequests.{Asked}
use Rattle.rst_block_nodes.specs.TitledTables.{TableParts, only_table, table_in, resized, resized_all, resized_element, retitled, table_parts, with_given, with_last_class, with_option, with_title, with_width, with_widths}
use Rattle.rst_tree_laws.proofs.Have.{with_attr_has, without_key_has}
use Rattle.rst_tree_laws.proofs.Lists.{all_append, all_drop, all_map, all_take}
use Rattle.rst_tree_laws.specs.Texts.{AttrsHave, ValueHas, becomes_text}
use Rattle.rst_block_laws.proofs.Fits.{AllFit, Fits, ForestFits, fit_more, fit_nodes, open_fits}
use Rattle.rst_block_laws.proofs.Weights.{Open, is_flat, weight, weighed_more}

module _ (T : List ℕ → Type 0) where
  -- ---- the title

  uncounted_fits : (j : ℕ) (n : Node) → Fits T j n → Fits T j (uncounted n)
  uncounted_fits j (Element t a content line) h = (h.0, (without_key_has T TextMessages a h.1.0, h.1.1))
  uncounted_fits j (Text t) h = h

  pub title_fits : (k : ℕ) (t : Tag) (a : List Attr) (start nodes : List Node) (line : ℕ) → Open t → AttrsHave T a → AllFit T (k + 1) start → AllFit T (k + 1) nodes → AllFit T (k + 2) (with_title t a start nodes line)
  title_fits k t a start nodes line any own s n =
      let title : AllFit T (k + 1) (map uncounted (take 1 start)) = all_map (Fits T (k + 1)) (Fits T (k + 1)) uncounted (uncounted_fits (k + 1)) (take 1 start) (all_take _ 1 start s) in
      let content : AllFit T (k + 1) (map uncounted (take 1 start) ++ nodes) = all_append (Fits T (k + 1)) (map uncounted (take 1 start)) nodes title n in
      (open_fits T t a line (k + 1) (k + 2) _ any own content (omega arith), fit_more T (k + 1) (k + 2) (drop 1 start) (omega arith) (all_drop _ 1 start s))

  -- ---- the content

  -- the parts of a table
  abbrev pub PartsFit : ℕ → TableParts → Type 0
  PartsFit j table = AttrsHave T table.0 × AllFit T (j - 1) table.1

  parts_fit : (t : Tag) (a : List Attr) (c : Forest) (line j : ℕ) → AttrsHave T a → ForestFits T (j - 1) c → IfSome (table_parts t a c line) (PartsFit j)
  parts_fit TableTag a c line j own h = (own, fit_nodes T (j - 1) c h)
  parts_fit _ a c line j own h = tt

  node_parts_fit : (n : Node) (j : ℕ) → Fits T j n → IfSome (table_in n) (PartsFit j)
  node_parts_fit (Element t a c l) j h = parts_fit t a c l j h.1.0 (omega (arith, h.0, weighed_more (is_flat t c) (weight c)), h.1.1)
  node_parts_fit (Text t) j h = tt

  pub only_table_fits : (j : ℕ) (ns : List Node) → AllFit T j ns → IfSome (only_table ns) (PartsFit j)
  only_table_fits j [] h = tt
  only_table_fits j (n ∷ []) h = node_parts_fit n j h.0
  only_table_fits j (n ∷ p ∷ ns) h = tt

  -- ---- its columns

  width_fits : (j width : ℕ) (n : Node) → Fits T j n → Fits T j (with_width width n)
  width_fits j width (Element t a c l) h = (h.0, (with_attr_has T Colwidth (Number width) a tt h.1.0, h.1.1))
  width_fits j width (Text t) h = h

  widths_fit : (j : ℕ) (widths : List ℕ) (ns : List Node) → AllFit T j ns → AllFit T j (with_widths widths ns)
  widths_fit j [] ns h = h
  widths_fit j (w ∷ ws) [] h = tt
  widths_fit j (w ∷ ws) (n ∷ ns) h = (width_fits j w n h.0, widths_fit j ws ns h.1)

  element_fits : (j : ℕ) (widths : List ℕ) (t : Tag) (a : List Attr) (c : Forest) (l : ℕ) → Fits T j (Element t a c l) → Fits T j (resized_element t widths a c l)
  element_fits j widths Tgroup a c l h =
      let inside : AllFit T (j - 1) (nodes_of c) = fit_nodes T (j - 1) c (omega (arith, h.0, weighed_more (is_flat Tgroup c) (weight c)), h.1.1) in
      open_fits T Tgroup a l (j - 1) j (with_widths widths (nodes_of c)) (λ c. refl) h.1.0 (widths_fit (j - 1) widths (nodes_of c) inside) (omega (arith, h.0, weighed_more (is_flat Tgroup c) (weight c)))
  element_fits j widths _ a c l h = h

  resized_fits : (j : ℕ) (widths : List ℕ) (n : Node) → Fits T j n → Fits T j (resized widths n)
  resized_fits j widths (Element t a c l) h = element_fits j widths t a c l h
  resized_fits j widths (Text t) h = h

  resized_fit : (j : ℕ) (columns : Option Columns) (ns : List Node) → AllFit T j ns → AllFit T j (resized_all columns ns)
  resized_fit j (Some (given widths)) ns h = all_map (Fits T j) (Fits T j) (resized widths) (resized_fits j widths) ns h
  resized_fit j _ ns h = h

  -- ---- its attributes

  option_has : (k : Key) (v : Value) (attrs : List Attr) → ValueHas T (becomes_text k) v → AttrsHave T attrs → AttrsHave T (with_option k v attrs)
  option_has k v attrs h own =
      cond_both (is_same k Classes) _ _ (AttrsHave T) (λ e. with_attr_has T Classes _ _ tt (without_key_has T Classes attrs own)) (λ e. with_attr_has T k v attrs h own)

  given_has : (options attrs : List Attr) → AttrsHave T options → AttrsHave T attrs → AttrsHave T (with_given options attrs)
  given_has [] attrs h own = own
  given_has (o ∷ more) attrs h own = given_has more (with_option o.key o.value attrs) h.1 (option_has o.key o.value attrs h.0 own)

  last_has : (columns : Option Columns) (attrs : List Attr) → AttrsHave T attrs → AttrsHave T (with_last_class columns attrs)
  last_has None attrs own = own
  last_has (Some columns) attrs own = with_attr_has T Classes _ _ tt (without_key_has T Classes attrs own)

  -- ---- the table

  pub retitled_fits : (k : ℕ) (start : Node) (asked : Asked) (table : TableParts) → Fits T (k + 2) start → PartsFit k table → AllFit T (k + 2) (retitled start asked table)
  retitled_fits k (Element t options c l) asked (a, nodes, line) h p =
      let inside : AllFit T (k + 1) (nodes_of c) = fit_nodes T (k + 1) c (omega (arith, h.0, weighed_more (is_flat t c) (weight c)), h.1.1) in
      let own : AllFit T (k - 1) (resized_all asked.columns nodes) = resized_fit (k - 1) asked.columns nodes p.1 in
      title_fits k TableTag (with_last_class asked.columns (with_given options a)) (nodes_of c) (resized_all asked.columns nodes) line (λ c. refl) (last_has asked.columns (with_given options a) (given_has options a h.1.0 p.0)) inside
      (fit_more T (k - 1) (k + 1) (resized_all asked.columns nodes) (omega arith) own)
  retitled_fits k (Text t) asked table h p = (h, tt)
