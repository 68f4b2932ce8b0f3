-- Nodes that weigh little and whose texts have a property.
use Rattle.std.proofs.Common.{◌≡◌, ℕ, ◌+◌, ◌-◌, ◌≤◌, max, true, List, [], ◌∷◌, ◌++◌, Option, None, Some, arith, inl, inr}
use Rattle.std.specs.Prelude.{◌==◌}
use Rattle.std.specs.List.{AllByRecursion}
use Rattle.std.specs.Option.{IfSome}
use Rattle.std.proofs.lemmas.Bool.{and_parts, cases_lt, cond_both}
use Rattle.rst_tree.specs.declared.attrs.Attr.{Attr}
use Rattle.rst_tree.specs.declared.node.Node.{Node}
use Rattle.rst_tree.specs.declared.node.Node.TheVariants.{Element, Text}
use Rattle.rst_tree.specs.declared.note.Level.{Level}
use Rattle.rst_tree.specs.declared.tag.Tag.{Tag}
use Rattle.rst_tree.specs.declared.tag.Tag.TheVariants.{SubstitutionDefinition}
use Rattle.rst_tree.specs.Forest.{Forest, bare, element, words}
use Rattle.rst_tree.specs.Nodes.{forest_of, nodes_of}
use Rattle.rst_tree.specs.Tree.{most_levels}
use Rattle.rst_tree_index.specs.Kinds.{is_substitution_reference}
use Rattle.rst_block_nodes.specs.Sections.{Item, filled, plain, titled, title_notes}
use Rattle.rst_block_nodes.specs.Targets.{may_stand_as, may_replace}
use Rattle.rst_block_nodes.specs.Texts.{counting, message_node}
use Rattle.rst_markup_lines.specs.Adornment.{is_punctuation}
use Rattle.rst_tree_laws.specs.Levels.{Low}
use Rattle.rst_tree_laws.specs.Texts.{AttrsHave, NodeHas, NodesHave, TextsHave}
use Rattle.rst_tree_index.specs.Parsed.{levels_by}
use Rattle.rst_tree_laws.proofs.Have.{note_has}
use Rattle.rst_tree_laws.proofs.Lists.{all_append}
use Rattle.rst_block_laws.proofs.Weights.{HoldsAny, Open, is_flat, light_at, node_height_weight, node_weight, stands_by, weighed, weighed_flat, weighed_more, weighed_most, weight}
use borrow.Author.Tests.{leb-true, le-leb}

module _ (T : List ℕ → Type 0) where
  abbrev pub Fits : ℕ → Node → Type 0
  Fits m n = (node_weight n ≤ m) × NodeHas T n

  abbrev pub AllFit : ℕ → List Node → Type 0
  AllFit m ns = AllByRecursion (Fits m) ns

  abbrev pub ForestFits : ℕ → Forest → Type 0
  ForestFits m f = (weight f ≤ m) × TextsHave T f

  -- a node, or a title whose style is of a punctuation character, with its messages and its lines
  abbrev pub ItemFits : ℕ → Item → Type 0
  ItemFits k (plain n) = Fits k n
  ItemFits k (titled t) = (is_punctuation t.style.character ≡ true) × Fits k t.element × AllFit k (title_notes t) × T t.source

  abbrev pub ItemsFit : ℕ → List Item → Type 0
  ItemsFit k items = AllByRecursion (ItemFits k) items

  -- ---- lists of them

  pub fit_more : (m k : ℕ) (ns : List Node) → m ≤ k → AllFit m ns → AllFit k ns
  fit_more m k [] h l = tt
  fit_more m k (n ∷ ns) h l = ((omega (arith, h, l.0.0), l.0.1), fit_more m k ns h l.1)

  pub fit_forest : (m : ℕ) (ns : List Node) → AllFit m ns → ForestFits m (forest_of ns)
  fit_forest m [] h = (omega arith, tt)
  fit_forest m (Element t a c l ∷ ns) h = let more = fit_forest m ns h.1 in (omega (arith, h.0.0, more.0), (h.0.1.0, h.0.1.1, more.1))
  fit_forest m (Text t ∷ ns) h = let more = fit_forest m ns h.1 in (omega (arith, h.0.0, more.0), (h.0.1, more.1))

  pub fit_nodes : (m : ℕ) (f : Forest) → ForestFits m f → AllFit m (nodes_of f)
  fit_nodes m bare h = tt
  fit_nodes m (element t a c l r) h = ((omega (arith, h.0), (h.1.0, h.1.1)), fit_nodes m r (omega (arith, h.0), h.1.2))
  fit_nodes m (words t r) h = ((omega (arith, h.0), h.1.0), fit_nodes m r (omega (arith, h.0), h.1.1))

  pub fit_low : (m : ℕ) (ns : List Node) → AllFit m ns → Low m ns
  fit_low m [] h = tt
  fit_low m (n ∷ ns) h = (omega (arith, h.0.0, node_height_weight n), fit_low m ns h.1)

  pub fit_have : (m : ℕ) (ns : List Node) → AllFit m ns → NodesHave T ns
  fit_have m [] h = tt
  fit_have m (n ∷ ns) h = (h.0.1, fit_have m ns h.1)

  -- ---- elements

  pub open_fits : (t : Tag) (a : List Attr) (l m j : ℕ) (ns : List Node) → Open t → AttrsHave T a → AllFit m ns → m + 1 ≤ j → Fits j (Element t a (forest_of ns) l)
  open_fits t a l m j ns any own h e = let f = fit_forest m ns h in (light_at t (forest_of ns) j (any (forest_of ns)) (omega (arith, f.0)), (own, f.1))

  pub filled_fits : (n : Node) (more : List Node) (m j : ℕ) → HoldsAny n → Fits j n → AllFit m more → m + 1 ≤ j → Fits j (filled n more)
  filled_fits (Element t a c l) more m j any h k e =
      let own : AllFit (j - 1) (nodes_of c) = fit_nodes (j - 1) c (omega (arith, h.0, weighed_more (is_flat t c) (weight c)), h.1.1) in
      open_fits t a l (j - 1) j (nodes_of c ++ more) any h.1.0 (all_append (Fits (j - 1)) (nodes_of c) more own (fit_more m (j - 1) more (omega arith) k)) (omega arith)
  filled_fits (Text t) more m j any h k e = h

  pub counting_has : (n : ℕ) → AttrsHave T (counting n)
  counting_has n = cond_both (n == 0) _ _ (AttrsHave T) (λ e. tt) (λ e. (tt, tt))

  pub message_has : (level : Level) (line : ℕ) (text : List ℕ) (block : Option (List ℕ)) → T text → IfSome block T → NodeHas T (message_node level line text block)
  message_has level line text block h k = ((tt, tt), note_has T text block line h k)

  pub message_fits : (j : ℕ) → 3 ≤ j → (level : Level) (line : ℕ) (text : List ℕ) (block : Option (List ℕ)) → T text → IfSome block T → Fits j (message_node level line text block)
  message_fits j some level line text None h k = (omega arith, message_has level line text None h k)
  message_fits j some level line text (Some lines) h k = (omega arith, message_has level line text (Some lines) h k)

  held_flat : (k : ℕ) (ns : List Node) → k ≤ most_levels → AllFit k ns → may_replace ns ≡ true → levels_by 2 (forest_of ns) ≤ 2
  held_flat k [] e h m = omega arith
  held_flat k (Text t ∷ ns) e h m = let j = held_flat k ns e h.1 m in omega arith
  held_flat k (Element t a c l ∷ ns) e h m =
      let may = and_parts (may_stand_as t a c) _ m in
      let flat : is_flat t c ≡ true = weighed_flat k (is_flat t c) (weight c) h.0.0 e in
      let low = leb-true (levels_by 2 c) 1 (rw (stands_by t a c may.0) at flat) in
      let j = held_flat k ns e h.1 may.1 in
      cond_both (is_substitution_reference t) 2 0 (λ n. max (levels_by 2 c + 1) (max n (levels_by 2 (forest_of ns))) ≤ 2) (λ _. omega arith) (λ _. omega arith)

  -- a definition that holds nodes which may replace a reference
  pub definition_fits : (k : ℕ) (ns : List Node) → AllFit k ns → may_replace ns ≡ true → weighed (is_flat SubstitutionDefinition (forest_of ns)) (weight (forest_of ns)) ≤ k + 1
  definition_fits k ns h m =
      let low = (fit_forest k ns h).0 in
      elim (cases_lt k (most_levels + 1)) [
        | inl under ↦ light_at SubstitutionDefinition (forest_of ns) (k + 1) (le-leb _ 2 (held_flat k ns (omega arith) h m)) (omega arith)
        | inr over ↦ weighed_most (k + 1) (is_flat SubstitutionDefinition (forest_of ns)) (weight (forest_of ns)) (omega arith) (omega arith)
      ]
