-- Elements that hold a text, and line blocks.
use Rattle.std.proofs.Common.{ℕ, Bool, zero, suc, ◌+◌, ◌≤◌, List, [], ◌∷◌, arith, refl}
use Rattle.std.specs.Prelude.{nat_lt}
use Rattle.std.specs.List.{AllByRecursion}
use Rattle.std.proofs.lemmas.Bool.{cond_both}
use Rattle.rst_settings.specs.declared.Parts.{Parts}
use Rattle.rst_text.specs.Block.{Block}
use Rattle.rst_tree.specs.declared.node.Node.{Node}
use Rattle.rst_tree.specs.declared.tag.Tag.{Tag}
use Rattle.rst_tree.specs.declared.tag.Tag.TheVariants.{Line, LineBlock}
use Rattle.rst_markup_blocks.specs.Partition.{Span}
use Rattle.rst_markup_lines.specs.declared.marker.Marker.{Marker}
use Rattle.rst_block_nodes.specs.LineBlocks.{IndentedLine, LinePart, deeper_lines, first_line, least_indent, level_line, line_block, line_parts, part_node, with_deeper}
use Rattle.rst_block_nodes.specs.Readings.{read_notes, texted_node}
use Rattle.rst_block_state.specs.Constructs.{Construct, Found, bar_line}
use Rattle.rst_block_state.specs.LineRuns.{bar_lines, below_bar, indentation_of, indented_lines, line_before, line_nodes, verse_indent, verse_lines, white_len}
use Rattle.rst_block_state.specs.Within.{Within, indented_part}
use Rattle.rst_block_laws.proofs.ElementFits.{texted_fits}
use Rattle.rst_block_laws.proofs.MessageFits.{read_notes_fit}
use Rattle.rst_block_laws.proofs.Fits.{AllFit, Fits, fit_more, open_fits}
use Rattle.rst_block_laws.proofs.Gives.{Gives, after, each_gives, give, gives}
use Rattle.rst_block_laws.proofs.LineTexts.{all_range, joined_kept, lines_kept}
use Rattle.rst_tree_laws.proofs.Lists.{all_append, all_drop, all_flat, all_map}
use Rattle.rst_tree_laws.proofs.Properties.{Suited}
use Rattle.rst_block_laws.proofs.Weights.{Open}
use Rattle.rst_tree_laws.specs.Texts.{BlockKept, Kept}

module _ (P : ℕ → Bool) (T : List ℕ → Type 0) (s : Suited P T) where
  -- an element, and messages
  abbrev pub PairFits : ℕ → ℕ → Node × List Node → Type 0
  PairFits j k made = Fits T j made.0 × AllFit T k made.1

  pub texted_fit : (parts : Parts) (j k : ℕ) → 4 ≤ j → 3 ≤ k → (tag : Tag) (line : ℕ) (t : List ℕ) (text_line first : ℕ) → Open tag → Kept P t
      → PairFits j k (texted_node parts tag line t text_line first, read_notes parts t text_line first)
  texted_fit parts j k e f tag line t text_line first any h = let own = texted_fits P T s parts tag line t text_line first any h in ((omega (arith, own.0), own.1), read_notes_fit P T s k f parts t text_line first h)

  -- ---- the lines of a run

  abbrev pub LinesKept : List IndentedLine → Type 0
  LinesKept ls = AllByRecursion (λ (l : IndentedLine). Kept P l.text) ls

  bars_kept : (B : Block) (m : Marker) (g : Span) → BlockKept P B → BlockKept P (bar_lines B m g)
  bars_kept B m g h =
      let below = lines_kept P _ (indented_part 0 _) (all_range _ B (g.start + 1) g.stop h) in
      cond_both m.bare _ _ (BlockKept P) (λ e. below) (λ e. all_append _ _ (below_bar B g) (lines_kept P B (record { from = g.start; to = g.start + 1; first_cut = m.cut; rest_cut = 0 }) h) below)

  indented_kept : (B : Block) (last : ℕ) (fs : List Found) → BlockKept P B → LinesKept (indented_lines B last fs)
  indented_kept B last [] h = tt
  indented_kept B last (f ∷ fs) h = by f.what (λ now. indented_kept B now fs h)
    where
      by : (what : Construct) → ((now : ℕ) → LinesKept (indented_lines B now fs)) → LinesKept (line_before what B f.span last (λ now. indented_lines B now fs))
      by (bar_line m) others = (joined_kept P T s (bar_lines B m f.span) (bars_kept B m f.span h), others (indentation_of last m))
      by _ others = others last

  pub verse_kept : (last : ℕ) (B : Block) → BlockKept P B → LinesKept (verse_lines last B)
  verse_kept last [] h = tt
  verse_kept last (l ∷ ls) h = (all_drop _ (white_len l.text) l.text h.0, verse_kept (verse_indent last l) ls h.1)

  -- ---- line blocks

  abbrev PartKept : LinePart → Type 0
  PartKept (level_line l) = Kept P l.text
  PartKept (deeper_lines ls) = LinesKept ls

  deeper_kept : (l : IndentedLine) (parts : List LinePart) → Kept P l.text → AllByRecursion PartKept parts → AllByRecursion PartKept (with_deeper l parts)
  deeper_kept l [] h k = ((h, tt), tt)
  deeper_kept l (level_line m ∷ parts) h k = ((h, tt), k)
  deeper_kept l (deeper_lines ms ∷ parts) h k = ((h, k.0), k.1)

  parts_kept : (least : ℕ) (ls : List IndentedLine) → LinesKept ls → AllByRecursion PartKept (line_parts least ls)
  parts_kept least [] h = tt
  parts_kept least (l ∷ ls) h =
      let more = parts_kept least ls h.1 in
      cond_both (nat_lt least l.indent) _ _ (AllByRecursion PartKept) (λ e. deeper_kept l (line_parts least ls) h.0 more) (λ e. (h.0, more))

  pub line_block_fits : (levels : ℕ) (ls : List IndentedLine) → LinesKept ls → Gives (PairFits (levels + 4) 3) (line_block levels ls)
  line_block_fits zero ls h = gives (λ n. tt)
  line_block_fits (suc l) ls h =
      after (each_gives PartKept (PairFits (l + 4) 3) (part_node (line_block l)) (part_fits (line_block_fits l)) (line_parts (least_indent ls) ls) (parts_kept (least_indent ls) ls h))
      (λ made own.
      let lines = open_fits T LineBlock [] (first_line ls) (l + 4) (suc l + 4) _ (λ c. refl) tt (all_map (PairFits (l + 4) 3) (Fits T (l + 4)) _ (λ m k. k.0) made own) (omega arith) in
      give (lines, all_flat (PairFits (l + 4) 3) (Fits T 3) _ (λ m k. k.1) made own))
    where
      part_fits : ((ls : List IndentedLine) → LinesKept ls → Gives (PairFits (l + 4) 3) (line_block l ls)) → (p : LinePart) → PartKept p → Gives (PairFits (l + 4) 3) (part_node (line_block l) p)
      part_fits inner (level_line m) k = gives (λ n. texted_fit m.parts (l + 4) 3 (omega arith) (omega arith) Line m.line m.text m.text_line n (λ c. refl) k)
      part_fits inner (deeper_lines ms) k = inner ms k

  pub line_nodes_fit : (c : Within) (B : Block) (fs : List Found) → BlockKept P B → Gives (AllFit T (c.levels + 4)) (line_nodes c B fs)
  line_nodes_fit c B fs h =
      after (line_block_fits c.levels (indented_lines B 0 fs) (indented_kept B 0 fs h)) (λ made own. give (own.0, fit_more T 3 (c.levels + 4) made.1 (omega arith) own.1))
