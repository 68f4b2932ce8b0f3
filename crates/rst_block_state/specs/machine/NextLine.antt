-- What begins at the next line of a block that is read, and what a line of one punctuation character is by its form. No rule of markup.
use Rattle.std.specs.Prelude.{◌≡◌, ℕ, ◌==◌, Bool, List, drop, ◌⊎◌}
use Rattle.rst_text.specs.Block.{Block}
use Rattle.rst_tree.specs.declared.node.Node.{Node}
use Rattle.rst_tree.specs.declared.note.Level.{Level}
use Rattle.rst_markup_lines.specs.declared.adornment.Adornment.{Adornment}
use Rattle.rst_markup_blocks.specs.Begun.{IsBegun}
use Rattle.rst_markup_blocks.specs.Partition.{construct_size, IsTextAt}
use Rattle.rst_markup_blocks.specs.Sizes.{text_size}
use Rattle.rst_markup_blocks.specs.declared.begun.Begun.TheVariants.{Grid, Simple}
use Rattle.rst_markup_blocks.specs.declared.form.Adorned.{Adorned}
use Rattle.rst_markup_blocks.specs.declared.form.Adorned.TheVariants.{InvalidMarker, Incomplete, MissingUnderline, Mismatch, Unexpected}
use Rattle.rst_markup_tables.specs.Tiling.{grid_table}
use Rattle.rst_markup_tables.specs.SimpleTable.{simple_table}
use Rattle.rst_markup_tables.specs.declared.results.TableResult.{TableResult}
use Rattle.rst_block_state.specs.Constructs.{Construct, construct_at, text_after, misplaced_lines, adorned_by}
use Rattle.rst_block_state.specs.declared.open_block.OpenBlock.{OpenBlock}

-- a construct of this many lines
pub record IsNextConstruct (l : OpenBlock) (B : Block) (what : Construct) (lines : ℕ) : Type 0 where
  pub filled : IsTextAt B l.at
  pub construct : construct_at (l.depth == 0) (drop l.at B) ≡ what
  pub size : construct_size (l.depth == 0) (drop l.at B) ≡ lines

-- a text, after these messages that explain why it is one
abbrev pub IsText : OpenBlock → Block → List Node → Type 0
IsText l B infos = IsNextConstruct l B (text_after (l.depth == 0) infos (drop l.at B)) (text_size (drop l.at B))

-- a grid table or a simple table, of which this is found
abbrev pub IsTableAt : Block → ℕ → TableResult → Type 0
IsTableAt B i found = (IsBegun (drop i B) Grid × (found ≡ grid_table B i)) ⊎ (IsBegun (drop i B) Simple × (found ≡ simple_table B i))

-- ---- lines of one punctuation character

-- a form that is wrong
abbrev pub IsWrongForm : Adorned → Type 0
IsWrongForm InvalidMarker = Unit {0}
IsWrongForm Incomplete = Unit {0}
IsWrongForm (MissingUnderline blank) = Unit {0}
IsWrongForm Mismatch = Unit {0}
IsWrongForm Unexpected = Unit {0}
IsWrongForm _ = ⊥

-- lines of a form are misplaced, and their message has this level and this text
abbrev pub IsMessageOn : Adorned → Level → List ℕ → Type 0
IsMessageOn form level text = (titles : Bool) (mark : Adornment) (X : Block) → adorned_by form titles mark X ≡ misplaced_lines level text
