-- What the constructs of a block are read with, and which of their lines are blocks inside (Markup Specification, 'Indentation').
use Rattle.std.specs.Prelude.{ℕ, ◌+◌, Bool, List, if◌then◌else◌}
use Rattle.rst_text.specs.Block.{Block}
use Rattle.rst_text.specs.Extent.{extent}
use Rattle.rst_tree.specs.declared.node.Node.{Node}
use Rattle.rst_markup_lines.specs.declared.marker.Marker.{Marker}
use Rattle.rst_markup_blocks.specs.ExplicitMarkup.{hanging_part, least_of}
use Rattle.rst_markup_blocks.specs.Sizes.{item_size}
use Rattle.rst_markup_blocks.specs.declared.part.Part.{Part}
use Rattle.rst_block_state.specs.Numbered.{Numbered}

-- How the constructs of a block are read: whether titles are recognized in it, whether `code` is a directive, how many line blocks may be
-- nested in it, the outermost included, and what a block inside of it gives.
pub record Within : Type 0 where
  pub titles : Bool
  pub code : Bool
  pub levels : ℕ
  pub inner : Block → Numbered (List Node)

-- an indented block: the indented lines from place i on, with which X begins, without their least indentation
abbrev pub indented_part : ℕ → Block → Part
indented_part i X = record { from = i; to = i + extent 1 X; first_cut = least_of X; rest_cut = least_of X }

-- A hanging block: the text after a marker in line i, with which X begins, and the indented block below it. Where the marker has no text after
-- it, it is that block alone.
abbrev pub hanging : ℕ → Marker → Block → Part
hanging i m X = hanging_part i m.cut m.bare X

-- The block of an item of a bullet list or of an enumerated list: the text after its marker, and the lines below that are indented at least as
-- far as it. Where the marker has no text after it, it is a hanging block.
abbrev pub item_part : ℕ → Marker → Block → Part
item_part i m X =
    if m.bare then hanging i m X
    else record { from = i; to = i + item_size m X; first_cut = m.cut; rest_cut = m.cut }
