-- Parts of blocks, and places of characters in lines (Markup Specification, 'Indentation').
use Rattle.std.specs.Prelude.{ℕ, ◌+◌, ◌-◌, ◌<◌, ◌≤◌, List, length, take, drop, IsTrue}
use Rattle.rst_text.specs.Block.{Block, first_text}
use Rattle.rst_text.specs.MayCut.{is_indented}
use Rattle.rst_markup_lines.specs.declared.place.Characters.{Characters}
use Rattle.rst_markup_blocks.specs.declared.forms.Invocation.{Invocation}
use Rattle.rst_markup_blocks.specs.declared.part.Part.{Part}

-- a part of a block whose lines but the first have the spaces that they lose
pub record IsBlock (B : Block) (block : Part) : Type 0 where
  pub ordered : block.from ≤ block.to
  pub within : block.to ≤ length B
  pub indented : IsTrue (is_indented block.rest_cut (take (block.to - (block.from + 1)) (drop (block.from + 1) B)))

-- neighbouring characters of a text
pub record IsPlace (t : List ℕ) (place : Characters) : Type 0 where
  pub ordered : place.from ≤ place.to
  pub within : place.to ≤ length t

-- a directive that is called in the line at a place
pub record IsCall (B : Block) (at : ℕ) (call : Invocation) : Type 0 where
  pub inside : at < length B
  pub ordered : call.name.from ≤ call.name.to
  pub within : call.name.to ≤ length (first_text (drop at B))
  pub block : IsBlock B call.block
