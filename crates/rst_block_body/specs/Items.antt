-- Items of lists: which one comes next, and what the block gives once a list is open that the item is in. No rule of markup.
use Rattle.std.specs.Prelude.{◌≡◌, ℕ, ◌+◌, List, drop}
use Rattle.rst_text.specs.Block.{Block}
use Rattle.rst_markup_blocks.specs.declared.part.Part.{Part}
use Rattle.rst_block_state.specs.Constructs.{ItemMark, bullet_item, enumerated_item, definition_item, field_item, option_item, item_of_list}
use Rattle.rst_block_state.specs.Inside.{part_of_item}
use Rattle.rst_block_state.specs.Lists.{item_by}
use Rattle.rst_block_state.specs.machine.Meanings.{done_of, open_run_of, within_at}
use Rattle.rst_block_state.specs.machine.NextLine.{IsNextConstruct}
use Rattle.rst_block_state.specs.Numbered.{Numbered, ◌>>=◌, before}
use Rattle.rst_block_state.specs.machine.Rest.{ListSoFar, open_list, rest, with_items}
use Rattle.rst_block_state.specs.Titles.{Item as GivenItem}
use Rattle.rst_block_state.specs.declared.open_block.OpenBlock.{OpenBlock}
use Rattle.rst_block_body.specs.declared.item.Item.{Item}
use Rattle.rst_block_body.specs.declared.item.Item.TheVariants.{Bullet, Enumerated, Definition, Field, OptionItem}

-- the mark of an item
abbrev pub mark_of : Item → ItemMark
mark_of (Bullet c m) = bullet_item c m
mark_of (Enumerated e) = enumerated_item e
mark_of (Definition infos) = definition_item infos.items
mark_of (Field m) = field_item m
mark_of (OptionItem m) = option_item m

-- an item with this mark comes next, whose block is this part
pub record IsNextItem (l : OpenBlock) (B : Block) (mark : ItemMark) (part : Part) : Type 0 where
  pub lines : ℕ
  pub next : IsNextConstruct l B (item_of_list mark) lines
  pub is : part ≡ part_of_item l.at mark (drop l.at B)
  pub end : part.to ≡ l.at + lines

-- a list is open, in the same block
pub record HasList (old new : OpenBlock) : Type 0 where
  pub depth : new.depth ≡ old.depth
  pub at : new.at ≡ old.at
  pub list : ListSoFar
  pub is : open_run_of new.run ≡ open_list list

-- what a block gives where the next item, which ends at a place, is in the list that is open: the item, and what comes after it
abbrev pub item_comes : ItemMark → ℕ → OpenBlock → Block → Numbered (List GivenItem)
item_comes mark end l B = before (done_of l) (do
  items ← item_by (within_at l.depth) B l.at mark (drop l.at B)
  rest (within_at l.depth) B end (with_items items (open_run_of l.run)))
