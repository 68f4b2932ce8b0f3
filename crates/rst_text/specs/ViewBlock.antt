-- The part of the lines that a view shows. No rule of markup: a view is a block whose cuts are counted in bytes.
use Rattle.std.specs.Prelude.{ℕ, ◌-◌, ◌≤◌, IsTrue, take, drop, length}
use Rattle.std.specs.Str.{chars}
use Rattle.rst_text.specs.Block.{Line, Block, each_cut}
use Rattle.rst_text.specs.MayCut.{bytes_after, may_cut_at}
use Rattle.rst_text.specs.declared.view.Placement.{Placement}
use Rattle.rst_text.specs.declared.view.View.{View}

-- a line without its first n bytes
abbrev pub without_bytes : ℕ → Line → Line
without_bytes n l = record { number = l.number; text = chars (bytes_after n l); parts = l.parts }

-- lines, the first without f bytes, each other without r
abbrev pub byte_cut : ℕ → ℕ → Block → Block
byte_cut f r ls = each_cut without_bytes f r ls

-- the block that a view shows
unfoldable pub block_of : View → Block
block_of v = byte_cut v.first v.rest (take (v.to - v.from) (drop v.from v.lines.now))

-- the lines of the text of which a view shows a part
abbrev pub source_of : View → Block
source_of v = v.lines.now

-- the block at a placement in a text
unfoldable pub placement_block : Block → Placement → Block
placement_block S p = byte_cut p.first p.rest (take (p.to - p.from) (drop p.from S))

-- lines of a text that may be cut so
abbrev pub IsPlacement : Block → Placement → Type 0
IsPlacement S p = (p.from ≤ p.to) × (p.to ≤ length S) × IsTrue (may_cut_at p.first p.rest (take (p.to - p.from) (drop p.from S)))
