-- What it takes that a document means the same with program code as a directive: that no directive is called that means something else then, in the
-- document's lines, in the blocks that are opened in it, and in its cells.
use Rattle.std.specs.Prelude.{ℕ, true, false, drop}
use Rattle.std.specs.List.{AllByRecursion}
use Rattle.rst_text.specs.Block.{Block}
use Rattle.rst_markup_blocks.specs.Explicit.{explicit_of}
use Rattle.rst_block_state.specs.Constructs.{Found}
use Rattle.rst_block_state.specs.Inside.{opened_of, cells_with}
use Rattle.rst_block_state.specs.Within.{Within}
use Rattle.rst_block.proofs.InsideReads.{CallsAgree}

-- each directive that is called in a block of which something holds means the same with and without program code
abbrev pub CallsAgreeUnder : (Block → Type 0) → Type 0
CallsAgreeUnder P = (B : Block) (i : ℕ) → P B → CallsAgree false true B i (explicit_of i (drop i B))

-- it holds of the blocks that a construct opens
abbrev pub OpenedKeep : (Block → Type 0) → Type 0
OpenedKeep P = (c : Within) (B : Block) (f : Found) → P B → AllByRecursion P (opened_of c B f)

-- and of its cells
abbrev pub CellsKeep : (Block → Type 0) → Type 0
CellsKeep P = (B : Block) (f : Found) → P B → AllByRecursion P (cells_with B f)
