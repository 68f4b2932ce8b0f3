-- The blocks inside a construct are those that are read for it.
use Rattle.std.specs.Prelude.{◌≡◌, ℕ, List}
use Rattle.std.specs.List.{AllByRecursion}
use Rattle.rst_text.specs.Block.{Block}
use Rattle.rst_tree.specs.declared.node.Node.{Node}
use Rattle.rst_block_state.specs.Constructs.{Found}
use Rattle.rst_block_state.specs.Inside.{opened_of, cells_with}
use Rattle.rst_block_state.specs.Nodes.{piece_of}
use Rattle.rst_block_state.specs.Numbered.{Numbered}
use Rattle.rst_block_state.specs.Within.{Within}

-- two readings give the same for each of some blocks
abbrev pub AgreeOn : (Block → Numbered (List Node)) → (Block → Numbered (List Node)) → List Block → Type 0
AgreeOn f g Cs = AllByRecursion (λ C. (number : ℕ) → f C number ≡ g C number) Cs

-- the same with another reading of the blocks inside
abbrev pub with_reading : Within → (Block → Numbered (List Node)) → Within
with_reading c g = record { titles = c.titles; code = c.code; levels = c.levels; inner = g }

-- what a construct gives depends on no other block than those that it opens and its cells
abbrev pub InsideIsRead : Type 0
InsideIsRead = (c : Within) (g : Block → Numbered (List Node)) (B : Block) (f : Found) (number : ℕ) → AgreeOn c.inner g (opened_of c B f)
    → AgreeOn c.inner g (cells_with B f)
    → piece_of c B f number ≡ piece_of (with_reading c g) B f number
