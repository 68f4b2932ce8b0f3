-- Blocks that wait for one inside them, and the block that is being read.
use Rattle.std.specs.Prelude.{◌≡◌, ℕ, suc, ◌<◌, ◌≤◌, List, [], ◌∷◌, length, Option, None, Some}
use Rattle.rst_text.specs.Block.{Block}
use Rattle.rst_text.specs.ViewBlock.{block_of, source_of, IsPlacement, placement_block}
use Rattle.rst_markup_blocks.specs.Parts.{IsBlock}
use Rattle.rst_markup_blocks.specs.declared.part.Part.{Part}
use Rattle.rst_block_state.specs.machine.Meanings.{IsNew, after, comes, deepest, within_at}
use Rattle.rst_block_state.specs.Numbered.{Numbered, ◌>>=◌}
use Rattle.rst_block_state.specs.machine.Steps.{IsBlockIf, IsTable, IsWaiting, IsResumed}
use Rattle.rst_block_state.specs.Titles.{Item}
use Rattle.rst_block_state.specs.declared.frame.Frame.{Frame}
use Rattle.rst_block_state.specs.declared.frame.Ended.{Ended}
use Rattle.rst_block_state.specs.declared.frame.Ended.TheVariants.{Waiting, GoesOn}
use Rattle.rst_block_state.specs.declared.open_block.OpenBlock.{OpenBlock}
use Rattle.rst_block_state.specs.declared.step.Step.{Step}
use Rattle.rst_block_state.specs.declared.step.Step.TheVariants.{Begin, Next, Open, Cells, Done}

-- a block of a text that waits: its parts are those of its lines
abbrev pub IsFrame : Block → Frame → Type 0
IsFrame S f =
    IsPlacement S f.placement × IsBlockIf (placement_block S f.placement) f.second
    × IsWaiting (placement_block S f.placement) f.level.at f.waits

-- all of them are
abbrev pub AreFrames : Block → List Frame → Type 0
AreFrames S [] = Unit {0}
AreFrames S (f ∷ fs) = IsFrame S f × AreFrames S fs

-- the first of some blocks that wait is inside this many others, and each other one in one more than the one before it
abbrev pub AreNested : ℕ → List Frame → Type 0
AreNested depth [] = Unit {0}
AreNested depth (f ∷ fs) = (f.level.depth ≡ depth) × AreNested (suc depth) fs

-- what may come next in a block; below the last level it is nothing but the block's begin and its end
abbrev pub IsNow : Block → OpenBlock → Step → Type 0
IsNow B l Begin = IsNew l × (l.depth ≡ suc deepest)
IsNow B l Next = l.depth ≤ deepest
IsNow B l (Open w first second) = (l.depth ≤ deepest) × IsBlock B first × IsBlockIf B second × IsWaiting B l.at w
IsNow B l (Cells table) = (l.depth ≤ deepest) × (l.at < length B) × IsTable l.at table
IsNow B l Done = Unit {0}

-- there is a part that is read after another
abbrev pub HasSecond : Option Part → Type 0
HasSecond (Some p) = Unit {0}
HasSecond None = ⊥

-- a block inside one that waits was read: the next part is read from its begin, of a block that is the same but for that, or it
-- goes on
abbrev pub IsEnded : Block → Frame → ℕ → Ended → Type 0
IsEnded S f to (Waiting g part) =
    IsFrame S g × (g.placement ≡ f.placement) × (g.level.at ≡ f.level.at) × (g.second ≡ None) × HasSecond f.second
    × (source_of part ≡ S) × (to ≡ 0)
IsEnded S f to (GoesOn view s) =
    (source_of view ≡ S) × (block_of view ≡ placement_block S f.placement) × IsResumed (block_of view) f.level.at to s

-- what follows keeps the block that waited: the next part is read from its begin and is inside this many blocks, or the block goes on
abbrev pub KeepsFrame : Frame → ℕ → OpenBlock → Ended → Type 0
KeepsFrame f depth l (Waiting g part) = (g.level ≡ f.level) × IsNew l × (l.depth ≡ depth)
KeepsFrame f depth l (GoesOn view s) = l.depth ≡ f.level.depth

-- what the block that waited gives by what follows: the next part is read for it, or it goes on
abbrev pub ended_as : Block → OpenBlock → Ended → Numbered (List Item)
ended_as S l (Waiting g part) = do
  ns ← (within_at g.level.depth).inner (block_of part)
  after g.level (placement_block S g.placement) g.waits g.second g.nodes ns
ended_as S l (GoesOn view s) = comes l (block_of view) s
