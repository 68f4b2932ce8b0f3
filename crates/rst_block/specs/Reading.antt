-- What is read of a text, and what is left of it, between the tables in it.
use Rattle.std.specs.Prelude.{◌≡◌, ℕ, zero, suc, ◌+◌, ◌-◌, ◌*◌, ◌^◌, ◌≤◌, List, [], ◌∷◌, length, drop, map, Option, Some, None, Result, IfOk, nat_le, if◌then◌else◌}
use Rattle.rst_text.specs.Block.{Block}
use Rattle.rst_text.specs.ViewBlock.{block_of, source_of, placement_block}
use Rattle.rst_text.specs.declared.view.View.{View}
use Rattle.rst_markup_blocks.specs.declared.part.Part.{Part}
use Rattle.rst_markup_tables.specs.declared.results.TableResult.{TableResult}
use Rattle.rst_block_state.specs.machine.Frames.{AreFrames, AreNested, IsNow}
use Rattle.rst_block_state.specs.looks.Ledger.{Takes, least_left, most_left}
use Rattle.rst_block_state.specs.machine.Meanings.{Keeps, comes, deepest}
use Rattle.rst_block_state.specs.Numbered.{Numbered}
use Rattle.rst_block_state.specs.Titles.{Item}
use Rattle.rst_block_nodes.specs.declared.fault.BlockFault.{BlockFault}
use Rattle.rst_block_state.specs.declared.frame.Frame.{Frame}
use Rattle.rst_block_state.specs.declared.open_block.OpenBlock.{OpenBlock}
use Rattle.rst_block_state.specs.declared.step.Step.{Step}
use Rattle.rst_block_state.specs.declared.step.Step.TheVariants.{Begin, Next, Open, Cells, Done}
use Rattle.rst_block_state.specs.declared.texts.Pass.{Pass}

-- what comes next: the cells of a table that was found, or nothing
abbrev pub found_step : Option TableResult → Step
found_step None = Done
found_step (Some table) = Cells table

-- what comes in a block inside this many: its next line, or below the last level the test that it is blank
abbrev pub first_step : ℕ → Step
first_step depth = if nat_le depth deepest then Next else Begin

-- A block goes on after a call: it is as deep as before, what still comes is what was given before, and of the looks that may be taken and have to be
-- taken the call took some.
pub record Continues (B : Block) (old : OpenBlock) (before : Pass) (given : Numbered (List Item)) (most least : ℕ) (new : OpenBlock) (after : Pass) (result : Result Step BlockFault) : Type 0 where
  pub kept : IfOk result (λ _. new.depth ≡ old.depth)
  pub read : Keeps result (λ s. comes new B s after.numbers) (given before.numbers)
  pub paid : IfOk result (λ s. Takes most least before.looks (most_left new B s) (least_left new B s) after.looks)

-- the same where this came next in it
abbrev pub ContinuesFrom : Block → OpenBlock → Step → Pass → OpenBlock → Pass → Result Step BlockFault → Type 0
ContinuesFrom B old s before new after result = Continues B old before (comes old B s) (most_left old B s) (least_left old B s) new after result

-- A text inside this many blocks is being read. The first blocks that wait, this many, are around it; this comes next in the one that is read.
pub record IsReading (outer first : ℕ) (S : Block) (fs : List Frame) (l : OpenBlock) (view : View) (step : Step) : Type 0 where
  pub base : first ≤ length fs
  pub under : first ≤ outer
  pub room : outer + (length fs - first) ≤ 251
  pub waiting : AreFrames S (drop first fs)
  pub text : source_of view ≡ S
  pub now : IsNow (block_of view) l step
  pub depth : l.depth ≡ outer + (length fs - first)
  pub nested : AreNested outer (drop first fs)

-- ---- the work that is left

-- as much, with more levels inside
abbrev pub scale : ℕ → ℕ → ℕ → ℕ
scale m zero w = w
scale m (suc l) w = scale m l (m * w)

-- what is left in the block that is read, and in those that wait for it, the outermost first
abbrev pub work : ℕ → ℕ → List ℕ → ℕ → ℕ
work m zero ws w = w
work m (suc l) [] w = scale m (suc l) w
work m (suc l) (v ∷ ws) w = scale m (suc l) v + work m l ws w

-- what is left in a block of n lines that goes on at a place, by what comes next
abbrev pub cost : ℕ → ℕ → Step → ℕ
cost n at Begin = 5 * (n - at) + 3
cost n at Next = 5 * (n - at) + 2
cost n at (Open w first second) = 5 * (n - at) + 5
cost n at (Cells table) = 5 * (n - at) + 1
cost n at Done = 0

-- more is left where another part comes
abbrev pub parts_left : Option Part → ℕ
parts_left None = 3
parts_left (Some p) = 4

-- what is left in a block that waits
abbrev pub left : Block → Frame → ℕ
left S f = 5 * (length (placement_block S f.placement) - f.level.at) + parts_left f.second

-- all that is left where a text has n lines, there is room for this many blocks, and these wait
abbrev pub all_left : ℕ → ℕ → Block → List Frame → ℕ → ℕ → Step → ℕ
all_left n room S fs lines at now = work (5 * n + 6) room (map (left S) fs) (cost lines at now)

-- the same for a text of any length
abbrev pub text_left : ℕ → ℕ → Block → List Frame → OpenBlock → View → Step → ℕ
text_left depth base S fs l view now = all_left (2 ^ 64) (251 - depth) S (drop base fs) (length (block_of view)) l.at now
