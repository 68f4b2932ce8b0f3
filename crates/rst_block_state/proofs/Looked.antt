-- Few lines are looked at: no more than a block has.
use Rattle.std.proofs.Common.{◌≡◌, ℕ, ◌≤◌, true, [], ◌∷◌, length, arith, refl}
use Rattle.rst_text.specs.Block.{Block}
use Rattle.rst_text.specs.Reach.{reach}
use Rattle.rst_markup_lines.specs.declared.marker.Marker.{Marker}
use Rattle.rst_markup_blocks.specs.Conditions.{next_text}
use Rattle.rst_markup_blocks.proofs.ReachLaws.{reach_within}
use Rattle.rst_markup_blocks.specs.Sizes.{hanging_size, item_size, least_below, overline_looks}

pub reach_le : (n : ℕ) (X : Block) → n ≤ length X → reach n X ≤ length X
reach_le n X h = (reach_within n X h).1

-- an item whose marker is bare has the lines of a hanging block
pub bare_item : (m : Marker) (X : Block) → m.bare ≡ true → item_size m X ≡ hanging_size X
unfolding least_below hanging_size
bare_item m X bare = rw bare refl

-- below the line of a block of one line there is none to look at
pub no_next : (B : Block) → length B ≤ 1 → overline_looks (next_text B) ≡ 0
no_next [] few = refl
no_next (l ∷ []) few = refl
no_next (l ∷ m ∷ ls) few = absurd (omega arith)
