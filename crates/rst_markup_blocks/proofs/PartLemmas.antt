-- Hanging blocks as parts of views.
use Rattle.std.proofs.Common.{◌≡◌, ℕ, suc, ◌+◌, ◌≤◌, Bool, true, false, [], ◌∷◌, min, length, drop, refl, arith}
use Rattle.rst_text.specs.Block.{Block}
use Rattle.rst_text.specs.Extent.{extent}
use Rattle.rst_text.specs.Reach.{reach, through_text, looked}
use Rattle.rst_markup_blocks.specs.declared.lines.LineTest.TheVariants.{Blank}
use Rattle.rst_markup_blocks.specs.declared.part.Part.{Part}
use Rattle.rst_markup_blocks.specs.Lines.{lines_while}
use Rattle.rst_markup_blocks.specs.ExplicitMarkup.{hanging_part, least_of}
use Rattle.rst_markup_blocks.specs.Sizes.{hanging_size}
use Rattle.rst_markup_blocks.proofs.LineLemmas.{looked_below}
use Rattle.rst_markup_blocks.proofs.LineLemmas.{blanks_through}

pub hanging_is : (X : Block) → hanging_size X ≡ suc (extent 1 (drop 1 X))
unfolding hanging_size
hanging_is X = refl

pub looked_hanging : (X : Block) → 1 ≤ length X → suc (looked 1 (drop 1 X)) ≡ reach (hanging_size X) X
unfolding hanging_size
looked_hanging X h = looked_below 1 X h

-- the first line that isn't blank is looked at
pub through_looked : (Y : Block) → through_text Y ≤ looked 1 Y
unfolding through_text looked
through_looked [] = omega arith
through_looked (l ∷ ls) = grind (arith, through_looked ls)

pub blank_below : (Y : Block) → reach (lines_while Blank Y) Y ≤ looked 1 Y
blank_below Y = omega (arith, blanks_through Y, through_looked Y)

pub part_text : (i cut end indent : ℕ) (X : Block) (bare : Bool) → bare ≡ false → end ≡ i + hanging_size X → indent ≡ least_of (drop 1 X)
    → let p : Part = record { from = i; to = end; first_cut = cut; rest_cut = indent } in p ≡ hanging_part i cut bare X
unfolding hanging_part
part_text i cut end indent X bare b e d = rw (b, e, d) refl

pub part_bare : (i cut end indent from : ℕ) (X : Block) (bare : Bool) → bare ≡ true → end ≡ i + hanging_size X → indent ≡ least_of (drop 1 X)
    → from ≡ i + 1 + min (lines_while Blank (drop 1 X)) (extent 1 (drop 1 X))
    → let p : Part = record { from = from; to = end; first_cut = indent; rest_cut = indent } in p ≡ hanging_part i cut bare X
unfolding hanging_part
part_bare i cut end indent from X bare b e d f = rw (b, e, d, f) refl
