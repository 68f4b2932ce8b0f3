-- Explicit markup that begins with dots ends within its block.
use Rattle.std.specs.Prelude.{ℕ, ◌≤◌, Bool, IsTrue, length, drop, Option, None, Some}
use Rattle.std.proofs.Common.{arith, length-drop}
use Rattle.rst_text.specs.Block.{Block, first_text, is_blank}
use Rattle.rst_markup_lines.specs.ExplicitMarks.{dots}
use Rattle.rst_markup_lines.specs.declared.marker.Marker.{Marker}
use Rattle.rst_markup_blocks.specs.Explicit.{explicit_with, explicit_of, anonymous_of, explicit_end, explicit_size}
use Rattle.rst_markup_blocks.specs.ExplicitMarkup.{explicit_form}
use Rattle.rst_markup_blocks.specs.Conditions.{next_text}
use Rattle.rst_markup_blocks.specs.Rows.{is_explicit_row}
use Rattle.rst_markup_blocks.proofs.RowLaws.{below_le, while_le}
use Rattle.rst_markup_blocks.specs.Sizes.{hanging_size, indented_size, run_size}
use Rattle.rst_markup_blocks.specs.declared.explicit_markup.ExplicitForm.{ExplicitForm}
use Rattle.rst_markup_blocks.specs.declared.explicit_markup.ExplicitForm.TheVariants.{Target}
use Rattle.rst_markup_blocks.specs.declared.lines.LineTest.TheVariants.{Indented}
use Rattle.rst_markup_blocks.proofs.ExplicitLemmas.{lines_of, after_dots_lines, after_dots_end}
use Rattle.std.proofs.lemmas.Bool.{cond_both}

-- a line with the indented block below it ends within the block
hanging_fits : (X : Block) → 1 ≤ length X → (1 ≤ hanging_size X) × (hanging_size X ≤ length X)
unfolding hanging_size
hanging_fits X some = (omega arith, below_le 1 X some)

-- a line with the indented ones below it ends within the block
indented_fits : (X : Block) → 1 ≤ length X → (1 ≤ indented_size X) × (indented_size X ≤ length X)
unfolding indented_size run_size
indented_fits X some = (omega arith, omega (arith, while_le Indented (drop 1 X), length-drop 1 X))

-- a line or more, within the block
abbrev pub Fits : Block → ℕ → Type 0
Fits X n = (1 ≤ n) × (n ≤ length X)

-- so does markup of any form
form_fits : (f : ExplicitForm) (X : Block) → 1 ≤ length X → Fits X (lines_of f X)
form_fits (Target mark) = indented_fits
form_fits _ = hanging_fits

-- what dots begin ends within the block
after_dots_fits : (m : Marker) (X : Block) → 1 ≤ length X → Fits X (after_dots_lines m X)
after_dots_fits m X some =
    cond_both m.bare _ _ (Fits X) (λ _. cond_both (is_blank (next_text X)) _ _ (Fits X) (λ _. (omega arith, some)) (λ _. hanging_fits X some))
    (λ _. form_fits (explicit_form (drop m.cut (first_text X))) X some)

-- Explicit markup has a line or more, and ends within the block.
pub explicit_within : (titles : Bool) (X : Block) → 1 ≤ length X → IsTrue (is_explicit_row X) → (1 ≤ explicit_size X) × (explicit_size X ≤ length X)
unfolding explicit_size explicit_of anonymous_of
explicit_within titles X some h = by (dots (first_text X))
  where
    by : (o : Option Marker) → Fits X (explicit_end 0 (explicit_with o 0 X))
    by None = let h = indented_fits X some in (omega (arith, h.0), omega (arith, h.1))
    by (Some m) = let e = after_dots_end 0 m X in let h = after_dots_fits m X some in (omega (arith, e, h.0), omega (arith, e, h.1))
