-- Lines of one punctuation character with the next two.
use Rattle.std.proofs.Common.{◌≡◌, ℕ, ◌<◌, Bool, true, false, List, length, Option, Some, refl}
use Rattle.std.proofs.lemmas.Bool.{lt-ltb}
use Rattle.rst_text.specs.Block.{Block, is_blank}
use Rattle.rst_markup_lines.specs.declared.adornment.Adornment.{Adornment}
use Rattle.rst_markup_blocks.specs.Conditions.{after_text}
use Rattle.rst_markup_blocks.specs.Forms.{adorned_form, adorned_over}
use Rattle.rst_markup_blocks.specs.Sizes.{third_text}

-- in a block of three lines or more the third is there
pub third_is : (X : Block) → 2 < length X → third_text X ≡ Some (after_text X)
third_is X h = rw (lt-ltb 2 (length X) h) refl

-- at the top level a line of one punctuation character over a line that isn't blank is an overline
pub form_over : (titles : Bool) (mark : Adornment) (next : List ℕ) (after : Option (List ℕ)) → titles ≡ true → is_blank next ≡ false → adorned_form titles mark next after ≡ adorned_over mark next after
unfolding adorned_form
form_over true mark next after t b = rw b refl
form_over false mark next after t b = cc
