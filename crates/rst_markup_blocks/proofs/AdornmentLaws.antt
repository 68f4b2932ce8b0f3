-- What a line of one punctuation character begins ends within its block.
use Rattle.std.specs.Prelude.{◌≡◌, ℕ, ◌≤◌, Bool, true, false, is_some, IsTrue, List, ◌∷◌, length, refl, Option, None, Some, unwrap_or}
use Rattle.std.specs.Option.{option_map_or}
use Rattle.std.proofs.Common.{arith}
use Rattle.rst_text.specs.Block.{Block, first_text, is_blank}
use Rattle.rst_markup_lines.specs.Adornment.{adornment_of}
use Rattle.rst_markup_lines.specs.declared.adornment.Adornment.{Adornment}
use Rattle.rst_markup_blocks.specs.Conditions.{next_text}
use Rattle.rst_markup_blocks.specs.Forms.{adorned_form, adorned_below, adorned_alone, adorned_over, overlined}
use Rattle.rst_markup_blocks.specs.Sizes.{adorned_size, adornment_size, fixed_size, third_text, text_size}
use Rattle.rst_markup_blocks.specs.Rows.{is_adornment_row}
use Rattle.rst_markup_blocks.proofs.RowLaws.{text_within}

-- a fixed size is at least 1 and at most k
abbrev pub SizeWithin : ℕ → Option ℕ → Type 0
SizeWithin k size = (1 ≤ unwrap_or size 1) × (unwrap_or size 1 ≤ k)

-- a fixed size of a line of one punctuation character, in a block of k lines
sizes : (titles : Bool) (mark : Adornment) (next : List ℕ) (third : Option (List ℕ)) (k : ℕ) → 1 ≤ k → (is_blank next ≡ false → 2 ≤ k) → (is_some third ≡ true → 3 ≤ k)
    → SizeWithin k (fixed_size (adorned_form titles mark next third))
unfolding adorned_form adorned_below adorned_alone adorned_over overlined
sizes titles mark next third k h more most = (grind arith, grind arith)

-- a block with a third line has three lines or more
third_there : (X : Block) → is_some (third_text X) ≡ true → 3 ≤ length X
third_there X h = grind arith

-- a block whose second line isn't blank has two lines or more
next_there : (X : Block) → is_blank (next_text X) ≡ false → 2 ≤ length X
next_there (l ∷ m ∷ ms) h = omega arith
next_there _ h = cc

-- what a line of one punctuation character begins ends within the block
pub form_sizes : (titles : Bool) (mark : Adornment) (X : Block) → 1 ≤ length X → SizeWithin (length X) (fixed_size (adorned_form titles mark (next_text X) (third_text X)))
form_sizes titles mark X some = sizes titles mark (next_text X) (third_text X) (length X) some (next_there X) (third_there X)

-- a line of one punctuation character has the size of its form
pub adornment_is : (titles : Bool) (X : Block) (mark : Adornment) → adornment_of (first_text X) ≡ Some mark → adornment_size titles X ≡ unwrap_or (fixed_size (adorned_form titles mark (next_text X) (third_text X))) (text_size X)
unfolding adornment_size
adornment_is titles X mark e = rw e refl

-- a fixed size, or that of a text, ends within the block
or_within : (o : Option ℕ) (X : Block) → 1 ≤ length X → SizeWithin (length X) o → (1 ≤ unwrap_or o (text_size X)) × (unwrap_or o (text_size X) ≤ length X)
or_within None X some s = text_within true X some refl
or_within (Some n) X some s = s

-- The construct that a line of one punctuation character begins has a line or more, and ends within the block.
pub adornment_within : (titles : Bool) (X : Block) → 1 ≤ length X → IsTrue (is_adornment_row X) → (1 ≤ adornment_size titles X) × (adornment_size titles X ≤ length X)
unfolding adornment_size
adornment_within titles X some h = by (adornment_of (first_text X))
  where
    by : (o : Option Adornment) → (1 ≤ option_map_or (λ mark. adorned_size (adorned_form titles mark (next_text X) (third_text X)) X) o (text_size X))
        × (option_map_or (λ mark. adorned_size (adorned_form titles mark (next_text X) (third_text X)) X) o (text_size X) ≤ length X)
    by None = text_within true X some refl
    by (Some mark) = or_within (fixed_size (adorned_form titles mark (next_text X) (third_text X))) X some (form_sizes titles mark X some)
