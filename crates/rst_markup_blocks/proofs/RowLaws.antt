-- What begins ends within its block, and what a block's first three lines decide.
use Rattle.std.specs.Prelude.{◌≡◌, ℕ, suc, ◌≤◌, Bool, true, false, is_some, IsTrue, List, [], ◌∷◌, length, take, drop, refl, Option, None, Some}
use Rattle.std.proofs.Common.{ap, sym, ◌∙◌, arith, length-drop}
use Rattle.std.specs.Option.{option_map_or}
use Rattle.rst_markup_lines.specs.TextStart.{first}
use Rattle.rst_markup_lines.specs.Adornment.{adornment_of}
use Rattle.rst_markup_blocks.specs.Forms.{text_form}
use Rattle.rst_markup_blocks.specs.declared.form.TextForm.{TextForm}
use Rattle.rst_markup_blocks.specs.declared.form.TextForm.TheVariants.{Paragraph, ShortUnderline, Definition, Title}
use Rattle.rst_text.specs.Block.{Block, first_parts, first_text}
use Rattle.rst_text.specs.Extent.{extent}
use Rattle.rst_markup_lines.specs.TextStart.{begins_with}
use Rattle.rst_markup_lines.specs.Marker.{bullet, doctest}
use Rattle.rst_markup_lines.specs.Enumerator.{enumerator_of}
use Rattle.rst_markup_lines.specs.declared.marker.Marker.{Marker}
use Rattle.rst_markup_lines.specs.declared.enumerator.Enumerator.{Enumerator}
use Rattle.rst_markup_blocks.specs.declared.lines.LineTest.{LineTest}
use Rattle.rst_markup_blocks.specs.declared.lines.LineTest.TheVariants.{Indented, Filled, Blank, Plain, Begins}
use Rattle.rst_markup_blocks.specs.Lines.{lines_while}
use Rattle.rst_markup_blocks.specs.Conditions.{next_text, after_text}
use Rattle.rst_markup_blocks.specs.Sizes.{bullet_size, enumerator_size, item_size, hanging_size, run_size, indented_size, doctest_size, least_below, literal_size, quoted_size, quoted_len, paragraph_size, paragraph_len, text_size, form_size}
use Rattle.rst_markup_blocks.specs.Rows.{is_blank_row, is_quote_row, is_bullet_row, is_enumerator_row, is_doctest_row, is_text_row, blank_size, quote_size}

-- ---- the first lines

-- blocks with the same first three lines have the same first one
pub same_first : (X Y : Block) → take 3 X ≡ take 3 Y → first_text X ≡ first_text Y
same_first [] [] h = refl
same_first [] (k ∷ ks) h = cc
same_first (l ∷ ls) [] h = cc
same_first (l ∷ ls) (k ∷ ks) h = ap first_text h

pub same_parts : (X Y : Block) → take 3 X ≡ take 3 Y → first_parts X ≡ first_parts Y
same_parts [] [] h = refl
same_parts [] (k ∷ ks) h = cc
same_parts (l ∷ ls) [] h = cc
same_parts (l ∷ ls) (k ∷ ks) h = ap first_parts h

-- the second of a block's first three lines is that of the block
second_taken : (X : Block) → first_text (drop 1 (take 3 X)) ≡ next_text X
second_taken [] = refl
second_taken (l ∷ []) = refl
second_taken (l ∷ m ∷ ms) = refl

-- the third of a block's first three lines is that of the block
after_taken : (X : Block) → first_text (drop 2 (take 3 X)) ≡ after_text X
after_taken [] = refl
after_taken (l ∷ []) = refl
after_taken (l ∷ m ∷ []) = refl
after_taken (l ∷ m ∷ n ∷ ns) = refl

-- blocks with the same first three lines have the same second one
pub same_next : (X Y : Block) → take 3 X ≡ take 3 Y → next_text X ≡ next_text Y
same_next X Y h = sym (second_taken X) ∙ ap (λ B. first_text (drop 1 B)) h ∙ second_taken Y

-- blocks with the same first three lines have the same third one
pub same_after : (X Y : Block) → take 3 X ≡ take 3 Y → after_text X ≡ after_text Y
same_after X Y h = sym (after_taken X) ∙ ap (λ B. first_text (drop 2 B)) h ∙ after_taken Y

-- ---- the ends

-- the lines of an extent are within the block
pub extent_le : (least : ℕ) (X : Block) → extent least X ≤ length X
unfolding extent
extent_le least [] = omega arith
extent_le least (l ∷ ls) = grind (arith, extent_le least ls)

-- lines that pass a test are within the block
pub while_le : (test : LineTest) (X : Block) → lines_while test X ≤ length X
unfolding lines_while
while_le test [] = omega arith
while_le test (l ∷ ls) = grind (arith, while_le test ls)

-- a line with those below it that are blank or indented ends within the block
pub below_le : (least : ℕ) (X : Block) → 1 ≤ length X → suc (extent least (drop 1 X)) ≤ length X
below_le least X h = omega (arith, extent_le least (drop 1 X), length-drop 1 X)

-- a blank line is one line
pub blank_within : (titles : Bool) (X : Block) → 1 ≤ length X → IsTrue (is_blank_row X) → (1 ≤ blank_size X) × (blank_size X ≤ length X)
blank_within titles X some h = (omega arith, some)

-- an indented line that is there isn't blank
indented_extent : (X : Block) → begins_with 32 (first_text X) ≡ true → 1 ≤ extent 1 X
unfolding extent
indented_extent [] h = cc
indented_extent (l ∷ ls) h = grind arith

-- a block quote has a line or more, and ends within the block
pub quote_within : (titles : Bool) (X : Block) → 1 ≤ length X → IsTrue (is_quote_row X) → (1 ≤ quote_size X) × (quote_size X ≤ length X)
quote_within titles X some h = (indented_extent X h, extent_le 1 X)

-- so does an item with a marker
item_within : (o : Option Marker) (X : Block) → 1 ≤ length X → (1 ≤ option_map_or (λ m. item_size m X) o 1) × (option_map_or (λ m. item_size m X) o 1 ≤ length X)
item_within None X some = (omega arith, some)
item_within (Some m) X some = (omega arith, below_le (least_below m) X some)

-- so does an item of a bullet list
pub bullet_within : (titles : Bool) (X : Block) → 1 ≤ length X → IsTrue (is_bullet_row X) → (1 ≤ bullet_size X) × (bullet_size X ≤ length X)
unfolding bullet_size
bullet_within titles X some h = item_within (bullet (first_text X)) X some

-- so does an item with an enumerator
listed_within : (o : Option Enumerator) (X : Block) → 1 ≤ length X → (1 ≤ option_map_or (λ e. item_size e.marker X) o 1) × (option_map_or (λ e. item_size e.marker X) o 1 ≤ length X)
listed_within None X some = (omega arith, some)
listed_within (Some e) X some = (omega arith, below_le (least_below e.marker) X some)

-- so does an item of an enumerated list
pub enumerator_within : (titles : Bool) (X : Block) → 1 ≤ length X → IsTrue (is_enumerator_row X) → (1 ≤ enumerator_size X) × (enumerator_size X ≤ length X)
unfolding enumerator_size
enumerator_within titles X some h = listed_within (enumerator_of (first_text X)) X some

-- so does a field, and an item of an option list
pub hanging_within : (holds : Block → Bool) (titles : Bool) (X : Block) → 1 ≤ length X → IsTrue (holds X) → (1 ≤ hanging_size X) × (hanging_size X ≤ length X)
unfolding hanging_size
hanging_within holds titles X some h = (omega arith, below_le 1 X some)

-- so does a line of a line block, and an anonymous target
pub indented_within : (holds : Block → Bool) (titles : Bool) (X : Block) → 1 ≤ length X → IsTrue (holds X) → (1 ≤ indented_size X) × (indented_size X ≤ length X)
unfolding indented_size run_size
indented_within holds titles X some h = (omega arith, omega (arith, while_le Indented (drop 1 X), length-drop 1 X))

-- an empty line begins no doctest block
no_doctest : is_some (doctest []) ≡ false
unfolding doctest
no_doctest = refl

-- a doctest block has a line or more
doctest_some : (X : Block) → is_some (doctest (first_text X)) ≡ true → 1 ≤ lines_while Filled X
unfolding lines_while
doctest_some [] h = cc no_doctest
doctest_some (l ∷ ls) h = grind (arith, no_doctest)

-- it ends within the block
pub doctest_within : (titles : Bool) (X : Block) → 1 ≤ length X → IsTrue (is_doctest_row X) → (1 ≤ doctest_size X) × (doctest_size X ≤ length X)
unfolding doctest_size
doctest_within titles X some h = (doctest_some X h, while_le Filled X)

-- a quoted literal block ends within the block
quoted_le : (o : Option ℕ) (b : ℕ) (Y : Block) → b ≤ length Y → quoted_len o b Y ≤ length Y
quoted_le None b Y h = omega arith
quoted_le (Some c) b Y h = grind (arith, while_le (Begins c) (drop b Y), length-drop b Y)

-- a literal block ends within the block
pub literal_le : (Y : Block) → literal_size Y ≤ length Y
unfolding literal_size quoted_size
literal_le Y = let quoted = quoted_le (first (first_text (drop (lines_while Blank Y) Y))) (lines_while Blank Y) Y (while_le Blank Y) in grind (arith, extent_le 1 Y, quoted)

-- a paragraph with its literal block has a line or more, and ends within the block
pub paragraph_within : (X : Block) → 1 ≤ length X → (1 ≤ paragraph_size X) × (paragraph_size X ≤ length X)
unfolding paragraph_size paragraph_len run_size
paragraph_within X some =
    let n : ℕ = suc (lines_while Plain (drop 1 X)) in
    let own : n ≤ length X = omega (arith, while_le Plain (drop 1 X), length-drop 1 X) in
    (omega arith, grind (arith, own, literal_le (drop n X), length-drop n X))

-- a text with nothing below begins a paragraph
nothing_below : (t : List ℕ) → text_form t [] ≡ Paragraph
unfolding text_form adornment_of
nothing_below t = refl

-- a title has its underline below it, so its block has two lines or more
pub two_lines : (X : Block) (t : List ℕ) (short : Bool) → text_form t (next_text X) ≡ Title short → 2 ≤ length X
two_lines (l ∷ m ∷ ms) t short e = omega arith
two_lines _ t short e = cc (nothing_below t)

-- what a text begins has a line or more, and ends within the block, by its form
form_within : (f : TextForm) (X : Block) → 1 ≤ length X → text_form (first_text X) (next_text X) ≡ f → (1 ≤ form_size f X) × (form_size f X ≤ length X)
unfolding hanging_size
form_within Paragraph X some e = paragraph_within X some
form_within ShortUnderline X some e = paragraph_within X some
form_within Definition X some e = (omega arith, below_le 1 X some)
form_within (Title short) X some e = (omega arith, two_lines X (first_text X) short e)

-- What a text begins has a line or more, and ends within the block.
pub text_within : (titles : Bool) (X : Block) → 1 ≤ length X → IsTrue (is_text_row X) → (1 ≤ text_size X) × (text_size X ≤ length X)
unfolding text_size
text_within titles X some h = form_within (text_form (first_text X) (next_text X)) X some refl
