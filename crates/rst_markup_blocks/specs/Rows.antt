-- The rows of the table of constructs (Markup Specification, 'Body Elements'), each with its condition, on a block
-- whose first line it is about.
use Rattle.std.specs.Prelude.{ℕ, Bool, true, is_some}
use Rattle.rst_text.specs.Block.{Block, first_parts, first_text, is_blank}
use Rattle.rst_text.specs.Extent.{extent}
use Rattle.rst_text.specs.Reach.{reach}
use Rattle.rst_markup_lines.specs.TextStart.{begins_with}
use Rattle.rst_markup_lines.specs.Marker.{bullet, doctest, line_bar}
use Rattle.rst_markup_lines.specs.Field.{field_of}
use Rattle.rst_markup_lines.specs.ExplicitMarks.{dots, underscores}
use Rattle.rst_markup_lines.specs.Adornment.{adornment_of}
use Rattle.rst_markup_blocks.specs.Conditions.{next_text, after_text, item_enumerator, item_option}

-- a blank line begins nothing
abbrev pub is_blank_row : Block → Bool
is_blank_row X = is_blank (first_text X)

-- a line that begins with a space begins a block quote
abbrev pub is_quote_row : Block → Bool
is_quote_row X = begins_with 32 (first_text X)

-- a bullet begins an item of a bullet list
abbrev pub is_bullet_row : Block → Bool
is_bullet_row X = is_some (bullet (first_text X))

-- an enumerator begins an item of an enumerated list, if the next line may come below one
abbrev pub is_enumerator_row : Block → Bool
is_enumerator_row X = is_some (item_enumerator (first_text X) (next_text X))

-- a name between colons begins a field
abbrev pub is_field_row : Block → Bool
is_field_row X = is_some (field_of (first_parts X) (first_text X))

-- options begin an item of an option list, if a description follows
abbrev pub is_option_row : Block → Bool
is_option_row X = is_some (item_option (first_text X) (next_text X) (after_text X))

-- `>>>` begins a doctest block
abbrev pub is_doctest_row : Block → Bool
is_doctest_row X = is_some (doctest (first_text X))

-- a bar begins a line of a line block
abbrev pub is_bar_row : Block → Bool
is_bar_row X = is_some (line_bar (first_text X))

-- dots, with spaces or the end after them, begin explicit markup
abbrev pub is_explicit_row : Block → Bool
is_explicit_row X = is_some (dots (first_text X))

-- `__` begins an anonymous target
abbrev pub is_anonymous_row : Block → Bool
is_anonymous_row X = is_some (underscores (first_text X))

-- the reach of a construct that is looked at no further than through the first line after it that isn't blank
abbrev pub own_reach : (Bool → Block → ℕ) → Bool → Block → ℕ
own_reach size titles X = reach (size titles X) X

-- a blank line is alone
abbrev pub blank_size : Block → ℕ
blank_size X = 1

-- a block quote has the lines that are blank or indented, without the blank ones at its end
abbrev pub quote_size : Block → ℕ
quote_size X = extent 1 X

-- any line begins a text, where no row before holds
abbrev pub is_text_row : Block → Bool
is_text_row X = true

-- a line of one punctuation character, once or more, begins a transition, a title or a text
abbrev pub is_adornment_row : Block → Bool
is_adornment_row X = is_some (adornment_of (first_text X))
