-- What a line of text, or of one punctuation character, begins (Markup Specification, 'Sections', 'Transitions',
-- 'Definition Lists', 'Paragraphs').
use Rattle.std.specs.Prelude.{ℕ, Bool, true, false, ◌&&◌, ◌||◌, ◌==◌, nat_le, nat_lt, List, if◌then◌else◌, Option, None, Some, is_some, option_map}
use Rattle.std.specs.Borrow.{Bor}
use Rattle.std.specs.Str.{chars}
use Rattle.rst_text.specs.Block.{is_blank}
use Rattle.rst_text.specs.Characters.{columns}
use Rattle.rst_markup_lines.specs.TextStart.{begins_with}
use Rattle.rst_markup_lines.specs.Adornment.{adornment_of}
use Rattle.rst_markup_lines.specs.declared.adornment.Adornment.{Adornment}
use Rattle.rst_markup_blocks.specs.declared.form.TextForm.{TextForm}
use Rattle.rst_markup_blocks.specs.declared.form.TextForm.TheVariants.{Paragraph, ShortUnderline, Definition, Title}
use Rattle.rst_markup_blocks.specs.declared.form.Adorned.{Adorned}
use Rattle.rst_markup_blocks.specs.declared.form.Adorned.TheVariants.{Text, ShortOverline, ShortAdornment, Transition, Title as AdornedTitle, InvalidMarker, Incomplete, MissingUnderline, Mismatch, Unexpected}

-- a text over an underline of this length: one that is shorter than the text has to have four characters
unfoldable pub underlined : ℕ → List ℕ → TextForm
underlined u t =
    if nat_le (columns t) u then Title false
    else if nat_lt u 4 then ShortUnderline
    else Title true

-- a text over a line that may be an underline: without one it begins a paragraph
abbrev pub over_underline : Option Adornment → List ℕ → TextForm
over_underline None t = Paragraph
over_underline (Some mark) t = underlined mark.len t

-- a text, where this is the next line
unfoldable pub text_form : List ℕ → List ℕ → TextForm
text_form t next = if begins_with 32 next then Definition else over_underline (adornment_of next) t

-- an overline and an underline are the same: of one character and one length
abbrev pub is_same_adornment : Adornment → Adornment → Bool
is_same_adornment a b = a.character == b.character && a.len == b.len

-- the characters of a line that may be missing
abbrev pub chars_if_any : Option (Bor (List ℕ)) → Option (List ℕ)
chars_if_any line = option_map (λ t. chars t.now) line

-- an overline over a title, with this line after the title
abbrev pub over_title : Adornment → List ℕ → List ℕ → Option Adornment → Adorned
over_title mark next after None = MissingUnderline (is_blank after)
over_title mark next after (Some under) = if is_same_adornment mark under then AdornedTitle (nat_lt mark.len (columns next)) else Mismatch

-- an overline over a title, which is incomplete where no line is after the title
abbrev pub overlined_by : Adornment → List ℕ → Option (List ℕ) → Adorned
overlined_by mark next None = Incomplete
overlined_by mark next (Some after) = over_title mark next after (adornment_of after)

-- what an overline of any length begins; the line after the next may be missing
unfoldable pub overlined : Adornment → List ℕ → Option (List ℕ) → Adorned
overlined mark next after = if is_some (adornment_of next) then InvalidMarker else overlined_by mark next after

-- a title that isn't wider than its overline
abbrev pub is_whole_title : Adorned → Bool
is_whole_title (AdornedTitle false) = true
is_whole_title _ = false

-- a line of one punctuation character at the top level, over a blank line or none
unfoldable pub adorned_alone : Adornment → Adorned
adorned_alone mark = if nat_le 4 mark.len then Transition else Text

-- A line of one punctuation character at the top level, over a line that isn't blank: with fewer than four characters it is an
-- overline only if a whole title follows.
unfoldable pub adorned_over : Adornment → List ℕ → Option (List ℕ) → Adorned
adorned_over mark next after =
    if nat_le 4 mark.len || is_whole_title (overlined mark next after) then overlined mark next after
    else ShortOverline

-- A line of one punctuation character below the top level: `::` is a text, another of four characters or more is out of place,
-- and a shorter one is a text.
unfoldable pub adorned_below : Adornment → Adorned
adorned_below mark =
    if mark.character == 58 && mark.len == 2 then Text
    else if nat_le 4 mark.len then Unexpected
    else ShortAdornment

-- what a line of one punctuation character begins, before the next two lines: at the top level a transition, a title or
-- a text, and below it neither of the first two
unfoldable pub adorned_form : Bool → Adornment → List ℕ → Option (List ℕ) → Adorned
adorned_form titles mark next after = if titles then (if is_blank next then adorned_alone mark else adorned_over mark next after) else adorned_below mark
