-- How many lines the construct at the front of a block has (Markup Specification, 'Body Elements',
-- 'Quoted Literal Blocks', 'Sections', 'Transitions').
use Rattle.std.specs.Prelude.{ℕ, suc, ◌+◌, ◌-◌, Bool, true, false, nat_lt, min, List, drop, length, if◌then◌else◌, Option, None, Some, unwrap_or}
use Rattle.std.specs.Option.{option_map_or}
use Rattle.rst_text.specs.Block.{Block, first_text}
use Rattle.rst_text.specs.Extent.{extent}
use Rattle.rst_markup_lines.specs.TextStart.{first}
use Rattle.rst_markup_lines.specs.Marker.{bullet}
use Rattle.rst_markup_lines.specs.Enumerator.{enumerator_of}
use Rattle.rst_markup_lines.specs.Closing.{ends_in_colons}
use Rattle.rst_markup_lines.specs.Adornment.{adornment_of, is_punctuation}
use Rattle.rst_markup_lines.specs.declared.marker.Marker.{Marker}
use Rattle.rst_markup_blocks.specs.declared.lines.LineTest.{LineTest}
use Rattle.rst_markup_blocks.specs.declared.lines.LineTest.TheVariants.{Blank, Filled, Indented, Plain, Begins}
use Rattle.rst_markup_blocks.specs.declared.form.TextForm.{TextForm}
use Rattle.rst_markup_blocks.specs.declared.form.TextForm.TheVariants.{Paragraph, ShortUnderline, Definition, Title}
use Rattle.rst_markup_blocks.specs.declared.form.Adorned.{Adorned}
use Rattle.rst_markup_blocks.specs.declared.form.Adorned.TheVariants.{Text, ShortOverline, ShortAdornment, Transition, Title as AdornedTitle, InvalidMarker, Incomplete, MissingUnderline, Mismatch, Unexpected}
use Rattle.rst_markup_blocks.specs.Lines.{lines_while}
use Rattle.rst_markup_blocks.specs.Conditions.{text_at, next_text, after_text}
use Rattle.rst_markup_blocks.specs.Forms.{text_form, adorned_form}

-- the line and the indented block below it
unfoldable pub hanging_size : Block → ℕ
hanging_size X = suc (extent 1 (drop 1 X))

-- how far an item's further lines are indented at least: by as much as its text, or at all where nothing follows
-- the marker
unfoldable pub least_below : Marker → ℕ
least_below m = if m.bare then 1 else m.cut

-- an item with this marker
abbrev pub item_size : Marker → Block → ℕ
item_size m X = suc (extent (least_below m) (drop 1 X))

-- an item of a bullet list, by its marker; a line without one would be alone
unfoldable pub bullet_size : Block → ℕ
bullet_size X = option_map_or (λ m. item_size m X) (bullet (first_text X)) 1

-- an item of an enumerated list, by its enumerator's marker; a line without one would be alone
unfoldable pub enumerator_size : Block → ℕ
enumerator_size X = option_map_or (λ e. item_size e.marker X) (enumerator_of (first_text X)) 1

-- the line and the lines below it that pass a test
unfoldable pub run_size : LineTest → Block → ℕ
run_size test X = suc (lines_while test (drop 1 X))

-- the line and the indented lines below it, up to a blank one
unfoldable pub indented_size : Block → ℕ
indented_size X = run_size Indented X

-- lines up to a blank one
unfoldable pub doctest_size : Block → ℕ
doctest_size X = lines_while Filled X

-- a paragraph's own lines: up to a blank or an indented one
unfoldable pub paragraph_len : Block → ℕ
paragraph_len X = run_size Plain X

-- blank lines and, after them, the lines that begin with this character, if it is punctuation
abbrev pub quoted_len : Option ℕ → ℕ → Block → ℕ
quoted_len None blanks Y = 0
quoted_len (Some c) blanks Y = if is_punctuation c then blanks + lines_while (Begins c) (drop blanks Y) else 0

-- lines that begin with the punctuation character that the first of them begins with
unfoldable pub quoted_size : ℕ → Block → ℕ
quoted_size blanks Y = quoted_len (first (first_text (drop blanks Y))) blanks Y

-- a literal block with the blank lines before it: an indented block, or a quoted one
unfoldable pub literal_size : Block → ℕ
literal_size Y = if nat_lt 0 (extent 1 Y) then extent 1 Y else quoted_size (lines_while Blank Y) Y

-- the last of a paragraph's own lines
abbrev pub last_text : Block → List ℕ
last_text X = text_at X (paragraph_len X - 1)

-- a paragraph with the literal block that it announces
unfoldable pub paragraph_size : Block → ℕ
paragraph_size X = paragraph_len X + (if ends_in_colons (last_text X) then literal_size (drop (paragraph_len X) X) else 0)

-- 1 for a line that isn't empty, else 0. No rule of markup: a possible overline over such a line costs one look more.
abbrev pub overline_looks : List ℕ → ℕ
overline_looks t = min 1 (length t)

-- a paragraph with its literal block, a definition with its indented block, or a title with its underline
abbrev pub form_size : TextForm → Block → ℕ
form_size Paragraph X = paragraph_size X
form_size ShortUnderline X = paragraph_size X
form_size Definition X = hanging_size X
form_size (Title short) X = 2

-- what a line of text begins: a paragraph, a definition or a title
unfoldable pub text_size : Block → ℕ
text_size X = form_size (text_form (first_text X) (next_text X)) X

-- how many lines a form takes whatever follows; none for one that is a text
abbrev pub fixed_size : Adorned → Option ℕ
fixed_size Transition = Some 1
fixed_size Unexpected = Some 1
fixed_size InvalidMarker = Some 2
fixed_size Incomplete = Some 2
fixed_size (MissingUnderline true) = Some 2
fixed_size (MissingUnderline false) = Some 3
fixed_size (AdornedTitle short) = Some 3
fixed_size Mismatch = Some 3
fixed_size Text = None
fixed_size ShortOverline = None
fixed_size ShortAdornment = None

-- what a line of one punctuation character begins, by its form: it has those lines, or the ones of a text where none are fixed
abbrev pub adorned_size : Adorned → Block → ℕ
adorned_size form X = unwrap_or (fixed_size form) (text_size X)

-- the text of a block's third line, if there is one
abbrev pub third_text : Block → Option (List ℕ)
third_text X = if nat_lt 2 (length X) then Some (after_text X) else None

-- what a line of one punctuation character begins, a transition, a title or a text; a line that is no such one begins a text
unfoldable pub adornment_size : Bool → Block → ℕ
adornment_size titles X = option_map_or (λ mark. adorned_size (adorned_form titles mark (next_text X) (third_text X)) X) (adornment_of (first_text X)) (text_size X)
