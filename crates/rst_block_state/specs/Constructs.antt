-- The construct that a block begins with: that of its first line's kind, with its mark (Markup Specification, 'Body Elements', 'Sections',
-- 'Transitions').
use Rattle.std.specs.Prelude.{ℕ, Bool, List, [], ◌∷◌, ◌++◌, drop, codes, if◌then◌else◌}
use Rattle.std.specs.Option.{option_map_or}
use Rattle.rst_text.specs.Block.{Block, first_text, first_number, first_parts}
use Rattle.rst_tree.specs.declared.node.Node.{Node}
use Rattle.rst_tree.specs.declared.note.Level.{Level}
use Rattle.rst_tree.specs.declared.note.Level.TheVariants.{Info, Error, Severe}
use Rattle.rst_markup_lines.specs.Adornment.{adornment_of}
use Rattle.rst_markup_lines.specs.Field.{field_of}
use Rattle.rst_markup_lines.specs.TextStart.{first}
use Rattle.rst_markup_lines.specs.Marker.{bullet, line_bar}
use Rattle.rst_markup_lines.specs.declared.adornment.Adornment.{Adornment}
use Rattle.rst_markup_lines.specs.declared.enumerator.Enumerator.{Enumerator}
use Rattle.rst_markup_lines.specs.declared.field.FieldMark.{FieldMark}
use Rattle.rst_markup_lines.specs.declared.marker.Marker.{Marker}
use Rattle.rst_markup_blocks.specs.Conditions.{next_text, after_text, item_enumerator, item_option}
use Rattle.rst_markup_blocks.specs.Forms.{adorned_form, text_form}
use Rattle.rst_markup_blocks.specs.Kinds.{kind_at}
use Rattle.rst_markup_blocks.specs.Partition.{Span}
use Rattle.rst_markup_blocks.specs.Sizes.{third_text}
use Rattle.rst_markup_blocks.specs.declared.form.Adorned.{Adorned}
use Rattle.rst_markup_blocks.specs.declared.form.Adorned.TheVariants.{Text as AdornedText, ShortOverline, ShortAdornment, Transition, Title as AdornedTitle, InvalidMarker, Incomplete, MissingUnderline, Mismatch, Unexpected}
use Rattle.rst_markup_blocks.specs.declared.form.TextForm.{TextForm}
use Rattle.rst_markup_blocks.specs.declared.form.TextForm.TheVariants.{Paragraph, ShortUnderline, Definition, Title}
use Rattle.rst_markup_blocks.specs.declared.kind.Kind.{Kind}
use Rattle.rst_markup_blocks.specs.declared.kind.Kind.TheVariants.{Blank, Quote, Bullet, Enumerator as EnumeratorKind, Field, OptionItem, Doctest, Line, Grid, Simple, Explicit, Anonymous, Adornment as AdornmentKind, Text}
use Rattle.rst_block_state.specs.Texts.{system_message}

-- An item of a list, by its mark: a bullet's character with its marker, an enumerator, a field's name with its marker, or the marker of options. An
-- item of a definition list has no mark but its term, the text of its line, and the messages that explain why the line is a text.
pub data ItemMark : Type 0 where
  bullet_item : ℕ → Marker → ItemMark
  enumerated_item : Enumerator → ItemMark
  definition_item : List Node → ItemMark
  field_item : FieldMark → ItemMark
  option_item : Marker → ItemMark

-- A construct. A title with its underline and a paragraph have the messages that explain why their first line is a text. Titles record whether
-- they are wider than their adornment. Misplaced lines, which are neither a title nor a transition, have the level and the text of their message.
pub data Construct : Type 0 where
  nothing : Construct
  block_quote : Construct
  item_of_list : ItemMark → Construct
  doctest_block : Construct
  bar_line : Marker → Construct
  grid : Construct
  simple : Construct
  explicit_markup : Construct
  transition : Construct
  overlined_title : Adornment → Bool → Construct
  misplaced_lines : Level → List ℕ → Construct
  underlined_title : List Node → Bool → Construct
  paragraph : List Node → Construct

-- ---- texts

-- The INFO at an underline that is shorter than its title and has fewer than four characters, so that both lines are text. There is none where no
-- title is recognized.
abbrev pub short_underline : Bool → Block → List Node
short_underline titles X =
    if titles then system_message Info (first_number (drop 1 X))
    (codes "Possible title underline, too short for the title.\nTreating it as ordinary text because it's so short.") ∷ []
    else []

-- the construct of a text of a form, after messages that explain why its line is a text
abbrev pub text_by : TextForm → Bool → List Node → Block → Construct
text_by Paragraph titles infos X = paragraph infos
text_by ShortUnderline titles infos X = paragraph (infos ++ short_underline titles X)
text_by Definition titles infos X = item_of_list (definition_item infos)
text_by (Title short) titles infos X = underlined_title infos short

-- the construct of the text in the first line, after messages that explain why the line is a text
abbrev pub text_after : Bool → List Node → Block → Construct
text_after titles infos X = text_by (text_form (first_text X) (next_text X)) titles infos X

-- the construct of the text in the first line
abbrev pub plain_text : Bool → Block → Construct
plain_text titles X = text_after titles [] X

-- ---- lines of one punctuation character

-- the INFO at an overline that is too short to be one
abbrev pub short_overline : Block → Node
short_overline X =
    system_message Info (first_number X) (codes "Possible incomplete section title.\nTreating the overline as ordinary text because it's so short.")

-- the INFO at a line that is too short to be an overline or a transition, where neither is recognized
abbrev pub short_adornment : Block → Node
short_adornment X =
    system_message Info (first_number X) (codes "Unexpected possible title overline or transition.\nTreating it as ordinary text because it's so short.")

-- the construct of a line of one punctuation character, by its form
abbrev pub adorned_by : Adorned → Bool → Adornment → Block → Construct
adorned_by AdornedText titles mark X = plain_text titles X
adorned_by ShortOverline titles mark X = text_after titles (short_overline X ∷ []) X
adorned_by ShortAdornment titles mark X = text_after titles (short_adornment X ∷ []) X
adorned_by Transition titles mark X = transition
adorned_by (AdornedTitle short) titles mark X = overlined_title mark short
adorned_by InvalidMarker titles mark X = misplaced_lines Error (codes "Invalid section title or transition marker.")
adorned_by Incomplete titles mark X = misplaced_lines Severe (codes "Incomplete section title.")
adorned_by (MissingUnderline blank) titles mark X = misplaced_lines Severe (codes "Missing matching underline for section title overline.")
adorned_by Mismatch titles mark X = misplaced_lines Severe (codes "Title overline & underline mismatch.")
adorned_by Unexpected titles mark X = misplaced_lines Severe (codes "Unexpected section title or transition.")

-- the same, where the two lines after it decide its form
abbrev pub adorned : Bool → Block → Adornment → Construct
adorned titles X mark = adorned_by (adorned_form titles mark (next_text X) (third_text X)) titles mark X

-- ---- all kinds

-- an item of a bullet list, where the first line begins with this character
abbrev pub bullet_with : Bool → Block → ℕ → Construct
bullet_with titles X c = option_map_or (λ m. item_of_list (bullet_item c m)) (bullet (first_text X)) (plain_text titles X)

-- The construct of the first line's kind, of which the line has the mark; a line without the mark would be a text. Anonymous targets are explicit
-- markup.
abbrev pub construct_by : Kind → Bool → Block → Construct
construct_by Blank titles X = nothing
construct_by Quote titles X = block_quote
construct_by Bullet titles X = option_map_or (bullet_with titles X) (first (first_text X)) (plain_text titles X)
construct_by EnumeratorKind titles X =
    option_map_or (λ e. item_of_list (enumerated_item e)) (item_enumerator (first_text X) (next_text X)) (plain_text titles X)
construct_by Field titles X = option_map_or (λ m. item_of_list (field_item m)) (field_of (first_parts X) (first_text X)) (plain_text titles X)
construct_by OptionItem titles X =
    option_map_or (λ m. item_of_list (option_item m)) (item_option (first_text X) (next_text X) (after_text X)) (plain_text titles X)
construct_by Doctest titles X = doctest_block
construct_by Line titles X = option_map_or bar_line (line_bar (first_text X)) (plain_text titles X)
construct_by Grid titles X = grid
construct_by Simple titles X = simple
construct_by Explicit titles X = explicit_markup
construct_by Anonymous titles X = explicit_markup
construct_by AdornmentKind titles X = option_map_or (adorned titles X) (adornment_of (first_text X)) (plain_text titles X)
construct_by Text titles X = plain_text titles X

-- the construct that a block begins with, where titles are recognized in it or not; it is nothing only where the first line is blank or missing
abbrev pub construct_at : Bool → Block → Construct
construct_at titles X = construct_by (kind_at X) titles X

-- a construct and its lines
pub record Found : Type 0 where
  pub what : Construct
  pub span : Span

-- the construct of some lines of a block
abbrev pub found_at : Bool → Block → Span → Found
found_at titles B s = record { what = construct_at titles (drop s.start B); span = s }
