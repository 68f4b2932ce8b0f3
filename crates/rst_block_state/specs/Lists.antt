-- Lists and their items (Markup Specification, 'Bullet Lists', 'Enumerated Lists', 'Definition Lists', 'Field Lists', 'Option Lists').
use Rattle.std.specs.Prelude.{ℕ, ◌+◌, ◌==◌, List, [], ◌∷◌, ◌++◌, drop, map, slice_range, option_map, if◌then◌else◌}
use Rattle.rst_text.specs.Block.{Block, first_text, first_number, first_parts}
use Rattle.rst_tree.specs.Forest.{bare}
use Rattle.rst_tree.specs.declared.node.Node.{Node}
use Rattle.rst_tree.specs.declared.node.Node.TheVariants.{Element}
use Rattle.rst_tree.specs.declared.note.Level.TheVariants.{Info}
use Rattle.rst_tree.specs.declared.tag.Tag.{Tag}
use Rattle.rst_tree.specs.declared.tag.Tag.TheVariants.{ListItem, DefinitionList, DefinitionListItem, Definition, FieldList, Field, FieldName, FieldBody, OptionList, OptionListItem, OptionGroup, Description}
use Rattle.rst_markup_lines.specs.Enumerator.{first_reading}
use Rattle.rst_markup_lines.specs.Options.{options_in}
use Rattle.rst_markup_lines.specs.Place.{place_of}
use Rattle.rst_markup_lines.specs.declared.enumerator.Enumerator.{Enumerator}
use Rattle.rst_markup_lines.specs.declared.enumerator.Format.{Format}
use Rattle.rst_markup_lines.specs.declared.enumerator.Format.TheVariants.{Parentheses}
use Rattle.rst_markup_lines.specs.declared.enumerator.Reading.{Reading}
use Rattle.rst_markup_lines.specs.declared.field.FieldMark.{FieldMark}
use Rattle.rst_markup_lines.specs.declared.marker.Marker.{Marker}
use Rattle.rst_markup_lines.specs.declared.options.ListedArgument.{ListedArgument}
use Rattle.rst_markup_lines.specs.declared.options.ListedOption.{ListedOption}
use Rattle.rst_markup_lines.specs.declared.place.Characters.{Characters}
use Rattle.rst_markup_blocks.specs.declared.part.Part.{Part}
use Rattle.rst_block_nodes.specs.Elements.{element_of, bullet_list_node, enumerated_list_node, start_text, option_node}
use Rattle.rst_block_nodes.specs.Sections.{filled}
use Rattle.rst_block_state.specs.Constructs.{ItemMark, bullet_item, enumerated_item, definition_item, field_item, option_item, Construct, item_of_list}
use Rattle.rst_block_state.specs.Numbered.{Numbered, ◌>>=◌, just}
use Rattle.rst_block_state.specs.Texts.{excerpt, lines_in, system_message, termed, texted}
use Rattle.rst_block_state.specs.Within.{Within, hanging, indented_part, item_part}

-- ---- items

-- An item that begins with some elements, as a term or a field name, and ends with a body, whose lines are a block inside. The messages on the
-- texts of these elements come first in the body.
abbrev pub item_with : Within → Block → Tag → Tag → ℕ → Part → List Node → List Node → Numbered (List Node)
item_with c B item body line part heads notes = do
  nodes ← c.inner (lines_in B part)
  just (element_of item [] (heads ++ element_of body [] (notes ++ nodes) line ∷ []) line ∷ [])

-- an item of a bullet list or of an enumerated list
abbrev pub list_item : Within → Block → ℕ → Part → Numbered (List Node)
list_item c B line part = do
  nodes ← c.inner (lines_in B part)
  just (element_of ListItem [] nodes line ∷ [])

-- an option with its argument, if it has one, by their places in a text
abbrev pub option_element : List ℕ → ℕ → ListedOption → Node
option_element t line o = option_node (excerpt t o.string) (option_map (λ (a : ListedArgument). (a.delimiter, excerpt t a.text)) o.argument) line

-- the options of a line
abbrev pub option_group : List ℕ → ℕ → Node
option_group t line = element_of OptionGroup [] (map (option_element t line) (options_in t)) line

-- an item of a definition list: the term and the classifiers in line i, with which X begins, and the indented block below it
abbrev pub definition : Within → Block → ℕ → Block → Numbered (List Node)
definition c B i X = do
  made ← termed (first_parts X) (first_text X) (first_number X)
  item_with c B DefinitionListItem Definition (first_number X) (indented_part (i + 1) (drop 1 X)) made.0 made.1

-- a field: its name, and the hanging block of its marker
abbrev pub field : Within → Block → ℕ → FieldMark → Block → Numbered (List Node)
field c B i m X = do
  made ← texted (first_parts X) FieldName (first_number X) (slice_range (first_text X) m.name.from m.name.to) (first_number X)
  item_with c B Field FieldBody (first_number X) (hanging i m.marker X) (made.0 ∷ []) made.1

-- an item of an option list: its options, and the hanging block of their marker
abbrev pub option : Within → Block → ℕ → Marker → Block → Numbered (List Node)
option c B i m X =
    item_with c B OptionListItem Description (first_number X) (hanging i m X) (option_group (first_text X) (first_number X) ∷ []) []

-- the item of a list that has this mark in line i, with which X begins
abbrev pub item_by : Within → Block → ℕ → ItemMark → Block → Numbered (List Node)
item_by c B i (bullet_item ch m) X = list_item c B (first_number X) (item_part i m X)
item_by c B i (enumerated_item e) X = list_item c B (first_number X) (item_part i e.marker X)
item_by c B i (definition_item infos) X = definition c B i X
item_by c B i (field_item m) X = field c B i m X
item_by c B i (option_item m) X = option c B i m X

-- ---- lists

-- the messages that explain why the line of a term is a text; no other item of a list has some
abbrev pub infos_of : Construct → List Node
infos_of (item_of_list (definition_item infos)) = infos
infos_of _ = []

-- how many characters come before an ordinal
abbrev pub ordinal_from : Format → ℕ
ordinal_from Parentheses = 1
ordinal_from _ = 0

-- the place of an enumerator's ordinal in its line
abbrev pub ordinal_place : Enumerator → Characters
ordinal_place e = place_of (ordinal_from e.format) e.written.len

-- the INFO on a list that doesn't begin with 1, at its first line
abbrev pub start_note : Enumerator → Reading → Block → List Node
start_note e reading X =
    if reading.ordinal == 1 then []
    else system_message Info (first_number X) (start_text (excerpt (first_text X) (ordinal_place e)) reading.ordinal) ∷ []

-- a list whose element has no attributes
abbrev pub bare_list : Tag → Block → Node
bare_list tag X = Element tag [] bare (first_number X)

-- the list that an item begins, without its items; X begins with its first line
abbrev pub empty_list : ItemMark → Block → Node
empty_list (bullet_item c m) X = bullet_list_node c (first_number X)
empty_list (enumerated_item e) X = enumerated_list_node e (first_number X)
empty_list (definition_item infos) X = bare_list DefinitionList X
empty_list (field_item m) X = bare_list FieldList X
empty_list (option_item m) X = bare_list OptionList X

-- the message on the first ordinal of a list; other lists than enumerated ones have none
abbrev pub list_notes : ItemMark → Block → List Node
list_notes (enumerated_item e) X = start_note e (first_reading e.written.ordinals) X
list_notes _ X = []

-- A list of items, by the mark of the first; X begins with its first line. The messages on why the lines of terms are texts come before the
-- list, the message on its first ordinal comes after it.
abbrev pub list_by : ItemMark → Block → List Node → List Node → List Node
list_by mark X infos items = infos ++ filled (empty_list mark X) items ∷ list_notes mark X
