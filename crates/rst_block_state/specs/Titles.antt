-- Titles of sections, and transitions (Markup Specification, 'Sections', 'Transitions').
use Rattle.std.specs.Prelude.{ℕ, Bool, true, false, List, [], ◌∷◌, ◌++◌, drop, codes, map, Option, Some, None, unwrap_or}
use Rattle.std.specs.Option.{option_to_list}
use Rattle.rst_settings.specs.declared.Parts.{Parts}
use Rattle.rst_text.specs.Block.{Block, first_text, first_number, first_parts}
use Rattle.rst_tree.specs.Forest.{bare}
use Rattle.rst_tree.specs.declared.node.Node.{Node}
use Rattle.rst_tree.specs.declared.node.Node.TheVariants.{Element}
use Rattle.rst_tree.specs.declared.note.Level.TheVariants.{Warning, Severe}
use Rattle.rst_tree.specs.declared.tag.Tag.TheVariants.{Title as TitleTag, Transition as TransitionTag}
use Rattle.rst_markup_lines.specs.TextStart.{first, unindented}
use Rattle.rst_markup_lines.specs.declared.adornment.Adornment.{Adornment}
use Rattle.rst_markup_blocks.specs.Conditions.{next_text}
pub use Rattle.rst_block_nodes.specs.Sections.{Title, Item, plain, titled}
use Rattle.rst_block_nodes.specs.declared.heading.Style.{Style}
use Rattle.rst_block_state.specs.Numbered.{Numbered, ◌>>=◌, just}
use Rattle.rst_block_state.specs.Texts.{message_with_lines, texted}

-- the WARNING on an adornment that is shorter than its title
abbrev pub short_warning : Bool → ℕ → List ℕ → List ℕ → Option Node
short_warning true line text lines = Some (message_with_lines Warning line text lines)
short_warning false line text lines = None

-- a title of a style, with the text of a line
abbrev pub title_item : Parts → Style → List ℕ → ℕ → Option Node → List ℕ → Numbered (List Item)
title_item parts style text line warning lines = do
  made ← texted parts TitleTag line text line
  just (titled (record { style = style; element = made.0; notes = made.1; warning = warning; line = line; source = lines }) ∷ [])

-- a title between its overline and its underline; these are its lines, and X begins with them. Its text is without its indentation.
abbrev pub overlined_nodes : Adornment → Bool → List ℕ → Block → Numbered (List Item)
overlined_nodes mark short lines X =
    title_item (first_parts X) (record { character = mark.character; overlined = true }) (unindented (next_text X)) (first_number (drop 1 X))
    (short_warning short (first_number X) (codes "Title overline too short.") lines) lines

-- the WARNING on an underline; it has the number of the underline
abbrev pub underline_warning : Bool → List ℕ → Block → Option Node
underline_warning short lines X = short_warning short (first_number (drop 1 X)) (codes "Title underline too short.") lines

-- A title over its underline; these are its lines, and X begins with them. Where no title is recognized, a SEVERE message takes its place, after the
-- WARNING on the underline.
abbrev pub underline_item : Bool → Bool → List ℕ → Block → Numbered (List Item)
underline_item true short lines X =
    title_item (first_parts X) (record { character = unwrap_or (first (next_text X)) 32; overlined = false }) (first_text X) (first_number X)
    (underline_warning short lines X) lines
underline_item false short lines X =
    just (map plain (option_to_list (underline_warning short lines X)
    ++ message_with_lines Severe (first_number (drop 1 X)) (codes "Unexpected section title.") lines ∷ []))

-- the same, after messages that explain why the line of its text is a text
abbrev pub underlined_nodes : Bool → List Node → Bool → List ℕ → Block → Numbered (List Item)
underlined_nodes titles infos short lines X = do
  items ← underline_item titles short lines X
  just (map plain infos ++ items)

-- a transition
abbrev pub transition_node : ℕ → Node
transition_node line = Element TransitionTag [] bare line
