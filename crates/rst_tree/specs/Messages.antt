-- A message as an element of the tree (Document Tree, 'system_message').
use Rattle.std.specs.Prelude.{ℕ, List, [], ◌∷◌, codes, Option, Some, None}
use Rattle.rst_tree.specs.declared.attrs.Attr.{Attr}
use Rattle.rst_tree.specs.declared.attrs.Value.TheVariants.{Text, Number}
use Rattle.rst_tree.specs.declared.key.Key.TheVariants.{Level as LevelKey, Message, XmlSpace}
use Rattle.rst_tree.specs.declared.tag.Tag.{Tag}
use Rattle.rst_tree.specs.declared.tag.Tag.TheVariants.{SystemMessage, Paragraph, LiteralBlock}
use Rattle.rst_tree.specs.declared.node.Node.{Node}
use Rattle.rst_tree.specs.declared.node.Node.TheVariants.{Element}
use Rattle.rst_tree.specs.declared.note.Level.{Level}
use Rattle.rst_tree.specs.declared.note.Note.{Note}
use Rattle.rst_tree.specs.Attributes.{attr, with_attr}
use Rattle.rst_tree.specs.Forest.{bare, words}
use Rattle.rst_tree.specs.LevelNames.{level_number}
use Rattle.rst_tree.specs.Nodes.{forest_of}

-- an element that holds one text
abbrev pub holding : Tag → List Attr → List ℕ → ℕ → Node
holding tag attrs text line = Element tag attrs (words text bare) line

-- a text whose lines stay as they are
abbrev pub literal_of : List ℕ → ℕ → Node
literal_of text line = holding LiteralBlock (attr XmlSpace (Text (codes "preserve")) ∷ []) text line

-- the text of a message, and the source text that it quotes
abbrev pub note_nodes : List ℕ → Option (List ℕ) → ℕ → List Node
note_nodes text None line = holding Paragraph [] text line ∷ []
note_nodes text (Some lines) line = holding Paragraph [] text line ∷ literal_of lines line ∷ []

-- the level: the line, the source and the type are added when the message is printed
abbrev pub note_attrs : Level → List Attr
note_attrs level = attr LevelKey (Number (level_number level)) ∷ []

-- the same with the number of the message, at its place among their names
abbrev pub numbered_message_attrs : ℕ → Level → List Attr
numbered_message_attrs number level = with_attr Message (Number number) (note_attrs level)

-- a message's element that holds some attributes
abbrev pub message_with : List Attr → Note → Node
message_with attrs note = Element SystemMessage attrs (forest_of (note_nodes note.text note.block note.line)) note.line

-- the message's element
abbrev pub note_node : Note → Node
note_node note = message_with (note_attrs note.level) note

-- the message's element with its number
abbrev pub numbered_message_node : ℕ → Note → Node
numbered_message_node number note = message_with (numbered_message_attrs number note.level) note
