-- Elements that hold a text with inline markup, and messages (Document Tree, 'Element Reference', 'system_message').
use Rattle.std.specs.Prelude.{ℕ, ◌==◌, if◌then◌else◌, List, [], ◌∷◌, Option}
use Rattle.rst_text.specs.Names.{name_in}
use Rattle.rst_tree.specs.Attributes.{attr}
use Rattle.rst_tree.specs.Messages.{note_node, numbered_message_node}
use Rattle.rst_tree.specs.Sends.{counted_on}
use Rattle.rst_tree.specs.Tree.{text_in}
use Rattle.rst_tree.specs.declared.attrs.Attr.{Attr}
use Rattle.rst_tree.specs.declared.attrs.Value.TheVariants.{Text as TextValue, Number}
use Rattle.rst_tree.specs.declared.key.Key.TheVariants.{OwnName, TextMessages}
use Rattle.rst_tree.specs.declared.node.Node.{Node}
use Rattle.rst_tree.specs.declared.note.Level.{Level}
use Rattle.rst_tree.specs.declared.note.Note.{Note}
use Rattle.rst_tree.specs.declared.tag.Tag.TheVariants.{Section}
use Rattle.rst_block_nodes.specs.Elements.{element_of}

-- a message
abbrev pub message_node : Level → ℕ → List ℕ → Option (List ℕ) → Node
message_node level line text block = note_node (record { level = level; line = line; text = text; block = block })

-- the messages of a text as nodes, numbered from the first on
abbrev pub messages_from : ℕ → List Note → List Node
messages_from first [] = []
messages_from first (note ∷ notes) = numbered_message_node first note ∷ messages_from (counted_on first 1) notes

-- the attribute with the number of messages that an element's text has, if it has some
abbrev pub counting : ℕ → List Attr
counting notes = if notes == 0 then [] else attr TextMessages (Number notes) ∷ []

-- a section, named by its title, which it contains; it has the number of the title's messages as an attribute
abbrev pub section_node : Node → ℕ → ℕ → Node
section_node title notes line =
    element_of Section (attr OwnName (TextValue (name_in (text_in title))) ∷ counting notes) (title ∷ []) line
