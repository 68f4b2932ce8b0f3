-- The messages in a document (Document Tree, 'system_message').
use Rattle.std.specs.Prelude.{ℕ, max, List, [], ◌∷◌, ◌++◌, if◌then◌else◌, slice_get, option_map}
use Rattle.rst_tree.specs.declared.attrs.Attr.{Attr}
use Rattle.rst_tree.specs.declared.key.Key.TheVariants.{Message}
use Rattle.rst_tree.specs.declared.note.Note.{Note}
use Rattle.rst_tree_index.specs.Kinds.{is_message}
use Rattle.rst_tree.specs.Attributes.{as_number, value_of}
use Rattle.rst_tree.specs.Forest.{Forest, bare, element, words}
use Rattle.rst_tree.specs.LevelNames.{level_by_number}
use Rattle.rst_tree.specs.Nodes.{nodes_of}
use Rattle.rst_tree.specs.Tree.{option_or_nothing, text_in}
use Rattle.rst_transform_messages.specs.Messages.{level_in, NumberedNote}

-- the message of a `system_message` with these attributes and nodes on a line: its first element has the text, the second one source text
abbrev pub note_in : List Attr → Forest → ℕ → Note
note_in attrs nodes line =
    record { level = level_by_number (max (level_in attrs) 1); line = line; text = option_or_nothing (slice_get (nodes_of nodes) 0); block = option_map text_in (slice_get (nodes_of nodes) 1) }

-- the same with its number
abbrev pub message_in : List Attr → Forest → ℕ → NumberedNote
message_in attrs nodes line = (note_in attrs nodes line, as_number (value_of Message attrs))

-- the messages among nodes and in them, in preorder: a message contains no other
abbrev pub messages_among : Forest → List NumberedNote
messages_among bare = []
messages_among (words t r) = messages_among r
messages_among (element t a c l r) = (if is_message t then message_in a c l ∷ [] else messages_among c) ++ messages_among r
