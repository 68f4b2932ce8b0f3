-- Messages on equal names.
use Rattle.std.specs.Prelude.{ℕ, List, [], ◌∷◌, ◌++◌, codes, None}
use Rattle.rst_tree.specs.declared.attrs.Value.TheVariants.{List as Listed}
use Rattle.rst_tree.specs.declared.key.Key.TheVariants.{Backrefs}
use Rattle.rst_tree.specs.declared.node.Node.{Node}
use Rattle.rst_tree.specs.declared.note.Level.{Level}
use Rattle.rst_tree.specs.declared.note.Level.TheVariants.{Error}
use Rattle.rst_tree.specs.Messages.{note_node}
use Rattle.rst_tree.specs.Paths.{with_value}
use Rattle.rst_tree.specs.Walk.{Item}
use Rattle.rst_transform_names.specs.declared.names.Strength.{Strength}
use Rattle.rst_transform_names.specs.declared.names.Strength.TheVariants.{Implicit, Explicit}
use Rattle.rst_transform_names.specs.declared.rulings.DuplicateMessage.{DuplicateMessage}
use Rattle.rst_transform_names.specs.Names.{own_name}

-- the message with some words and an element's name
abbrev pub name_message : Level → List ℕ → Item → Node
name_message level words new = note_node (record { level = level; line = new.line; text = (words ++ own_name new) ++ codes "\"."; block = None })

abbrev pub duplicate_words : Strength → List ℕ
duplicate_words Implicit = codes "Duplicate implicit target name: \""
duplicate_words Explicit = codes "Duplicate explicit target name: \""

-- the message on an element's name, which refers back to the element's id
abbrev pub duplicate_name : DuplicateMessage → Item → List ℕ → Node
duplicate_name message new id = with_value Backrefs (Listed (id ∷ [])) (name_message message.level (duplicate_words message.strength) new)

-- the message on the name of a substitution definition
abbrev pub duplicate_definition : Item → Node
duplicate_definition new = name_message Error (codes "Duplicate substitution definition name: \"") new
