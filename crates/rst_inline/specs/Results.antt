-- What an inline text means (Markup Specification, 'Inline Markup'; Document Tree, 'problematic').
use Rattle.std.specs.Prelude.{◌≡◌, ℕ, List, [], ◌∷◌, ◌++◌, None}
use Rattle.std.specs.List.{flat_map}
use Rattle.rst_settings.specs.declared.Parts.{Parts}
use Rattle.rst_tree.specs.Sends.{counted_on}
use Rattle.rst_tree.specs.declared.node.Node.{Node}
use Rattle.rst_tree.specs.declared.note.Note.{Note}
use Rattle.rst_tree.specs.Nodes.{nodes_of}
use Rattle.rst_text.specs.Characters.{Text}
use Rattle.rst_inline_scan.specs.Pieces.{IsPieces}
use Rattle.rst_inline_scan.specs.declared.piece.Piece.{Piece}
use Rattle.rst_inline.specs.declared.reading.Meaning.{Meaning}
use Rattle.rst_inline.specs.declared.reading.Meaning.TheVariants.{Nothing, One, Two, Wrong}
use Rattle.rst_inline.specs.declared.nodes.Pieces.{Pieces}
use Rattle.rst_inline.specs.Parts.{source}
use Rattle.rst_inline.specs.Elements.{problematic_node}
use Rattle.rst_inline.specs.Readings.{reading}

-- the messages of a piece: one where it is wrong
abbrev pub notes_by : Meaning → ℕ → List Note
notes_by (Wrong level text) line = record { level = level; line = line; text = text; block = None } ∷ []
notes_by _ line = []

-- the messages of pieces in order
abbrev pub notes_of : Parts → Text → ℕ → List Piece → List Note
notes_of parts t line pieces = flat_map (λ p. notes_by (reading parts t line p) line) pieces

-- the nodes of a piece, where the next message has this number
abbrev pub nodes_by : Meaning → ℕ → Text → ℕ → List Node
nodes_by Nothing number source line = []
nodes_by (One node) number source line = node ∷ []
nodes_by (Two both) number source line = nodes_of both
nodes_by (Wrong level text) number source line = problematic_node number source line ∷ []

-- the number of the next message after a piece, where it was this before it
abbrev pub number_after : Meaning → ℕ → ℕ
number_after (Wrong level text) number = counted_on number 1
number_after _ number = number

-- the nodes of pieces in order, where the next message has this number
abbrev pub nodes_from : Parts → Text → ℕ → ℕ → List Piece → List Node
nodes_from parts t line number [] = []
nodes_from parts t line number (p ∷ ps) = nodes_by (reading parts t line p) number (source t p) line ++ nodes_from parts t line (number_after (reading parts t line p) number) ps

-- the nodes and the messages are those of the pieces
pub record AreReadFromPieces (parts : Parts) (t : Text) (line first : ℕ) (pieces : List Piece) (read : Pieces) : Type 0 where
  pub nodes : read.nodes.items ≡ nodes_from parts t line first pieces
  pub notes : read.notes.items ≡ notes_of parts t line pieces

-- They are those of the pieces of the text, of which there is exactly one list.
abbrev pub IsRead : Parts → Text → ℕ → ℕ → Pieces → Type 0
IsRead parts t line first read = (pieces : List Piece) × IsPieces parts.mail parts.unmarked t 0 pieces × AreReadFromPieces parts t line first pieces read
