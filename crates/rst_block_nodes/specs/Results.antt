-- What the reading of a text gives (Markup Specification, 'Inline Markup').
use Rattle.std.specs.Prelude.{◌≡◌, ℕ, List, length}
use Rattle.rst_settings.specs.declared.Parts.{Parts}
use Rattle.rst_tree.specs.declared.tag.Tag.{Tag}
use Rattle.rst_inline_scan.specs.Pieces.{IsPieces}
use Rattle.rst_inline_scan.specs.declared.piece.Piece.{Piece}
use Rattle.rst_inline.specs.Results.{IsRead}
use Rattle.rst_inline.specs.declared.nodes.Pieces.{Pieces}
use Rattle.rst_block_nodes.specs.declared.terms.Heads.{Heads}
use Rattle.rst_block_nodes.specs.declared.texted.Texted.{Texted}
use Rattle.rst_block_nodes.specs.Elements.{element_of}
use Rattle.rst_block_nodes.specs.Terms.{parts_of_pieces, groups_of, heads_of}
use Rattle.rst_block_nodes.specs.Texts.{counting, messages_from}

-- an element with the nodes that were read, and the messages
pub record IsHolding (tag : Tag) (line first : ℕ) (read : Pieces) (texted : Texted) : Type 0 where
  pub element : texted.element ≡ element_of tag (counting (length texted.notes.items)) read.nodes.items line
  pub notes : texted.notes.items ≡ messages_from first read.notes.items

-- those of a text
abbrev pub HoldsText : Parts → Tag → ℕ → List ℕ → ℕ → ℕ → Texted → Type 0
HoldsText parts tag line text text_line first texted = (read : Pieces) × IsRead parts text text_line first read × IsHolding tag line first read texted

-- the heads of the nodes that were read, whose texts are those of the pieces of a text, and the messages
pub record AreHeadsOf (text : List ℕ) (pieces : List Piece) (line first : ℕ) (read : Pieces) (made : Heads) : Type 0 where
  pub heads : made.heads.items ≡ heads_of (length made.notes.items) line (groups_of (parts_of_pieces text pieces) read.nodes.items)
  pub notes : made.notes.items ≡ messages_from first read.notes.items

-- those of a text, whose pieces are exactly one list
abbrev pub HeadsText : Parts → List ℕ → ℕ → ℕ → Heads → Type 0
HeadsText parts text line first made = (pieces : List Piece) × (read : Pieces) × IsPieces parts.mail parts.unmarked text 0 pieces × IsRead parts text line first read × AreHeadsOf text pieces line first read made
