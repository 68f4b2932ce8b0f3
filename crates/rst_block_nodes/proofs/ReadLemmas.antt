-- The heads of a text that was read.
use Rattle.std.proofs.Common.{◌≡◌, ℕ, List, Option, length, ap, subst, ◌∙◌}
use Rattle.rst_settings.specs.declared.Parts.{Parts}
use Rattle.rst_tree.specs.declared.node.Node.{Node}
use Rattle.rst_inline_scan.specs.Pieces.{IsPieces}
use Rattle.rst_inline_scan.specs.declared.piece.Piece.{Piece}
use Rattle.rst_inline.specs.Results.{IsRead}
use Rattle.rst_inline.specs.declared.nodes.Pieces.{Pieces}
use Rattle.rst_block_nodes.specs.Results.{HeadsText}
use Rattle.rst_block_nodes.specs.Terms.{parts_of_pieces, groups_of, heads_of}
use Rattle.rst_block_nodes.specs.Texts.{messages_from}
use Rattle.rst_block_nodes.specs.declared.terms.Heads.{Heads}

pub headed_text : (parts : Parts) (text cs ds : List ℕ) (line first notes : ℕ) (pieces qs : List Piece) (reading : Pieces) (texts : List (List (Option Node))) (nodes : List Node) (made : Heads) → cs ≡ text → ds ≡ text → qs ≡ pieces → IsPieces parts.mail parts.unmarked cs 0 pieces → IsRead parts text line first reading → texts ≡ parts_of_pieces ds qs → notes ≡ length made.notes.items → nodes ≡ reading.nodes.items → made.heads.items ≡ heads_of notes line (groups_of texts nodes) → made.notes.items ≡ messages_from first reading.notes.items → HeadsText parts text line first made
headed_text parts text cs ds line first notes pieces qs reading texts nodes made same alike listed are read those many all heads messages = (
  pieces,
  reading,
  subst (λ t. IsPieces parts.mail parts.unmarked t 0 pieces) same are,
  read,
  record {
    heads = heads ∙ ap (λ n. heads_of n line (groups_of texts nodes)) many
        ∙ ap (λ ps. heads_of (length made.notes.items) line (groups_of ps nodes)) (those ∙ ap (λ t. parts_of_pieces t qs) alike ∙ ap (parts_of_pieces text) listed)
        ∙ ap (λ ns. heads_of (length made.notes.items) line (groups_of (parts_of_pieces text pieces) ns)) all;
    notes = messages;
  },
)
