-- What is read of a text is what the functions of the text give.
use Rattle.std.proofs.Common.{◌≡◌, ℕ, List, length, Ok, ap, ap₂, sym, ◌∙◌}
use Rattle.rst_settings.specs.declared.Parts.{Parts}
use Rattle.rst_inline_scan.specs.Reading.{pieces_of}
use Rattle.rst_inline_scan.specs.declared.piece.Piece.{Piece}
use Rattle.rst_inline_scan.proofs.ReadingLemmas.{pieces_of-only}
use Rattle.rst_inline.specs.Results.{nodes_from, notes_of, IsRead}
use Rattle.rst_inline.specs.declared.nodes.Pieces.{Pieces}
use Rattle.rst_tree.specs.Sends.{counted_on}
use Rattle.rst_tree.specs.declared.node.Node.{Node}
use Rattle.rst_tree.specs.declared.tag.Tag.{Tag}
use Rattle.rst_block_nodes.specs.declared.terms.Heads.{Heads}
use Rattle.rst_block_nodes.specs.declared.texted.Texted.{Texted}
use Rattle.rst_block_nodes.specs.Elements.{element_of}
use Rattle.rst_block_nodes.specs.Readings.{read_nodes, read_notes, texted_node, term_nodes, texted, termed}
use Rattle.rst_block_nodes.specs.Results.{HoldsText, HeadsText}
use Rattle.rst_block_nodes.specs.Terms.{parts_of_pieces, groups_of, heads_of}
use Rattle.rst_block_nodes.specs.Texts.{counting, messages_from}

reading_is : (parts : Parts) (t : List ℕ) (line first : ℕ) (r : Pieces) → IsRead parts t line first r → (r.nodes.items ≡ read_nodes parts t line first) × (messages_from first r.notes.items ≡ read_notes parts t line first)
reading_is parts t line first r h =
    let same : h.0 ≡ pieces_of parts.mail parts.unmarked t = pieces_of-only parts.mail parts.unmarked t h.0 h.1 in (
      h.2.nodes ∙ ap (nodes_from parts t line first) same,
      ap (messages_from first) (h.2.notes ∙ ap (notes_of parts t line) same),
    )

pub texted-is : (parts : Parts) (tag : Tag) (line : ℕ) (t : List ℕ) (text_line first : ℕ) (made : Texted) → HoldsText parts tag line t text_line first made
    → (made.element ≡ texted_node parts tag line t text_line first) × (made.notes.items ≡ read_notes parts t text_line first)
texted-is parts tag line t text_line first made h =
    let r = reading_is parts t text_line first h.0 h.1 in (
      h.2.element
          ∙ ap (λ (ns : List Node). element_of tag (counting (length ns)) h.0.nodes.items line) (h.2.notes ∙ r.1)
          ∙ ap (λ (xs : List Node). element_of tag (counting (length (read_notes parts t text_line first))) xs line) r.0,
      h.2.notes ∙ r.1,
    )

pub termed-is : (parts : Parts) (t : List ℕ) (line first : ℕ) (made : Heads) → HeadsText parts t line first made
    → (made.heads.items ≡ term_nodes parts t line first) × (made.notes.items ≡ read_notes parts t line first)
termed-is parts t line first made h =
    let r = reading_is parts t line first h.1 h.3 in (
      h.4.heads
          ∙ ap (λ (ns : List Node). heads_of (length ns) line (groups_of (parts_of_pieces t h.0) h.1.nodes.items)) (h.4.notes ∙ r.1)
          ∙ ap (λ (xs : List Node). heads_of (length (read_notes parts t line first)) line (groups_of (parts_of_pieces t h.0) xs)) r.0
          ∙ ap (λ (ps : List Piece). heads_of (length (read_notes parts t line first)) line (groups_of (parts_of_pieces t ps) (read_nodes parts t line first))) (pieces_of-only parts.mail parts.unmarked t h.0 h.2),
      h.4.notes ∙ r.1,
    )

-- the same with the number of the next message
pub texted_read : (parts : Parts) (tag : Tag) (line : ℕ) (t : List ℕ) (text_line first next : ℕ) (made : Texted) → HoldsText parts tag line t text_line first made → next ≡ counted_on first (length made.notes.items)
    → texted parts tag line t text_line first ≡ Ok ((made.element, made.notes.items), next)
texted_read parts tag line t text_line first next made h counted =
    let is = texted-is parts tag line t text_line first made h in
    ap₂ (λ (e : Node) (ns : List Node). Ok ((e, ns), counted_on first (length ns))) (sym is.0) (sym is.1)
    ∙ ap (λ (n : ℕ). Ok ((made.element, made.notes.items), n)) (sym counted)

pub termed_read : (parts : Parts) (t : List ℕ) (line first next : ℕ) (made : Heads) → HeadsText parts t line first made → next ≡ counted_on first (length made.notes.items)
    → termed parts t line first ≡ Ok ((made.heads.items, made.notes.items), next)
termed_read parts t line first next made h counted =
    let is = termed-is parts t line first made h in
    ap₂ (λ (es ns : List Node). Ok ((es, ns), counted_on first (length ns))) (sym is.0) (sym is.1)
    ∙ ap (λ (n : ℕ). Ok ((made.heads.items, made.notes.items), n)) (sym counted)
