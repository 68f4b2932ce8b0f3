-- The nodes of a text with inline markup, and the messages on it, as functions of the text (Markup Specification, 'Inline Markup',
-- 'Definition Lists'; Directives, 'Sidebar').
use Rattle.std.specs.Prelude.{◌≡◌, ℕ, List, [], ◌∷◌, length, Option, Some, None, Ok}
use Rattle.rst_settings.specs.declared.Parts.{Parts}
use Rattle.rst_tree.specs.Sends.{counted_on}
use Rattle.rst_tree.specs.declared.node.Node.{Node}
use Rattle.rst_tree.specs.declared.tag.Tag.{Tag}
use Rattle.rst_tree.specs.declared.tag.Tag.TheVariants.{Subtitle}
use Rattle.rst_inline_scan.specs.Reading.{pieces_of}
use Rattle.rst_inline.specs.Results.{nodes_from, notes_of}
use Rattle.rst_block_nodes.specs.declared.terms.Heads.{Heads}
use Rattle.rst_block_nodes.specs.declared.texted.Texted.{Texted}
use Rattle.rst_block_nodes.specs.Elements.{element_of}
use Rattle.rst_block_nodes.specs.Numbered.{Numbered, ◌>>=◌, just}
use Rattle.rst_block_nodes.specs.Results.{HoldsText, HeadsText}
use Rattle.rst_block_nodes.specs.Terms.{parts_of_pieces, groups_of, heads_of}
use Rattle.rst_block_nodes.specs.Texts.{counting, messages_from}

-- the nodes of a text, where the messages on it are numbered from `first` on
abbrev pub read_nodes : Parts → List ℕ → ℕ → ℕ → List Node
read_nodes parts t line first = nodes_from parts t line first (pieces_of parts.mail parts.unmarked t)

-- the messages on a text, which are numbered from `first` on and have the number of this line
abbrev pub read_notes : Parts → List ℕ → ℕ → ℕ → List Node
read_notes parts t line first = messages_from first (notes_of parts t line (pieces_of parts.mail parts.unmarked t))

-- an element of this line that holds a text, whose first line is `text_line`
abbrev pub texted_node : Parts → Tag → ℕ → List ℕ → ℕ → ℕ → Node
texted_node parts tag line t text_line first = element_of tag (counting (length (read_notes parts t text_line first))) (read_nodes parts t text_line first) line

-- the elements of a term and of its classifiers, which are the parts of one text
abbrev pub term_nodes : Parts → List ℕ → ℕ → ℕ → List Node
term_nodes parts t line first = heads_of (length (read_notes parts t line first)) line (groups_of (parts_of_pieces t (pieces_of parts.mail parts.unmarked t)) (read_nodes parts t line first))

-- an element of this line that holds a text, whose first line is `text_line`, and the messages on the text, which have that line's number
abbrev pub texted : Parts → Tag → ℕ → List ℕ → ℕ → Numbered (Node × List Node)
texted parts tag line t text_line = λ number.
    let notes = read_notes parts t text_line number in
    Ok ((texted_node parts tag line t text_line number, notes), counted_on number (length notes))

-- the subtitle that a text is, which has this line, and the messages on the text; where there is no text, neither
abbrev pub subtitled : Parts → Option (List ℕ) → ℕ → Numbered (List Node × List Node)
subtitled parts None line = just ([], [])
subtitled parts (Some t) line = texted parts Subtitle line t line >>= (λ made. just (made.0 ∷ [], made.1))

-- the elements of a term and of its classifiers, and the messages on their text
abbrev pub termed : Parts → List ℕ → ℕ → Numbered (List Node × List Node)
termed parts t line = λ number.
    let notes = read_notes parts t line number in
    Ok ((term_nodes parts t line number, notes), counted_on number (length notes))

-- ---- laws

-- an element that holds a text, and the messages on the text, are those of these functions
abbrev pub TextsAreRead : Type 0
TextsAreRead = (parts : Parts) (tag : Tag) (line : ℕ) (t : List ℕ) (text_line first : ℕ) (made : Texted) → HoldsText parts tag line t text_line first made
    → (made.element ≡ texted_node parts tag line t text_line first) × (made.notes.items ≡ read_notes parts t text_line first)

-- a term and its classifiers, and the messages on their text, are those of these functions
abbrev pub TermsAreRead : Type 0
TermsAreRead = (parts : Parts) (t : List ℕ) (line first : ℕ) (made : Heads) → HeadsText parts t line first made
    → (made.heads.items ≡ term_nodes parts t line first) × (made.notes.items ≡ read_notes parts t line first)
