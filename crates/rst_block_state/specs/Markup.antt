-- Explicit markup (Markup Specification, 'Explicit Markup Blocks', 'Footnotes', 'Citations', 'Hyperlink Targets', 'Comments').
use Rattle.std.specs.Prelude.{ℕ, List, [], ◌∷◌, drop, codes, Some, None}
use Rattle.rst_text.specs.Block.{Block, first_text, first_number, first_parts}
use Rattle.rst_tree.specs.declared.node.Node.{Node}
use Rattle.rst_tree.specs.declared.note.Level.TheVariants.{Warning}
use Rattle.rst_tree.specs.declared.tag.Tag.TheVariants.{Comment as CommentTag}
use Rattle.rst_markup_lines.specs.declared.explicit_marks.LabelKind.{LabelKind}
use Rattle.rst_markup_lines.specs.declared.explicit_marks.LabelKind.TheVariants.{Footnote as FootnoteLabel, Citation as CitationLabel}
use Rattle.rst_markup_blocks.specs.Explicit.{explicit_of}
use Rattle.rst_markup_blocks.specs.Partition.{Span}
use Rattle.rst_markup_blocks.specs.declared.forms.CommentCause.{CommentCause}
use Rattle.rst_markup_blocks.specs.declared.forms.CommentCause.TheVariants.{Plain, MalformedTarget, MalformedSubstitution}
use Rattle.rst_markup_blocks.specs.declared.forms.Explicit.{Explicit}
use Rattle.rst_markup_blocks.specs.declared.forms.Explicit.TheVariants.{Footnote, Citation, Target, Anonymous, Substitution, Directive, Comment, EmptyComment}
use Rattle.rst_markup_blocks.specs.declared.part.Part.{Part}
use Rattle.rst_block_nodes.specs.Elements.{footnote_node, citation_node, preserved_node}
use Rattle.rst_block_nodes.specs.Targets.{target_node}
use Rattle.rst_block_nodes.specs.Sections.{filled}
use Rattle.rst_block_state.specs.Directives.{directive_nodes, substitution_nodes}
use Rattle.rst_block_state.specs.Numbered.{Numbered, ◌>>=◌, just}
use Rattle.rst_block_state.specs.Texts.{excerpt, lines_in, system_message, spelled}
use Rattle.rst_block_state.specs.Within.{Within}

-- the element of a footnote or of a citation, which holds its label so far
abbrev pub node_by_label_kind : LabelKind → List ℕ → ℕ → Node
node_by_label_kind FootnoteLabel label line = footnote_node label line
node_by_label_kind CitationLabel label line = citation_node label line

-- a footnote or a citation, which holds its label so far, with its hanging block
abbrev pub noted : Within → Block → Node → Part → Numbered (List Node)
noted c B element body = do
  nodes ← c.inner (lines_in B body)
  just (filled element nodes ∷ [])

-- the WARNING after a comment that begins like a target or like a substitution definition, and is neither
abbrev pub cause_notes : CommentCause → ℕ → List Node
cause_notes Plain line = []
cause_notes MalformedTarget line = system_message Warning line (codes "malformed hyperlink target.") ∷ []
cause_notes MalformedSubstitution line = system_message Warning line (codes "malformed substitution definition.") ∷ []

-- Explicit markup by its form; X begins with its first line. A comment shows the lines of its hanging block; an empty comment and a target hold
-- nothing.
abbrev pub markup_by : Explicit → Within → Block → Span → Block → Numbered (List Node)
markup_by (Footnote label body) c B s X = noted c B (node_by_label_kind FootnoteLabel (excerpt (first_text X) label) (first_number X)) body
markup_by (Citation label body) c B s X = noted c B (node_by_label_kind CitationLabel (excerpt (first_text X) label) (first_number X)) body
markup_by (Target name text) c B s X =
    just (target_node (first_parts X).mail (Some (excerpt (first_text X) name)) (spelled (lines_in B text)) (first_number X) ∷ [])
markup_by (Anonymous text) c B s X = just (target_node (first_parts X).mail None (spelled (lines_in B text)) (first_number X) ∷ [])
markup_by (Substitution name embedded end) c B s X = substitution_nodes c B s (excerpt (first_text X) name) embedded
markup_by (Directive call) c B s X = directive_nodes c B s call
markup_by (Comment text cause) c B s X =
    just (preserved_node CommentTag (first_number X) (spelled (lines_in B text)) ∷ cause_notes cause (first_number X))
markup_by EmptyComment c B s X = just (preserved_node CommentTag (first_number X) [] ∷ [])

-- the explicit markup of some lines
abbrev pub markup_nodes : Within → Block → Span → Numbered (List Node)
markup_nodes c B s = markup_by (explicit_of s.start (drop s.start B)) c B s (drop s.start B)
