-- The elements at the two ends of a link (Markup Specification, 'Hyperlink References', 'Footnotes', 'Citations').
use Rattle.std.specs.Prelude.{Bool, true, false}
use Rattle.rst_tree.specs.declared.tag.Tag.{Tag}
use Rattle.rst_tree.specs.declared.tag.Tag.TheVariants.{Citation, CitationReference, Footnote, FootnoteReference, Label, Reference, Target}

-- the kinds that refer to others, or to which others refer; a label stands for its footnote
abbrev pub is_linked_tag : Tag → Bool
is_linked_tag Citation = true
is_linked_tag CitationReference = true
is_linked_tag Footnote = true
is_linked_tag FootnoteReference = true
is_linked_tag Label = true
is_linked_tag Reference = true
is_linked_tag Target = true
is_linked_tag _ = false
