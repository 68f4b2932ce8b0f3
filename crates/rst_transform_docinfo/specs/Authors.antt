-- The authors that a field names (reStructuredText Markup Specification, 'Bibliographic Fields').
use Rattle.std.specs.Prelude.{ℕ, Bool, ◌==◌, List, [], ◌∷◌, Option, Some, None, option_map, if◌then◌else◌}
use Rattle.std.specs.List.{flat_map, list_any, slice_split}
use Rattle.std.specs.Str.{chars, trim}
use Rattle.rst_tree.specs.declared.node.Node.{Node}
use Rattle.rst_tree.specs.declared.node.Node.TheVariants.{Element, Text}
use Rattle.rst_tree.specs.declared.tag.Tag.TheVariants.{Author, BulletList, Paragraph}
use Rattle.rst_tree.specs.Forest.{Forest, bare, words}
use Rattle.rst_tree.specs.Nodes.{nodes_of}
use Rattle.rst_tree.specs.Tree.{text_all}
use Rattle.rst_transform_docinfo.specs.Fields.{lone, lone_in, paragraph_in}

-- an author with these nodes as the name
abbrev pub author : ℕ → Forest → Node
author line name = Element Author [] name line

-- the author of a name that is a text, if it isn't empty
abbrev pub author_named : ℕ → List ℕ → List Node
author_named line [] = []
author_named line (c ∷ cs) = author line (words (c ∷ cs) bare) ∷ []

-- the texts between the places of a character, trimmed, as authors
abbrev pub parted : ℕ → ℕ → List ℕ → List Node
parted line separator text = flat_map (λ piece. author_named line (trim piece)) (slice_split (λ c. c == separator) text)

-- the authors that a text names: semicolons part them, or commas where there is no semicolon
abbrev pub names_in : ℕ → List ℕ → List Node
names_in line text = if list_any (λ c. c == 59) (chars text) then parted line 59 text else parted line 44 text

-- the authors that a paragraph of these nodes names: those in a text, or else all of it as one author
abbrev pub named_by : ℕ → Forest → Option Node → List Node
named_by line paragraph (Some (Text text)) = names_in line text
named_by line paragraph _ = author line paragraph ∷ []

-- one author at least
abbrev pub some_of : List Node → Option (List Node)
some_of [] = None
some_of (x ∷ xs) = Some (x ∷ xs)

-- one more author first, if all are there
abbrev pub and_author : ℕ → Option Forest → Option (List Node) → Option (List Node)
and_author line None more = None
and_author line (Some name) more = option_map (λ authors. author line name ∷ authors) more

-- each item's paragraph as an author, if each contains one paragraph alone
abbrev pub all_paragraphs : ℕ → List Node → Option (List Node)
all_paragraphs line [] = Some []
all_paragraphs line (item ∷ more) = and_author line (paragraph_in item) (all_paragraphs line more)

-- The authors that one paragraph or one bullet list names; none where there is neither, or it isn't in its form. Of a paragraph the `plain` text
-- may be taken alone, without its markup.
abbrev pub by_form : Bool → ℕ → Option Node → Option (List Node)
by_form plain line (Some (Element Paragraph a c l)) = some_of (if plain then names_in line (text_all c) else named_by line c (lone c))
by_form plain line (Some (Element BulletList a c l)) = all_paragraphs line (nodes_of c)
by_form plain line _ = None

-- the authors that a body names
abbrev pub authors_in : Bool → ℕ → Node → Option (List Node)
authors_in plain line body = by_form plain line (lone_in body)
