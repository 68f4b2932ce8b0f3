-- Directives, and substitution definitions, which hold directives (Markup Specification, 'Directives', 'Substitution Definitions'; Directives,
-- 'Admonitions', 'Images', 'Topic', 'Sidebar', 'Epigraph', 'Highlights', 'Pull-Quote', 'Code', 'Rubric', 'Parsed Literal Block', 'Line Block', 'Math',
-- 'Raw Data Pass-Through', 'Compound Paragraph', 'Container', 'Table of Contents', 'Table', 'List Table', 'Class', 'Replacement Text').
use Rattle.std.specs.Prelude.{ℕ, Bool, true, false, List, [], ◌∷◌, ◌++◌, map, drop, codes, Option, Some, None, encode_utf8_all, if◌then◌else◌}
use Rattle.rst_settings.specs.Parts.{hands_directive}
use Rattle.rst_settings.specs.declared.Parts.{Parts}
use Rattle.rst_text.specs.Block.{Block, first_text, first_number, first_parts}
use Rattle.rst_tree.specs.Forest.{Forest}
use Rattle.rst_tree.specs.Nodes.{nodes_of}
use Rattle.rst_tree.specs.declared.node.Node.{Node}
use Rattle.rst_tree.specs.declared.node.Node.TheVariants.{Element, Text}
use Rattle.rst_tree.specs.declared.note.Level.TheVariants.{Error, Warning}
use Rattle.rst_tree.specs.declared.tag.Tag.{Tag}
use Rattle.rst_tree.specs.declared.tag.Tag.TheVariants.{Admonition, BlockQuote, Class, Paragraph, Title as TitleTag}
use Rattle.rst_tree_index.specs.Classes.{classes_of, with_classes}
use Rattle.rst_markup_blocks.specs.Partition.{Span}
use Rattle.rst_markup_blocks.specs.declared.forms.Invocation.{Invocation}
use Rattle.rst_markup_directives.specs.Argument.{ArgumentMeaning, title, uri}
use Rattle.rst_markup_directives.specs.Call.{is_empty}
use Rattle.rst_markup_directives.specs.Directive.{Read, Outcome, found, handed, wrong, directive_at}
use Rattle.rst_markup_directives.specs.Kind.{has_blocks, quote_class}
use Rattle.rst_markup_directives.specs.Message.{fault_level, fault_text}
use Rattle.rst_markup_directives.specs.Options.{OptionSetting}
use Rattle.rst_markup_directives.specs.Wrong.{Fault, not_in_substitution}
use Rattle.rst_markup_directives.specs.declared.found.Content.{Content}
use Rattle.rst_markup_directives.specs.declared.found.Place.{Place}
use Rattle.rst_markup_directives.specs.declared.found.Place.TheVariants.{Top, Body, Substitution}
use Rattle.rst_markup_directives.specs.declared.kind.ContentKind.{ContentKind}
use Rattle.rst_markup_directives.specs.declared.kind.ContentKind.TheVariants.{Marked, Verse, Formulas, Classed, Quotes, Entries, Rows, OneTable}
use Rattle.rst_markup_directives.specs.declared.kind.QuoteClass.{QuoteClass}
use Rattle.rst_block_nodes.specs.declared.table_faults.TableDirective.{TableDirective}
use Rattle.rst_block_nodes.specs.declared.table_faults.TableDirective.TheVariants.{Table, ListTable}
use Rattle.rst_block_nodes.specs.Admonitions.{with_title_class}
use Rattle.rst_block_nodes.specs.Elements.{substitution_definition_node, text_nodes}
use Rattle.rst_block_nodes.specs.Formulas.{formulas}
use Rattle.rst_block_nodes.specs.TableOfContents.{table_of_contents}
use Rattle.rst_block_nodes.specs.Targets.{may_replace}
use Rattle.rst_block_nodes.specs.Values.{normalized, unescaped}
use Rattle.rst_block_nodes.specs.TableRequests.{asked_of}
use Rattle.rst_block_nodes.specs.Sections.{filled}
use Rattle.rst_block_nodes.specs.Options.{directive_element, figure_element, handed_directive_node, image_element, literal_element, subtitle_chosen, with_options}
use Rattle.rst_block_nodes.specs.Readings.{subtitled}
use Rattle.rst_block_state.specs.Figures.{caption_error, figure_nodes}
use Rattle.rst_block_state.specs.TableDirectives.{directive_table_nodes}
use Rattle.rst_block_state.specs.LineRuns.{line_block, number_or, verse_lines}
use Rattle.rst_block_state.specs.Numbered.{Numbered, ◌>>=◌, just}
use Rattle.rst_block_state.specs.Paragraphs.{is_single_paragraph}
use Rattle.rst_block_state.specs.Texts.{excerpt, joined, lines_in, message_with_lines, span_source, spelled, texted}
use Rattle.rst_block_state.specs.Within.{Within}

-- The nodes of a content, which may be two blocks of one level: the lines before the options, and those after them. The content of a figure or of a
-- replacement text is a block as well, whatever is made of its nodes.
abbrev pub content_nodes : Within → Block → Content → Numbered (List Node)
content_nodes c B content = do
  some ← c.inner (lines_in B content.first)
  more ← c.inner (lines_in B content.second)
  just (some ++ more)

-- a directive that is called in line i of a block is handed back
abbrev pub is_handed_at : Block → ℕ → Invocation → Bool
is_handed_at B i call = hands_directive (first_parts (drop i B)) (excerpt (first_text (drop i B)) call.name)

-- the directive that is called in line i of a block, or what is wrong with it, in this place: the document itself, a body, or a definition
abbrev pub called : Within → Block → ℕ → Invocation → Place → Outcome
called c B i call place =
    if is_handed_at B i call then handed else directive_at c.code B i call place (is_single_paragraph (lines_in B call.block))

-- ---- directives

-- the message on a wrong directive of this name, with its lines
abbrev pub fault_node : Fault → Block → Span → List ℕ → Node
fault_node fault B s name = message_with_lines (fault_level fault) (first_number (drop s.start B)) (fault_text fault name) (span_source B s)

-- a directive that is handed back, with its lines
abbrev pub handed_directive : Block → Span → List ℕ → Node
handed_directive B s name = handed_directive_node name (span_source B s) (first_number (drop s.start B))

-- the element of a directive with a title: the title of an admonition gives its class, unless the options do
abbrev pub titled_element : Tag → Node → Node → Node
titled_element Admonition element heading = with_title_class element heading
titled_element _ element heading = element

-- what a directive begins with that has a title, whose first line may be the one after the directive's: the title, the subtitle that its options may
-- give, and the messages on the texts of both
abbrev pub titled_start : ℕ → Read → Block → Numbered Node
titled_start line read lines = do
  made ← texted (first_parts lines) TitleTag (number_or line lines) (joined lines) (number_or line lines)
  more ← subtitled (first_parts lines) (subtitle_chosen read.options) line
  just (filled (titled_element read.kind.element (directive_element read.kind.element read.argument read.options line) made.0) (made.0 ∷ more.0 ++ made.1 ++ more.1))

-- the directive that makes a table of such a content, if one does
abbrev pub table_directive : ContentKind → Option TableDirective
table_directive OneTable = Some Table
table_directive Rows = Some ListTable
table_directive _ = None

-- The element of a directive, which may begin with its title, with the nodes of its content after that; or the table that this directive makes of
-- them. An ERROR on this shows these lines.
abbrev pub completed_by : Option TableDirective → List OptionSetting → Node → ℕ → List ℕ → List Node → List Node
completed_by (Some directive) options element line lines nodes = directive_table_nodes directive line lines element (asked_of options) nodes
completed_by None options element line lines nodes = filled element nodes ∷ []

-- the same by what the content is
abbrev pub completed : ContentKind → List OptionSetting → Node → ℕ → List ℕ → List Node → List Node
completed content options element line lines nodes = completed_by (table_directive content) options element line lines nodes

-- a directive with a title, and its content
abbrev pub titled_nodes : Within → Block → ℕ → Read → Block → List ℕ → Numbered (List Node)
titled_nodes c B line read heading lines = do
  start ← titled_start line read heading
  nodes ← content_nodes c B read.content
  just (completed read.kind.content read.options start line lines nodes)

-- a block quote with the class of its directive; another node stays as it is
abbrev pub classed : QuoteClass → Node → Node
classed class (Element BlockQuote a content line) = with_classes (quote_class class ∷ []) (Element BlockQuote a content line)
classed class node = node

-- a node of the content of the directive `class` with these words after its classes; the words of such a directive in it stay its own
abbrev pub with_words : List (List ℕ) → Node → Node
with_words words (Element Class a content line) = Element Class a content line
with_words words node = with_classes words node

-- The directive `class`, by the element that has its words: the nodes of its content, each with these words. Without content, which gives no nodes, the
-- element itself stays, with these lines; a transform takes it out again.
abbrev pub class_nodes : Bool → Node → List ℕ → List Node → List Node
class_nodes empty element lines nodes = if empty then filled (filled element (text_nodes lines)) nodes ∷ [] else map (with_words (classes_of element)) nodes

-- the element of a directive in a line with the nodes of its content; or these nodes alone, the block quotes among them with their class, or all of
-- them with the words of `class`
abbrev pub holding : ContentKind → List OptionSetting → Bool → Node → ℕ → List ℕ → List Node → List Node
holding (Quotes class) options empty element line lines nodes = map (classed class) nodes
holding Classed options empty element line lines nodes = class_nodes empty element lines nodes
holding content options empty element line lines nodes = completed content options element line lines nodes

-- a directive without a title, with these lines, and its content
abbrev pub plain_nodes : Within → Block → ℕ → Read → List ℕ → Numbered (List Node)
plain_nodes c B line read lines = do
  nodes ← content_nodes c B read.content
  just (holding read.kind.content read.options (is_empty read.content) (directive_element read.kind.element read.argument read.options line) line lines nodes)

-- a figure: its image, and its content as caption and legend; an ERROR on it shows these lines
abbrev pub figure_of : Within → Block → ℕ → Read → List ℕ → List ℕ → Numbered (List Node)
figure_of c B line read address lines = do
  nodes ← content_nodes c B read.content
  just (figure_nodes (filled (figure_element read.options line) (image_element address read.options line true None ∷ []))
      (caption_error line lines) nodes)

-- the lines of a content that is a text: those before the options, and those after them
abbrev pub content_lines : Block → Content → Block
content_lines B content = lines_in B content.first ++ lines_in B content.second

-- a directive whose text, of these lines, has inline markup, and the messages on the text
abbrev pub marked_nodes : Parts → Bool → ℕ → Read → Block → Numbered (List Node)
marked_nodes parts literal line read lines = do
  made ← texted parts read.kind.element line (joined lines) line
  just (with_options literal read.options made.0 ∷ made.1)

-- a directive whose content is blocks, by its argument: a title, the URI of a figure's image, or another or none
abbrev pub opened_by : ArgumentMeaning → Within → Block → ℕ → Read → List ℕ → Numbered (List Node)
opened_by (title part) c B line read lines = titled_nodes c B line read (lines_in B part) lines
opened_by (uri address) c B line read lines = figure_of c B line read (encode_utf8_all address) lines
opened_by _ c B line read lines = plain_nodes c B line read lines

-- a directive without blocks and markup: an image, which may have an alternate text unless its options have one, or a literal
abbrev pub element_by : ArgumentMeaning → Option (List ℕ) → Block → ℕ → Read → Node
element_by (uri address) alt B line read = image_element (encode_utf8_all address) read.options line false alt
element_by given alt B line read = literal_element read.kind.element given read.options (spelled (content_lines B read.content)) line

-- a directive that holds neither blocks nor markup, by its argument: a title without content is the text of its element
abbrev pub closed_by : ArgumentMeaning → Block → ℕ → Read → Numbered (List Node)
closed_by (title part) B line read = marked_nodes (first_parts B) false line read (lines_in B part)
closed_by given B line read = just (element_by given None B line read ∷ [])

-- the line block of a directive with these lines, and the messages on them, where this many line blocks may be nested
abbrev pub verse_nodes : ℕ → Read → Block → Numbered (List Node)
verse_nodes levels read lines = do
  made ← line_block levels (verse_lines 0 lines)
  just (with_options false read.options made.0 ∷ made.1)

-- the text of an argument that is a title
abbrev pub title_text : ArgumentMeaning → Block → Option (List ℕ)
title_text (title part) B = Some (joined (lines_in B part))
title_text _ B = None

-- a directive that holds no blocks, by its content: marked text, verse, formulas, the entries of a table of contents, or another or none
abbrev pub closed_with : ContentKind → ℕ → Block → ℕ → Read → Numbered (List Node)
closed_with Marked levels B line read = marked_nodes (first_parts B) true line read (content_lines B read.content)
closed_with Verse levels B line read = verse_nodes levels read (content_lines B read.content)
closed_with Formulas levels B line read =
    just (formulas read.kind.element read.options line (joined (content_lines B read.content)))
closed_with Entries levels B line read = table_of_contents (first_parts B) read.options (title_text read.argument B) line
closed_with _ levels B line read = closed_by read.argument B line read

-- a directive that holds no blocks
abbrev pub closed_nodes : ℕ → Block → ℕ → Read → Numbered (List Node)
closed_nodes levels B line read = closed_with read.kind.content levels B line read

-- a directive, which starts in this line, with its lines
abbrev pub right_nodes : Within → Block → ℕ → Read → List ℕ → Numbered (List Node)
right_nodes c B line read lines =
    if has_blocks read.kind.content then opened_by read.argument c B line read lines else closed_nodes c.levels B line read

-- a directive, one that is handed back, or the message on one that is wrong, which shows its lines; no block of the last two is read
abbrev pub directive_by : Outcome → Within → Block → Span → List ℕ → Numbered (List Node)
directive_by (found read) c B s name = right_nodes c B (first_number (drop s.start B)) read (span_source B s)
directive_by handed c B s name = just (handed_directive B s name ∷ [])
directive_by (wrong fault part) c B s name = just (fault_node fault B s name ∷ [])

-- the directive that is called in the first of some lines; its place is the document itself where titles are recognized, else a body
abbrev pub directive_nodes : Within → Block → Span → Invocation → Numbered (List Node)
directive_nodes c B s call =
    directive_by (called c B s.start call (if c.titles then Top else Body)) c B s (excerpt (first_text (drop s.start B)) call.name)

-- ---- substitution definitions

-- a text about the substitution definition of this name
abbrev pub about : List ℕ → List ℕ → List ℕ
about name text = codes "Substitution definition \"" ++ name ++ codes "\"" ++ text

-- the children of a paragraph; of another element those that are given
abbrev pub children_of : Tag → Forest → List Node → List Node
children_of Paragraph content others = nodes_of content
children_of _ content others = others

-- the children of the first paragraph among some nodes, or none where there is no paragraph
abbrev pub first_paragraph : List Node → List Node
first_paragraph [] = []
first_paragraph (Element t a content line ∷ ns) = children_of t content (first_paragraph ns)
first_paragraph (Text t ∷ ns) = first_paragraph ns

-- a substitution definition with the children of its replacement text, or the ERROR where one of them may not replace a reference
abbrev pub replacement : List ℕ → ℕ → List ℕ → List Node → Node
replacement name line lines children =
    if may_replace children then filled (substitution_definition_node name line) children
    else message_with_lines Error line (about name (codes " contains an illegal element.")) lines

-- the name in the message on a wrong directive in a definition: the definition's where it may not hold the directive, else that of the directive
abbrev pub faulty_name : Fault → List ℕ → List ℕ → List ℕ
faulty_name not_in_substitution name written = name
faulty_name _ name written = written

-- A substitution definition with its directive. The children of the one paragraph of a replacement text replace a reference, and the messages that
-- its block gives beside the paragraph are dropped. An image has the definition's name in place of a missing `alt`.
abbrev pub definition_nodes : Within → Block → ℕ → List ℕ → Read → List ℕ → Numbered (List Node)
definition_nodes c B line name read lines =
    if has_blocks read.kind.content
    then content_nodes c B read.content >>= (λ nodes. just (replacement name line lines (first_paragraph nodes) ∷ []))
    else just (filled (substitution_definition_node name line) (element_by read.argument (Some name) B line read ∷ []) ∷ [])

-- a substitution definition with its directive, also one that is handed back, with the definition's lines; or the message on a wrong one, which
-- shows these lines and leaves no definition
abbrev pub definition_or_error : Outcome → Within → Block → Span → List ℕ → List ℕ → Numbered (List Node)
definition_or_error (found read) c B s name written = definition_nodes c B (first_number (drop s.start B)) name read (span_source B s)
definition_or_error handed c B s name written =
    just (filled (substitution_definition_node name (first_number (drop s.start B))) (handed_directive B s written ∷ []) ∷ [])
definition_or_error (wrong fault part) c B s name written = just (fault_node fault B s (faulty_name fault name written) ∷ [])

-- a substitution definition by the directive that it holds, or the WARNING where it holds none, which leaves no definition
abbrev pub substitution_by : Option Invocation → Within → Block → Span → List ℕ → Numbered (List Node)
substitution_by None c B s name =
    just (message_with_lines Warning (first_number (drop s.start B)) (about name (codes " empty or invalid.")) (span_source B s) ∷ [])
substitution_by (Some call) c B s name =
    definition_or_error (called c B s.start call Substitution) c B s name (excerpt (first_text (drop s.start B)) call.name)

-- a substitution definition, by its name as it is written: without escapes, each run of whitespace is one space
abbrev pub substitution_nodes : Within → Block → Span → List ℕ → Option Invocation → Numbered (List Node)
substitution_nodes c B s written embedded = substitution_by embedded c B s (normalized (unescaped written))
