-- Figures with their captions and legends (Directives, 'Figure'; Document Tree, 'figure').
use Rattle.std.specs.Prelude.{ℕ, List, [], ◌∷◌, drop, take, codes, unwrap_or}
use Rattle.rst_tree.specs.Attributes.{as_number, value_of, without_key}
use Rattle.rst_tree.specs.Forest.{Forest, bare}
use Rattle.rst_tree.specs.declared.attrs.Attr.{Attr}
use Rattle.rst_tree.specs.declared.key.Key.TheVariants.{Classes, TextMessages}
use Rattle.rst_tree.specs.declared.node.Node.{Node}
use Rattle.rst_tree.specs.declared.node.Node.TheVariants.{Element, Text}
use Rattle.rst_tree.specs.declared.note.Level.TheVariants.{Error}
use Rattle.rst_tree.specs.declared.tag.Tag.{Tag}
use Rattle.rst_tree.specs.declared.tag.Tag.TheVariants.{Caption, Comment, Legend, Paragraph}
use Rattle.rst_block_nodes.specs.Elements.{element_of}
use Rattle.rst_block_nodes.specs.Sections.{filled}
use Rattle.rst_block_state.specs.Texts.{message_with_lines}

-- What the content of a figure begins with: a caption, and the number of the messages on its text, which follow it; an empty comment in place of a
-- caption; or something else.
pub data Beginning : Type 0 where
  caption : Node → ℕ → Beginning
  no_caption : Beginning
  neither : Beginning

-- the number of messages on its text that an element has as an attribute
abbrev pub message_count : List Attr → ℕ
message_count a = unwrap_or (as_number (value_of TextMessages a)) 0

-- a comment is in place of a caption if it is empty
abbrev pub comment_beginning : Forest → Beginning
comment_beginning bare = no_caption
comment_beginning _ = neither

-- an element at the beginning: a paragraph is the caption, which has no classes
abbrev pub element_beginning : Tag → List Attr → Forest → ℕ → Beginning
element_beginning Paragraph a content line = caption (Element Caption (without_key Classes a) content line) (message_count a)
element_beginning Comment a content line = comment_beginning content
element_beginning _ a content line = neither

-- the first node of the content, which may be a message
abbrev pub beginning_of : Node → Beginning
beginning_of (Element t a content line) = element_beginning t a content line
beginning_of (Text t) = neither

-- the legend of some nodes, if there are some
abbrev pub legend_nodes : List Node → List Node
legend_nodes [] = []
legend_nodes (n ∷ ns) = element_of Legend [] (n ∷ ns) 0 ∷ []

-- A figure, which holds its image so far, by what its content begins with and by the nodes after that. A paragraph becomes its caption, and the
-- messages on the paragraph's text follow the figure; an empty comment gives no caption; all other nodes are the legend. Where the content begins
-- with neither, its nodes are dropped and the ERROR follows the figure.
abbrev pub figure_by : Node → Node → Beginning → List Node → List Node
figure_by figure error (caption node count) more = filled figure (node ∷ legend_nodes (drop count more)) ∷ take count more
figure_by figure error no_caption more = filled figure (legend_nodes more) ∷ []
figure_by figure error neither more = figure ∷ error ∷ []

-- a figure with the nodes of its content
abbrev pub figure_nodes : Node → Node → List Node → List Node
figure_nodes figure error [] = figure ∷ []
figure_nodes figure error (n ∷ ns) = figure_by figure error (beginning_of n) ns

-- the ERROR on a figure whose content begins with neither a paragraph nor an empty comment
abbrev pub caption_error : ℕ → List ℕ → Node
caption_error line lines = message_with_lines Error line (codes "Figure caption must be a paragraph or empty comment.") lines
