-- What is true of each tree, and the texts in it. No rule of markup: the standard bounds no nesting and orders no attributes.
use Rattle.std.specs.Prelude.{◌≡◌, Result, Ok, Err, ℕ, ◌&&◌, ◌||◌, ◌==◌, Bool, true, false, not, Option, Some, None, nat_le, nat_lt, List, [], ◌++◌}
use Rattle.std.specs.List.{list_all}
use Rattle.std.specs.Str.{chars}
use Rattle.rst_text.specs.Lines.{is_line_end}
use Rattle.rst_tree.specs.declared.node.Node.{Node}
use Rattle.rst_tree.specs.declared.node.Node.TheVariants.{Element, Text}
use Rattle.rst_tree.specs.Forest.{Forest, bare, element, words}
use Rattle.rst_tree.specs.Nodes.{node_height}
use Rattle.rst_tree.specs.Paths.{node_at, changed_at, with_child}

-- a text without line ends other than LF
abbrev pub is_lines : List ℕ → Bool
is_lines t = list_all (λ c. (c == 10) || not (is_line_end c)) (chars t)

-- LF, or an ASCII byte from the space on: a text of such bytes has no line end but LF. No rule of markup: it is seen at once.
abbrev pub is_plain_byte : ℕ → Bool
is_plain_byte b = (b == 10) || (nat_lt 31 b && nat_lt b 128)

-- no text has a line end but LF
abbrev pub is_sound : Forest → Bool
is_sound bare = true
is_sound (element t a c l r) = is_sound c && is_sound r
is_sound (words t r) = is_lines t && is_sound r

-- the same of one node
abbrev pub is_sound_node : Node → Bool
is_sound_node (Element t a c l) = is_sound c
is_sound_node (Text t) = is_lines t

-- the most that nodes nest
abbrev pub most_levels : ℕ
most_levels = 1550

-- the nodes nest no deeper than a number of levels, and the texts hold no line end but LF
abbrev pub is_tree_within : Node → ℕ → Bool
is_tree_within n levels = nat_le (node_height n) levels && is_sound_node n

-- The texts hold no line end but LF, and the nodes don't nest too deep. That attributes are in order, each name once, is said of each list of them.
abbrev pub is_tree : Node → Bool
is_tree n = is_tree_within n most_levels

-- the tree of a node, just where the node is one, or else the node
abbrev pub IsTreeOf : Node → Result Node Node → Type 0
IsTreeOf node (Ok tree) = (is_tree node ≡ true) × (tree ≡ node)
IsTreeOf node (Err back) = (is_tree node ≡ false) × (back ≡ node)

-- an element is there
abbrev pub is_element : Option Node → Bool
is_element None = false
is_element (Some (Element t a c l)) = true
is_element (Some (Text t)) = false

-- an element is at the path, and the tree with the node pushed into it is a tree
abbrev pub fits : List ℕ → Node → Node → Bool
fits at node root = is_element (node_at at root) && is_tree (changed_at (with_child node) at root)

-- the texts in the nodes, in order
abbrev pub text_all : Forest → List ℕ
text_all bare = []
text_all (element t a c l r) = text_all c ++ text_all r
text_all (words t r) = t ++ text_all r

-- the texts in a node, in order; of a text, the text
abbrev pub text_in : Node → List ℕ
text_in (Element t a c l) = text_all c
text_in (Text t) = t

-- the texts in a node, in order; nothing where there is no node
abbrev pub option_or_nothing : Option Node → List ℕ
option_or_nothing None = []
option_or_nothing (Some n) = text_in n

-- the text of the node at a path
abbrev pub node_text_at : List ℕ → Node → List ℕ
node_text_at at root = option_or_nothing (node_at at root)
