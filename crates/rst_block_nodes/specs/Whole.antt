-- All that nodes contain, for worked examples: each attribute, also one that serves the transforms alone, and the number of each element's line. No
-- rule of markup.
use Prim.Native.String.{String}
use Rattle.std.specs.Prelude.{◌≡◌, ℕ, ◌+◌, List, [], ◌∷◌, ◌++◌, map, codes, encode_utf8_all, Result, Ok, Err}
use Rattle.std.specs.Fmt.{decimal}
use Rattle.std.specs.List.{flat_map}
use Rattle.rst_text.specs.Written.{written}
use Rattle.rst_tree.specs.Forest.{Forest, bare, element, words}
use Rattle.rst_tree.specs.Nodes.{forest_of}
use Rattle.rst_tree.specs.Print.{PrintedLine, printed, text_lines}
use Rattle.rst_tree.specs.TagNames.{tag_name}
use Rattle.rst_tree.specs.declared.attrs.Attr.{Attr}
use Rattle.rst_tree.specs.declared.node.Node.{Node}
use Rattle.rst_tree.specs.declared.tag.Tag.{Tag}
use Rattle.rst_inline.specs.Reads.{any_attr}

-- `<tag attributes>` and the number of the line
abbrev pub tag_and_line : Tag → List Attr → ℕ → List ℕ
tag_and_line tag attrs line = codes "<" ++ tag_name tag ++ flat_map any_attr attrs ++ codes "> " ++ decimal line

-- the lines of nodes at a level
abbrev pub whole_at : ℕ → Forest → List PrintedLine
whole_at n bare = []
whole_at n (element t a c l more) = (n, tag_and_line t a l) ∷ (whole_at (n + 1) c ++ whole_at n more)
whole_at n (words t more) = map (λ l. (n, l)) (text_lines t) ++ whole_at n more

-- all that nodes contain
abbrev pub whole : List Node → List ℕ
whole nodes = printed (whole_at 0 (forest_of nodes))

-- these lines are all that the nodes contain
abbrev pub Says : List Node → List String → Type 0
Says nodes tree = whole nodes ≡ encode_utf8_all (written tree)

-- an element that was read, with the messages on its text; nothing where blocks are nested too deeply
abbrev pub element_and_notes : Result ((Node × List Node) × ℕ) ℕ → List Node
element_and_notes (Ok ((node, notes), number)) = node ∷ notes
element_and_notes (Err line) = []
