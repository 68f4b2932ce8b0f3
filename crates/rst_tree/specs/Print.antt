-- What is printed of a tree, in the pseudo-XML of the examples in Document Tree, 'Element Reference': its lines in preorder, each
-- after its indentation and with its end.
use Rattle.std.specs.Prelude.{ℕ, ◌+◌, ◌-◌, ◌*◌, ◌^◌, min, ◌==◌, ◌&&◌, ◌||◌, not, if◌then◌else◌, Bool, true, false, List, [], ◌∷◌, ◌++◌, map, codes, replicate}
use Rattle.std.specs.List.{flat_map, onto_first}
use Rattle.std.specs.Fmt.{decimal}
use Rattle.rst_tree.specs.declared.attrs.Attr.{Attr}
use Rattle.rst_tree.specs.declared.attrs.Value.{Value}
use Rattle.rst_tree.specs.declared.attrs.Value.TheVariants.{Text, Number, List as Listed}
use Rattle.rst_tree.specs.declared.key.Key.{Key}
use Rattle.rst_tree.specs.declared.key.Key.TheVariants.{Ids, Classes, Names, Dupnames, Backrefs}
use Rattle.rst_tree.specs.declared.tag.Tag.{Tag}
use Rattle.rst_tree.specs.declared.node.Node.{Node}
use Rattle.rst_tree.specs.declared.node.Node.TheVariants.{Element, Text as Words}
use Rattle.rst_tree.specs.KeyNames.{key_name, is_hidden}
use Rattle.rst_tree.specs.TagNames.{tag_name}
use Rattle.rst_tree.specs.Forest.{Forest, bare, element, words}

-- a backslash or a space
abbrev pub needs_backslash : ℕ → Bool
needs_backslash b = b == 92 || b == 32

-- a byte of a list's member: a backslash comes before a space and before a backslash
abbrev pub escaped_byte : ℕ → List ℕ
escaped_byte b = if b == 92 then 92 ∷ 92 ∷ [] else (if b == 32 then 92 ∷ 32 ∷ [] else b ∷ [])

-- a list's member as it is printed
abbrev pub escaped : List ℕ → List ℕ
escaped = flat_map escaped_byte

-- the members, parted by spaces
abbrev pub spaced : List (List ℕ) → List ℕ
spaced [] = []
spaced (t ∷ ts) = escaped t ++ flat_map (λ u. 32 ∷ escaped u) ts

-- what is between the quotes
abbrev pub value_text : Value → List ℕ
value_text (Text t) = t
value_text (Number n) = decimal n
value_text (Listed ts) = spaced ts

-- the lists that aren't printed where they are empty
abbrev pub hides_empty : Key → Bool
hides_empty Ids = true
hides_empty Classes = true
hides_empty Names = true
hides_empty Dupnames = true
hides_empty Backrefs = true
hides_empty _ = false

-- a list without members
abbrev pub is_empty_list : Value → Bool
is_empty_list (Listed []) = true
is_empty_list _ = false

-- an attribute that isn't printed: one that serves the transforms alone, or one of those lists, where it is empty
abbrev pub is_left_out : Attr → Bool
is_left_out a = is_hidden a.key || (is_empty_list a.value && hides_empty a.key)

-- ` name="`, which comes before a value
abbrev pub attribute_opening : Key → List ℕ
attribute_opening k = codes " " ++ key_name k ++ codes "=\""

-- ` name="value"`, or nothing
abbrev pub attribute_text : Attr → List ℕ
attribute_text a = if is_left_out a then [] else attribute_opening a.key ++ value_text a.value ++ codes "\""

-- `<tag attributes>`
abbrev pub start_tag : Tag → List Attr → List ℕ
start_tag t attrs = codes "<" ++ tag_name t ++ flat_map attribute_text attrs ++ codes ">"

-- the lines of a text: each LF ends one, and what follows the last LF is one if it isn't empty
abbrev pub text_lines : List ℕ → List (List ℕ)
text_lines [] = []
text_lines (b ∷ bs) = if b == 10 then [] ∷ text_lines bs else onto_first b (text_lines bs)

-- a byte that ends no line
abbrev pub is_of_line : ℕ → Bool
is_of_line b = not (b == 10)

-- how many bytes come before the first LF
abbrev pub line_len : List ℕ → ℕ
line_len [] = 0
line_len (b ∷ bs) = if b == 10 then 0 else line_len bs + 1

-- a line: its level and its text
abbrev pub PrintedLine : Type 0
PrintedLine = ℕ × List ℕ

-- One level deeper. Levels are counted up to the largest number of 64 bits, which no tree reaches.
abbrev pub deeper_level : ℕ → ℕ
deeper_level n = min (n + 1) (2 ^ 64 - 1)

-- the lines of the nodes at a level, in preorder
abbrev pub lines_at : ℕ → Forest → List PrintedLine
lines_at n bare = []
lines_at n (element t a c l r) = (n, start_tag t a) ∷ (lines_at (deeper_level n) c ++ lines_at n r)
lines_at n (words t r) = map (λ l. (n, l)) (text_lines t) ++ lines_at n r

-- four spaces for each level, the text, and the line's end
abbrev pub printed_line : PrintedLine → List ℕ
printed_line l = replicate (4 * l.0) 32 ++ l.1 ++ 10 ∷ []

-- what is printed of lines, one after another
abbrev pub printed : List PrintedLine → List ℕ
printed = flat_map printed_line

-- the lines of a node at a level
abbrev pub node_lines : ℕ → Node → List PrintedLine
node_lines n (Element t a c l) = (n, start_tag t a) ∷ lines_at (deeper_level n) c
node_lines n (Words t) = map (λ l. (n, l)) (text_lines t)

-- what is printed of a node at a level
abbrev pub printed_node : ℕ → Node → List ℕ
printed_node n node = printed (node_lines n node)

-- what is printed of a whole tree
abbrev pub print_of : Node → List ℕ
print_of = printed_node 0
