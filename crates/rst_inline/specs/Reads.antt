-- What an inline text means, printed, for worked examples. No rule of markup.
use Prim.Native.String.{String}
use Rattle.std.specs.Prelude.{◌≡◌, ℕ, ◌+◌, List, [], ◌∷◌, ◌++◌, map, codes, encode_utf8_all}
use Rattle.std.specs.List.{flat_map}
use Rattle.rst_settings.specs.Parts.{no_parts, all_parts}
use Rattle.rst_settings.specs.declared.Parts.{Parts}
use Rattle.rst_text.specs.Written.{written}
use Rattle.rst_tree.specs.declared.attrs.Attr.{Attr}
use Rattle.rst_tree.specs.declared.note.Note.{Note}
use Rattle.rst_tree.specs.declared.tag.Tag.{Tag}
use Rattle.rst_tree.specs.Forest.{Forest, bare, element, words}
use Rattle.rst_tree.specs.LevelNames.{level_name}
use Rattle.rst_tree.specs.Nodes.{forest_of}
use Rattle.rst_tree.specs.Print.{PrintedLine, attribute_opening, printed, text_lines, value_text}
use Rattle.rst_tree.specs.TagNames.{tag_name}
use Rattle.rst_text.specs.Characters.{Text}
use Rattle.rst_inline_scan.specs.Reading.{pieces_of}
use Rattle.rst_inline_scan.specs.declared.piece.Piece.{Piece}
use Rattle.rst_inline.specs.Results.{nodes_from, notes_of}

-- an attribute as it is printed, also one that the transforms alone need
abbrev pub any_attr : Attr → List ℕ
any_attr a = attribute_opening a.key ++ value_text a.value ++ codes "\""

-- an element's line with all its attributes
abbrev pub tag_line : Tag → List Attr → List ℕ
tag_line tag attrs = codes "<" ++ tag_name tag ++ flat_map any_attr attrs ++ codes ">"

-- the lines of nodes at a level, in preorder
abbrev pub lines_of_all : ℕ → Forest → List PrintedLine
lines_of_all n bare = []
lines_of_all n (element t a c l r) = (n, tag_line t a) ∷ (lines_of_all (n + 1) c ++ lines_of_all n r)
lines_of_all n (words t r) = map (λ l. (n, l)) (text_lines t) ++ lines_of_all n r

-- a message: its level and its text
abbrev pub message_line : Note → PrintedLine
message_line note = (0, level_name note.level ++ codes ": " ++ note.text)

-- the lines of the nodes and then of the messages of pieces of a text
abbrev pub printed_lines : Parts → Text → List Piece → List PrintedLine
printed_lines parts t pieces = lines_of_all 0 (forest_of (nodes_from parts t 1 0 pieces)) ++ map message_line (notes_of parts t 1 pieces)

-- a text means the nodes, and then the messages, that these lines show
abbrev pub ShowsBy : Parts → String → List String → Type 0
ShowsBy parts text lines = printed (printed_lines parts (codes text) (pieces_of parts.mail parts.unmarked (codes text))) ≡ encode_utf8_all (written lines)

-- so it does in the base
abbrev pub Shows : String → List String → Type 0
Shows text lines = ShowsBy no_parts text lines

-- so it does in the wider profile
abbrev pub ShowsWider : String → List String → Type 0
ShowsWider text lines = ShowsBy all_parts text lines
