-- Trees and messages as JSON (RFC 8259): docs/LIBRARY.md has examples.
use Rattle.std.specs.Prelude.{◌≡◌, ℕ, ◌+◌, ◌/◌, ◌%◌, Bool, false, not, ◌&&◌, ◌||◌, ◌==◌, nat_lt, if◌then◌else◌, List, [], ◌∷◌, ◌++◌, map, Option, None, Some, Result, Ok, Err, codes}
use Rattle.std.specs.Fmt.{decimal}
use Rattle.std.specs.List.{flat_map}
use Rattle.rst_tree.specs.declared.attrs.Attr.{Attr}
use Rattle.rst_tree.specs.declared.attrs.Value.{Value}
use Rattle.rst_tree.specs.declared.attrs.Value.TheVariants.{Text, Number, List as Listed}
use Rattle.rst_tree.specs.declared.node.Node.{Node}
use Rattle.rst_tree.specs.declared.node.Node.TheVariants.{Element, Text as Words}
use Rattle.rst_tree.specs.declared.note.Note.{Note}
use Rattle.rst_tree.specs.declared.tag.Tag.{Tag}
use Rattle.rst_tree.specs.Forest.{Forest, bare, element, words}
use Rattle.rst_tree.specs.KeyNames.{key_name}
use Rattle.rst_tree.specs.LevelNames.{level_name, level_number}
use Rattle.rst_tree.specs.Print.{is_left_out}
use Rattle.rst_tree.specs.TagNames.{tag_name}

-- a byte of a string that doesn't represent itself: the quote, the backslash, a control character
abbrev pub needs_json_escape : ℕ → Bool
needs_json_escape b = nat_lt b 32 || b == 34 || b == 92

-- the digit of a number below 16
abbrev pub hex : ℕ → ℕ
hex digit = if nat_lt digit 10 then 48 + digit else 87 + digit

abbrev pub control : ℕ → List ℕ
control b = if b == 10 then codes "\\n" else codes "\\u00" ++ (hex (b / 16) ∷ hex (b % 16) ∷ [])

-- a byte of a string
abbrev pub json_byte : ℕ → List ℕ
json_byte b = if b == 34 then 92 ∷ 34 ∷ [] else (if b == 92 then 92 ∷ 92 ∷ [] else (if nat_lt b 32 then control b else b ∷ []))

-- a text between quotes
abbrev pub json_string : List ℕ → List ℕ
json_string text = 34 ∷ (flat_map json_byte text ++ 34 ∷ [])

-- an item after a comma
abbrev pub after_comma : List ℕ → List ℕ
after_comma item = 44 ∷ item

-- items, a comma between two
abbrev pub comma_separated : List (List ℕ) → List ℕ
comma_separated [] = []
comma_separated (item ∷ items) = item ++ flat_map after_comma items

abbrev pub json_array : List (List ℕ) → List ℕ
json_array items = 91 ∷ (comma_separated items ++ 93 ∷ [])

abbrev pub json_object : List (List ℕ) → List ℕ
json_object members = 123 ∷ (comma_separated members ++ 125 ∷ [])

abbrev pub json_member : List ℕ → List ℕ → List ℕ
json_member name value = json_string name ++ 58 ∷ value

-- an attribute's value
abbrev pub json_value : Value → List ℕ
json_value (Text text) = json_string text
json_value (Number number) = decimal number
json_value (Listed texts) = json_array (map json_string texts)

-- an attribute, of all or, unless `all` is true, of those that are printed
abbrev pub json_attr_of : Bool → Attr → List (List ℕ)
json_attr_of all a = if not all && is_left_out a then [] else json_member (key_name a.key) (json_value a.value) ∷ []

-- an attribute, unless it isn't printed
abbrev pub json_attr : Attr → List (List ℕ)
json_attr a = json_attr_of false a

-- an element with the JSON of its nodes, each after a comma
abbrev pub json_element_of : Bool → Tag → List Attr → ℕ → List ℕ → List ℕ
json_element_of all tag attrs line nodes =
    codes "[" ++ json_string (tag_name tag) ++ codes "," ++ decimal line ++ codes "," ++ json_object (flat_map (json_attr_of all) attrs) ++ nodes ++ codes "]"

-- nodes, each after a comma
abbrev pub json_nodes_of : Bool → Forest → List ℕ
json_nodes_of all bare = []
json_nodes_of all (element tag attrs inside line rest) = after_comma (json_element_of all tag attrs line (json_nodes_of all inside)) ++ json_nodes_of all rest
json_nodes_of all (words text rest) = after_comma (json_string text) ++ json_nodes_of all rest

-- a node, with all attributes or with those that are printed
abbrev pub json_node_of : Bool → Node → List ℕ
json_node_of all (Element tag attrs inside line) = json_element_of all tag attrs line (json_nodes_of all inside)
json_node_of all (Words text) = json_string text

-- the same with the attributes that are printed
abbrev pub json_element : Tag → List Attr → ℕ → List ℕ → List ℕ
json_element tag attrs line nodes = json_element_of false tag attrs line nodes

abbrev pub json_nodes : Forest → List ℕ
json_nodes f = json_nodes_of false f

abbrev pub json_node : Node → List ℕ
json_node node = json_node_of false node

-- the source text of a message, if it has one
abbrev pub json_block : Option (List ℕ) → List (List ℕ)
json_block None = []
json_block (Some text) = json_member (codes "block") (json_string text) ∷ []

-- a message
abbrev pub json_note : Note → List ℕ
json_note note =
    json_object (
    json_member (codes "line") (decimal note.line) ∷ json_member (codes "level") (decimal (level_number note.level))
    ∷ json_member (codes "type") (json_string (level_name note.level)) ∷ json_member (codes "text") (json_string note.text) ∷ json_block note.block)

-- the text was put after what there was, or memory ran out
abbrev pub Adds : {A E : Type 0} → List ℕ → List ℕ → List ℕ → Result A E → Type 0
Adds old new text (Ok done) = new ≡ old ++ text
Adds old new text (Err fault) = Unit {0}
