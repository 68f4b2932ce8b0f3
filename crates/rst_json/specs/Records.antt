-- Trees as records in preorder: docs/LIBRARY.md describes them.
use Rattle.std.specs.Prelude.{ℕ, Bool, false, not, ◌&&◌, if◌then◌else◌, List, [], ◌∷◌, ◌++◌, length}
use Rattle.std.specs.Int.{to_le_bytes}
use Rattle.std.specs.List.{flat_map}
use mir.Syntax.{w64}
use Rattle.rst_tree.specs.declared.attrs.Attr.{Attr}
use Rattle.rst_tree.specs.declared.attrs.Value.{Value}
use Rattle.rst_tree.specs.declared.attrs.Value.TheVariants.{Text, Number, List as Listed}
use Rattle.rst_tree.specs.declared.node.Node.{Node}
use Rattle.rst_tree.specs.declared.node.Node.TheVariants.{Element, Text as Words}
use Rattle.rst_tree.specs.declared.tag.Tag.{Tag}
use Rattle.rst_tree.specs.Forest.{Forest, bare, element, words}
use Rattle.rst_tree.specs.KeyNames.{key_name}
use Rattle.rst_tree.specs.Print.{is_left_out}
use Rattle.rst_tree.specs.TagNames.{tag_name}

-- a number in eight bytes, the lowest first
abbrev pub word : ℕ → List ℕ
word = to_le_bytes w64

-- bytes after their number
abbrev pub sized : List ℕ → List ℕ
sized bytes = word (length bytes) ++ bytes

-- an attribute's value, after its kind
abbrev pub value_record : Value → List ℕ
value_record (Text text) = 0 ∷ text
value_record (Number n) = 1 ∷ word n
value_record (Listed texts) = 2 ∷ flat_map sized texts

-- an attribute, of all or, unless `all` is true, of those that are printed
abbrev pub attr_record_of : Bool → Attr → List ℕ
attr_record_of all a = if not all && is_left_out a then [] else sized (sized (key_name a.key) ++ value_record a.value)

abbrev pub text_record : List ℕ → List ℕ
text_record text = sized (0 ∷ text)

-- an element with the records of its nodes
abbrev pub element_record : Bool → Tag → List Attr → ℕ → List ℕ → List ℕ
element_record all tag attrs line nodes = sized (1 ∷ (word line ++ sized (tag_name tag) ++ sized (flat_map (attr_record_of all) attrs) ++ nodes))

-- nodes, one after another
abbrev pub node_records : Bool → Forest → List ℕ
node_records all bare = []
node_records all (element tag attrs inside line more) = element_record all tag attrs line (node_records all inside) ++ node_records all more
node_records all (words text more) = text_record text ++ node_records all more

-- a node, with all attributes or with those that are printed
abbrev pub node_record_of : Bool → Node → List ℕ
node_record_of all (Element tag attrs inside line) = element_record all tag attrs line (node_records all inside)
node_record_of all (Words text) = text_record text

-- the same with the attributes that are printed
abbrev pub attr_record : Attr → List ℕ
attr_record a = attr_record_of false a

abbrev pub node_record : Node → List ℕ
node_record node = node_record_of false node
