-- A reader of the JSON of a tree. It is no part of the program: by a law it gives the tree back. It reads the text alone, as any JSON
-- (RFC 8259), but for what docs/LIBRARY.md doesn't have: signs, fractions and exponents of numbers, `true`, `false`, `null`, and `\u` of characters that aren't ASCII.
use Rattle.std.specs.Prelude.{◌≡◌, ℕ, zero, suc, ◌+◌, ◌*◌, ◌^◌, ◌<◌, Bool, ◌||◌, ◌==◌, not, if◌then◌else◌, List, [], ◌∷◌, ◌++◌, filter, find, bytes_eq, All, Option, None, Some, option_map, codes}
use Rattle.std.specs.Char.{digit_value, is_digit}
use Rattle.rst_json.specs.Json.{json_node}
use Rattle.rst_tree.specs.declared.attrs.Attr.{Attr}
use Rattle.rst_tree.specs.declared.attrs.Value.{Value}
use Rattle.rst_tree.specs.declared.attrs.Value.TheVariants.{Text, Number, List as Listed}
use Rattle.rst_tree.specs.declared.key.Key.{Key}
use Rattle.rst_tree.specs.declared.key.Key.TheVariants as key
use Rattle.rst_tree.specs.declared.node.Node.{Node}
use Rattle.rst_tree.specs.declared.node.Node.TheVariants.{Element, Text as Words}
use Rattle.rst_tree.specs.declared.tag.Tag.{Tag}
use Rattle.rst_tree.specs.declared.tag.Tag.TheVariants as tag
use Rattle.rst_tree.specs.Attributes.{attr}
use Rattle.rst_tree.specs.Forest.{Forest, bare, element, words}
use Rattle.rst_tree.specs.KeyNames.{key_name}
use Rattle.rst_tree.specs.Nodes.{join_node}
use Rattle.rst_tree.specs.Print.{is_left_out}
use Rattle.rst_tree.specs.TagNames.{tag_name}

-- ---- from bytes to items

-- the content of an array or an object, from a place on; it is broken where something else is there, or no end
pub data Items : Type 0 where
  array_end : Items
  object_end : Items
  broken : Items
  comma : Items → Items
  colon : Items → Items
  string : List ℕ → Items → Items
  number : ℕ → Items → Items
  array : Items → Items → Items
  object : Items → Items → Items

-- what is in brackets, with a comma before the first item too
abbrev pub led_by_comma : Items → Items
led_by_comma array_end = array_end
led_by_comma object_end = object_end
led_by_comma items = comma items

-- Lists of items: what is in the innermost brackets from a place on, in those around them from their ends on, and so forth.

-- an item before the rest
abbrev pub prepended : (Items → Items) → List Items → List Items
prepended item [] = item broken ∷ []
prepended item (inner ∷ outer) = item inner ∷ outer

-- an opening bracket before the rest
abbrev pub with_opening_bracket : (Items → Items → Items) → List Items → List Items
with_opening_bracket item [] = broken ∷ []
with_opening_bracket item (inner ∷ outer) = prepended (item (led_by_comma inner)) outer

abbrev pub is_json_space : ℕ → Bool
is_json_space b = b == 32 || b == 9 || b == 10 || b == 13

-- a byte before the rest that is in no string and no number
abbrev pub with_punctuation : ℕ → List Items → List Items
with_punctuation b items =
    if b == 44 then prepended comma items else (if b == 58 then prepended colon items else (
    if b == 91 then with_opening_bracket array items else (if b == 93 then array_end ∷ items else (
    if b == 123 then with_opening_bracket object items else (if b == 125 then object_end ∷ items else (
    if is_json_space b then items else broken ∷ []))))))

-- Where a place is: between strings and numbers; after digits of a number; in a string, after some bytes of it, or there after a backslash;
-- or there after `\u` and digits, with their number and how many follow the next digit.
pub data ReaderState : Type 0 where
  between : ReaderState
  digits : ℕ → ReaderState
  quoted : List ℕ → ReaderState
  escape : List ℕ → ReaderState
  code : List ℕ → ℕ → ℕ → ReaderState

-- what a byte after a backslash represents: `b`, `f`, `n`, `r`, `t`, or else itself
abbrev pub byte_of_escape : ℕ → ℕ
byte_of_escape b = if b == 98 then 8 else (if b == 102 then 12 else (if b == 110 then 10 else (if b == 114 then 13 else (if b == 116 then 9 else b))))

-- the items from a place of a text on
abbrev pub json_items : ReaderState → List ℕ → List Items
json_items between [] = []
json_items place [] = broken ∷ []
json_items between (b ∷ bs) =
    if b == 34 then json_items (quoted []) bs else (if is_digit b 10 then json_items (digits (digit_value b)) bs else with_punctuation b (json_items between bs))
json_items (digits n) (b ∷ bs) = if is_digit b 10 then json_items (digits (n * 10 + digit_value b)) bs else prepended (number n) (with_punctuation b (json_items between bs))
json_items (quoted s) (b ∷ bs) =
    if b == 34 then prepended (string s) (json_items between bs) else (if b == 92 then json_items (escape s) bs else json_items (quoted (s ++ b ∷ [])) bs)
json_items (escape s) (b ∷ bs) = if b == 117 then json_items (code s 0 3) bs else json_items (quoted (s ++ byte_of_escape b ∷ [])) bs
json_items (code s n zero) (b ∷ bs) = json_items (quoted (s ++ (n * 16 + digit_value b) ∷ [])) bs
json_items (code s n (suc more)) (b ∷ bs) = json_items (code s (n * 16 + digit_value b) more) bs

-- ---- from items to the tree

abbrev pub tags : List Tag
tags =
    tag.Abbreviation ∷ tag.Acronym ∷ tag.Address ∷ tag.Admonition ∷ tag.Attention ∷ tag.Attribution ∷ tag.Author ∷ tag.Authors ∷ tag.BlockQuote ∷
    tag.BulletList ∷ tag.Caption ∷ tag.Caution ∷ tag.Citation ∷ tag.CitationReference ∷ tag.Class ∷ tag.Classifier ∷ tag.Colspec ∷ tag.Comment ∷ tag.Compound ∷
    tag.Contact ∷ tag.Container ∷ tag.Contents ∷ tag.Copyright ∷ tag.Danger ∷ tag.Date ∷ tag.Definition ∷ tag.DefinitionList ∷ tag.DefinitionListItem ∷
    tag.Description ∷ tag.Docinfo ∷ tag.DoctestBlock ∷ tag.Document ∷ tag.Emphasis ∷ tag.Entry ∷ tag.EnumeratedList ∷ tag.Error ∷ tag.Field ∷
    tag.FieldBody ∷ tag.FieldList ∷ tag.FieldName ∷ tag.Figure ∷ tag.Footnote ∷ tag.FootnoteReference ∷ tag.Handed ∷ tag.Hint ∷ tag.Image ∷ tag.Important ∷
    tag.Label ∷ tag.Legend ∷ tag.Line ∷ tag.LineBlock ∷ tag.ListItem ∷ tag.Literal ∷ tag.LiteralBlock ∷ tag.Math ∷ tag.MathBlock ∷ tag.Note ∷
    tag.Option ∷ tag.OptionArgument ∷ tag.OptionGroup ∷ tag.OptionList ∷ tag.OptionListItem ∷ tag.OptionString ∷ tag.Organization ∷ tag.Paragraph ∷
    tag.Problematic ∷ tag.Raw ∷ tag.Reference ∷ tag.Revision ∷ tag.Row ∷ tag.Rubric ∷ tag.Section ∷ tag.Sidebar ∷ tag.Status ∷ tag.Strong ∷
    tag.Subscript ∷ tag.SubstitutionDefinition ∷ tag.SubstitutionReference ∷ tag.Subtitle ∷ tag.Superscript ∷ tag.SystemMessage ∷ tag.Table ∷
    tag.Target ∷ tag.Tbody ∷ tag.Term ∷ tag.Tgroup ∷ tag.Thead ∷ tag.Tip ∷ tag.Title ∷ tag.TitleReference ∷ tag.Topic ∷ tag.Transition ∷
    tag.Version ∷ tag.Warning ∷ []

abbrev pub keys : List Key
keys =
    key.Align ∷ key.Alt ∷ key.Anonymous ∷ key.Auto ∷ key.Backlinks ∷ key.Backrefs ∷ key.Bullet ∷ key.Classes ∷ key.Cols ∷ key.Colwidth ∷ key.Delimiter ∷ key.Depth ∷ key.Dupnames ∷ key.Enumtype ∷
    key.Format ∷ key.Height ∷ key.Ids ∷ key.Inline ∷ key.Kind ∷ key.Level ∷ key.Line ∷ key.Local ∷ key.Mark ∷ key.Message ∷ key.Morecols ∷ key.Morerows ∷ key.Name ∷ key.Names ∷ key.OwnName ∷ key.Prefix ∷
    key.Rawsource ∷ key.Refid ∷ key.Refname ∷ key.Refuri ∷ key.Scale ∷ key.Serial ∷ key.Source ∷ key.Start ∷ key.Stub ∷ key.Suffix ∷ key.TextMessages ∷ key.Title ∷ key.Type_ ∷
    key.Uri ∷ key.Width ∷ key.XmlSpace ∷ []

unfoldable pub tag_named : List ℕ → Option Tag
tag_named name = find (λ t. bytes_eq (tag_name t) name) tags

unfoldable pub key_named : List ℕ → Option Key
key_named name = find (λ k. bytes_eq (key_name k) name) keys

-- strings
abbrev pub texts_read : Items → Option (List (List ℕ))
texts_read array_end = Some []
texts_read (comma (string text more)) = option_map (λ texts. text ∷ texts) (texts_read more)
texts_read other = None

abbrev pub attr_read : Option Key → Option Value → Option (List Attr) → Option (List Attr)
attr_read (Some k) (Some value) (Some more) = Some (attr k value ∷ more)
attr_read k value more = None

-- the members of an object
abbrev pub attrs_read : Items → Option (List Attr)
attrs_read object_end = Some []
attrs_read (comma (string name (colon (string text more)))) = attr_read (key_named name) (Some (Text text)) (attrs_read more)
attrs_read (comma (string name (colon (number n more)))) = attr_read (key_named name) (Some (Number n)) (attrs_read more)
attrs_read (comma (string name (colon (array texts more)))) = attr_read (key_named name) (option_map Listed (texts_read texts)) (attrs_read more)
attrs_read other = None

abbrev pub element_read : Option Tag → ℕ → Option (List Attr) → Option Forest → Option Forest → Option Forest
element_read (Some t) line (Some attrs) (Some inside) (Some more) = Some (element t attrs inside line more)
element_read t line attrs inside more = None

-- nodes: strings, and arrays of a tag, a line, an object and nodes
abbrev pub nodes_read : Items → Option Forest
nodes_read array_end = Some bare
nodes_read (comma (string text more)) = option_map (words text) (nodes_read more)
nodes_read (comma (array (comma (string name (comma (number line (comma (object attrs inside)))))) more)) =
    element_read (tag_named name) line (attrs_read attrs) (nodes_read inside) (nodes_read more)
nodes_read other = None

-- a node alone
abbrev pub lone_node : Option Forest → Option Node
lone_node (Some (element t attrs inside line bare)) = Some (Element t attrs inside line)
lone_node (Some (words text bare)) = Some (Words text)
lone_node other = None

abbrev pub node_read : List Items → Option Node
node_read (items ∷ []) = lone_node (nodes_read (led_by_comma items))
node_read other = None

-- the tree of a text: it is read as the one item of an array
abbrev pub json_tree : List ℕ → Option Node
json_tree text = node_read (json_items between (text ++ codes "]"))

-- ---- what the JSON has of a tree: all but the attributes that are left out

abbrev pub included_attrs : List Attr → List Attr
included_attrs = filter (λ a. not (is_left_out a))

abbrev pub all_with_included_attrs : Forest → Forest
all_with_included_attrs bare = bare
all_with_included_attrs (element t attrs inside line more) = element t (included_attrs attrs) (all_with_included_attrs inside) line (all_with_included_attrs more)
all_with_included_attrs (words text more) = words text (all_with_included_attrs more)

abbrev pub with_included_attrs : Node → Node
with_included_attrs (Element t attrs inside line) = Element t (included_attrs attrs) (all_with_included_attrs inside) line
with_included_attrs (Words text) = Words text

-- numbers are of 64 bits, as all in the program are
abbrev pub HasNumbersOf64Bits : Value → Type 0
HasNumbersOf64Bits (Number n) = n < 2 ^ 64
HasNumbersOf64Bits other = Unit {0}

abbrev pub HaveNumbersOf64Bits : Forest → Type 0
HaveNumbersOf64Bits bare = Unit {0}
HaveNumbersOf64Bits (element t attrs inside line more) = (line < 2 ^ 64) × All (λ a. HasNumbersOf64Bits a.value) attrs × HaveNumbersOf64Bits inside × HaveNumbersOf64Bits more
HaveNumbersOf64Bits (words text more) = HaveNumbersOf64Bits more

-- ---- laws

-- the JSON of a tree is read back: the tree without the attributes that are left out
abbrev pub ReadsBack : Type 0
ReadsBack = (node : Node) → HaveNumbersOf64Bits (join_node node bare) → json_tree (json_node node) ≡ Some (with_included_attrs node)

-- trees with the same JSON differ only in attributes that aren't printed
abbrev pub ShowsOneTree : Type 0
ShowsOneTree =
    (node other : Node) → HaveNumbersOf64Bits (join_node node bare) → HaveNumbersOf64Bits (join_node other bare) → json_node node ≡ json_node other → with_included_attrs node ≡ with_included_attrs other
