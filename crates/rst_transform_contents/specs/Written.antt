-- Documents with tables of contents that are written out, for worked examples. No rule of markup.
use Prim.Native.String.{String}
use Rattle.std.specs.Prelude.{ℕ, List, [], ◌∷◌, codes, map}
use Rattle.rst_tree.specs.declared.attrs.Attr.{Attr}
use Rattle.rst_tree.specs.declared.key.Key.TheVariants.{Ids, Serial}
use Rattle.rst_tree.specs.declared.node.Node.{Node}
use Rattle.rst_tree.specs.declared.tag.Tag.TheVariants.{Contents, Section, Title, Topic}
use Rattle.rst_transform_names.specs.Trees.{counts, element, lists, text}
use Rattle.rst_transform_work.specs.Written.{knowing, plain_document, Shows}
use Rattle.rst_transform_contents.specs.Contents.{with_contents}

-- a table with these attributes of the place of its entries
abbrev pub table : List Attr → Node
table options = element Topic (lists Ids ("contents" ∷ []) ∷ []) (element Contents options [] ∷ [])

-- a section of a number and an id, with a title of these nodes; and one whose title is the id
abbrev pub titled_section : ℕ → String → List Node → List Node → Node
titled_section serial id title nodes = element Section (lists Ids (id ∷ []) ∷ counts Serial serial ∷ []) (element Title [] title ∷ nodes)

abbrev pub section : ℕ → String → List Node → Node
section serial id nodes = titled_section serial id (text id ∷ []) nodes

-- a document of these nodes, four elements of which have numbers, is printed in these lines once it has its tables; these ids are taken before
abbrev pub MakesWith : List String → List Node → List String → Type 0
MakesWith taken nodes lines = Shows (with_contents (plain_document nodes) (record (knowing []) { ids = map codes taken; serials = 4 })).0 lines

abbrev pub MakesTables : List Node → List String → Type 0
MakesTables nodes lines = MakesWith [] nodes lines
