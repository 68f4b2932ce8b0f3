-- Tables of contents, before their entries are made (Directives, 'Table of Contents').
use Rattle.std.specs.Prelude.{ℕ, Bool, true, false, not, ◌||◌, List, [], ◌∷◌, ◌++◌, length, codes, Option, Some, None, if◌then◌else◌}
use Rattle.rst_settings.specs.declared.Parts.{Parts}
use Rattle.rst_text.specs.Names.{name_in}
use Rattle.rst_tree.specs.Attributes.{attr, value_of, with_attr, without_key}
use Rattle.rst_tree.specs.Tree.{text_in}
use Rattle.rst_tree.specs.declared.attrs.Attr.{Attr}
use Rattle.rst_tree.specs.declared.attrs.Value.{Value}
use Rattle.rst_tree.specs.declared.attrs.Value.TheVariants.{Text as TextValue, Number, List as Listed}
use Rattle.rst_tree.specs.declared.key.Key.TheVariants.{Backlinks, Classes, OwnName, TextMessages}
use Rattle.rst_tree.specs.declared.node.Node.{Node}
use Rattle.rst_tree.specs.declared.node.Node.TheVariants.{Element, Text}
use Rattle.rst_tree.specs.declared.tag.Tag.TheVariants.{Contents, Title, Topic}
use Rattle.rst_markup_directives.specs.Options.{OptionSetting}
use Rattle.rst_markup_directives.specs.declared.option.OptionName.{OptionName}
use Rattle.rst_markup_directives.specs.declared.option.OptionName.TheVariants.{Local}
use Rattle.rst_block_nodes.specs.declared.settings.Holder.TheVariants.{Body, Entries}
use Rattle.rst_block_nodes.specs.Elements.{element_of, plain_node}
use Rattle.rst_block_nodes.specs.Numbered.{Numbered, ◌>>=◌, just}
use Rattle.rst_block_nodes.specs.Options.{with_choices}
use Rattle.rst_block_nodes.specs.Readings.{texted}

-- the option is `local`
abbrev pub is_local_option : OptionName → Bool
is_local_option Local = true
is_local_option _ = false

-- a table is local, which shows the sections around it alone
abbrev pub is_local : List OptionSetting → Bool
is_local [] = false
is_local (ch ∷ more) = is_local_option ch.0 || is_local more

-- the texts of a value that is a list
abbrev pub listed : Option Value → List (List ℕ)
listed (Some (Listed texts)) = texts
listed _ = []

-- `contents`, other classes, and `local` if the table is
abbrev pub contents_classes : Bool → List (List ℕ) → List (List ℕ)
contents_classes false own = codes "contents" ∷ own
contents_classes true own = (codes "contents" ∷ own) ++ codes "local" ∷ []

-- attributes with the classes of a table
abbrev pub with_classes : Bool → List Attr → List Attr
with_classes local attrs = with_attr Classes (Listed (contents_classes local (listed (value_of Classes attrs)))) (without_key Classes attrs)

-- the place of the entries, with what the options say of them; titles lead back to their entries unless an option says otherwise
abbrev pub entries : List OptionSetting → ℕ → Node
entries choices line = element_of Contents (with_choices Entries choices (attr Backlinks (TextValue (codes "entry")) ∷ [])) [] line

-- the attributes of a table that is named by a text; this many messages follow it
abbrev pub table_attrs : List OptionSetting → List ℕ → ℕ → List Attr
table_attrs choices text notes =
    with_attr TextMessages (Number notes) (with_attr OwnName (TextValue (name_in text)) (with_classes (is_local choices) (with_choices Body choices [])))

-- a table that begins with these nodes
abbrev pub table : List OptionSetting → List Node → List ℕ → ℕ → ℕ → Node
table choices nodes text notes line = element_of Topic (table_attrs choices text notes) (nodes ++ entries choices line ∷ []) line

-- the title of a table without an argument
abbrev pub usual_title : List ℕ
usual_title = codes "Contents"

-- a table without an argument: it has the usual title, unless it is local, and its name
abbrev pub untitled_table : List OptionSetting → ℕ → Node
untitled_table choices line = table choices (if not (is_local choices) then plain_node Title line usual_title ∷ [] else []) usual_title 0 line

-- an element without the number of its text's messages
abbrev pub uncounted : Node → Node
uncounted (Element t a c l) = Element t (without_key TextMessages a) c l
uncounted (Text t) = Text t

-- a table with a title, which gives it its name; the messages on the title follow the table, so it has their number in place of the title
abbrev pub titled_table : List OptionSetting → Node → ℕ → ℕ → Node
titled_table choices title notes line = table choices (uncounted title ∷ []) (text_in title) notes line

-- a table of contents in a line, by the text of its argument, and the messages on this text
abbrev pub table_of_contents : Parts → List OptionSetting → Option (List ℕ) → ℕ → Numbered (List Node)
table_of_contents parts choices None line = just (untitled_table choices line ∷ [])
table_of_contents parts choices (Some text) line =
    texted parts Title line text line >>= (λ made. just (titled_table choices made.0 (length made.1) line ∷ made.1))
