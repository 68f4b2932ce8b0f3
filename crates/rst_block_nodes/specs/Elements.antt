-- Elements of texts without markup, and of numbers (Document Tree, 'Element Reference').
use Rattle.std.specs.Prelude.{ℕ, ◌==◌, List, [], ◌∷◌, ◌++◌, length, map, drop, codes, decimal, if◌then◌else◌, Option, Some, None, encode_utf8_all}
use Rattle.std.specs.Str.{chars}
use Rattle.rst_text.specs.Block.{is_blank}
use Rattle.rst_text.specs.Names.{name_of, name_in}
use Rattle.rst_tree.specs.Attributes.{attr}
use Rattle.rst_tree.specs.Forest.{bare}
use Rattle.rst_tree.specs.Nodes.{forest_of}
use Rattle.rst_tree.specs.declared.attrs.Attr.{Attr}
use Rattle.rst_tree.specs.declared.attrs.Value.TheVariants.{Text as TextValue, Number}
use Rattle.rst_tree.specs.declared.key.Key.TheVariants.{Auto, Bullet, Cols, Colwidth, Delimiter as DelimiterKey, Enumtype, Mark, Morecols, Morerows, OwnName, Prefix, Start, Suffix, XmlSpace}
use Rattle.rst_tree.specs.declared.node.Node.{Node}
use Rattle.rst_tree.specs.declared.node.Node.TheVariants.{Element, Text as Words}
use Rattle.rst_tree.specs.declared.tag.Tag.{Tag}
use Rattle.rst_tree.specs.declared.tag.Tag.TheVariants.{BulletList, EnumeratedList, Option as OptionTag, OptionString, OptionArgument, Label, Footnote, Citation, SubstitutionDefinition, Tgroup, Colspec, Entry}
use Rattle.rst_markup_lines.specs.declared.enumerator.Enumerator.{Enumerator}
use Rattle.rst_markup_lines.specs.declared.enumerator.Format.{Format}
use Rattle.rst_markup_lines.specs.declared.enumerator.Format.TheVariants.{Parentheses, Parenthesis, Period}
use Rattle.rst_markup_lines.specs.declared.enumerator.Reading.{Reading}
use Rattle.rst_markup_lines.specs.declared.enumerator.Sequence.{Sequence}
use Rattle.rst_markup_lines.specs.declared.enumerator.Sequence.TheVariants.{Arabic, LowerAlpha, UpperAlpha, LowerRoman, UpperRoman}
use Rattle.rst_markup_lines.specs.declared.option.Delimiter.{Delimiter}
use Rattle.rst_markup_lines.specs.declared.option.Delimiter.TheVariants.{Nothing, Space, Equals}
use Rattle.rst_markup_lines.specs.Enumerator.{first_reading}
use Rattle.rst_markup_lines.specs.TextStart.{begins_with}

-- an element with attributes and nodes
abbrev pub element_of : Tag → List Attr → List Node → ℕ → Node
element_of tag attrs nodes line = Element tag attrs (forest_of nodes) line

-- the nodes of a text without markup: none where it is empty
abbrev pub text_nodes : List ℕ → List Node
text_nodes [] = []
text_nodes (b ∷ bs) = Words (b ∷ bs) ∷ []

-- an element whose only node is a text
abbrev pub plain_node : Tag → ℕ → List ℕ → Node
plain_node tag line text = element_of tag [] (text_nodes text) line

-- the attribute by which white characters are kept
abbrev pub preserving : List Attr
preserving = attr XmlSpace (TextValue (codes "preserve")) ∷ []

-- the same element, whose white characters stay
abbrev pub preserved_node : Tag → ℕ → List ℕ → Node
preserved_node tag line text = element_of tag preserving (text_nodes text) line

-- ---- lists

-- a bullet list, which has its bullet as an attribute, and no item yet
abbrev pub bullet_list_node : ℕ → ℕ → Node
bullet_list_node mark line = Element BulletList (attr Bullet (TextValue (encode_utf8_all (mark ∷ []))) ∷ []) bare line

-- what a sequence of ordinals is called
abbrev pub sequence_name : Sequence → List ℕ
sequence_name Arabic = codes "arabic"
sequence_name LowerAlpha = codes "loweralpha"
sequence_name UpperAlpha = codes "upperalpha"
sequence_name LowerRoman = codes "lowerroman"
sequence_name UpperRoman = codes "upperroman"

-- what comes before an ordinal
abbrev pub prefix : Format → List ℕ
prefix Parentheses = codes "("
prefix Parenthesis = []
prefix Period = []

-- what comes after an ordinal
abbrev pub suffix : Format → List ℕ
suffix Parentheses = codes ")"
suffix Parenthesis = codes ")"
suffix Period = codes "."

-- the first ordinal is an attribute if it isn't 1
abbrev pub enumerated_attrs : Reading → Format → List Attr
enumerated_attrs reading format =
    if reading.ordinal == 1
    then attr Enumtype (TextValue (sequence_name reading.sequence)) ∷ attr Prefix (TextValue (prefix format)) ∷ attr Suffix (TextValue (suffix format)) ∷ []
    else attr Enumtype (TextValue (sequence_name reading.sequence)) ∷ attr Prefix (TextValue (prefix format)) ∷ attr Start (Number reading.ordinal) ∷ attr Suffix (TextValue (suffix format)) ∷ []

-- an enumerated list, which has its way of numbering as attributes, and no item yet
abbrev pub enumerated_list_node : Enumerator → ℕ → Node
enumerated_list_node enumerator line =
    Element EnumeratedList (enumerated_attrs (first_reading enumerator.written.ordinals) enumerator.format) bare line

-- the message that the first ordinal isn't 1
abbrev pub start_text : List ℕ → ℕ → List ℕ
start_text written ordinal =
    codes "Enumerated list start value not ordinal-1: \"" ++ written ++ codes "\" (ordinal " ++ decimal ordinal ++ codes ")"

-- ---- options

-- what comes between an option and its argument
abbrev pub delimiter_text : Delimiter → List ℕ
delimiter_text Nothing = []
delimiter_text Space = codes " "
delimiter_text Equals = codes "="

-- an option's argument, which has what comes before it as an attribute
abbrev pub argument_nodes : Option (Delimiter × List ℕ) → ℕ → List Node
argument_nodes None line = []
argument_nodes (Some (delimiter, text)) line =
    element_of OptionArgument (attr DelimiterKey (TextValue (delimiter_text delimiter)) ∷ []) (text_nodes text) line ∷ []

-- an option with its string and its argument, if it has one
abbrev pub option_node : List ℕ → Option (Delimiter × List ℕ) → ℕ → Node
option_node string argument line = element_of OptionTag [] (plain_node OptionString line string ∷ argument_nodes argument line) line

-- ---- labels

-- an element that begins with a label
abbrev pub labelled_node : Tag → List Attr → List ℕ → ℕ → Node
labelled_node tag attrs label_text line = element_of tag attrs (plain_node Label line label_text ∷ []) line

-- `#` alone, or with a name
abbrev pub numbered_attrs : List ℕ → List ℕ → List Attr
numbered_attrs label name =
    if is_blank name
    then attr Auto (Number 1) ∷ attr Mark (TextValue label) ∷ []
    else attr Auto (Number 1) ∷ attr Mark (TextValue label) ∷ attr OwnName (TextValue (encode_utf8_all (name_of name))) ∷ []

-- A footnote by its label: one that begins with `#` or `*` gets its number or its symbol, and shows no label yet; any other is digits, which it
-- shows and is named by.
abbrev pub footnote_node : List ℕ → ℕ → Node
footnote_node label line =
    if begins_with 35 (chars label) then labelled_node Footnote (numbered_attrs label (drop 1 (chars label))) [] line
    else if begins_with 42 (chars label) then labelled_node Footnote (attr Auto (TextValue (codes "*")) ∷ attr Mark (TextValue label) ∷ []) [] line
    else labelled_node Footnote (attr Mark (TextValue label) ∷ attr OwnName (TextValue (name_in label)) ∷ []) label line

-- a citation, named by its label, which it shows
abbrev pub citation_node : List ℕ → ℕ → Node
citation_node label line = labelled_node Citation (attr OwnName (TextValue (name_in label)) ∷ []) label line

-- ---- substitutions

-- a substitution definition by its name, still without content
abbrev pub substitution_definition_node : List ℕ → ℕ → Node
substitution_definition_node name line = Element SubstitutionDefinition (attr OwnName (TextValue name) ∷ []) bare line

-- ---- tables

-- a column of a width
abbrev pub colspec_node : ℕ → ℕ → Node
colspec_node line width = Element Colspec (attr Colwidth (Number width) ∷ []) bare line

-- a group of columns of these widths, with their number as an attribute
abbrev pub tgroup_node : List ℕ → ℕ → Node
tgroup_node widths line = element_of Tgroup (attr Cols (Number (length widths)) ∷ []) (map (colspec_node line) widths) line

-- a span of more columns, which is no attribute where there are none
abbrev pub morecols_attrs : ℕ → List Attr
morecols_attrs n = if n == 0 then [] else attr Morecols (Number n) ∷ []

-- a span of more rows, which is no attribute where there are none
abbrev pub morerows_attrs : ℕ → List Attr
morerows_attrs n = if n == 0 then [] else attr Morerows (Number n) ∷ []

-- an entry, with the numbers of further rows and columns that it spans as attributes, still empty
abbrev pub entry_node : ℕ → ℕ → ℕ → Node
entry_node morerows morecols line = Element Entry (morecols_attrs morecols ++ morerows_attrs morerows) bare line
