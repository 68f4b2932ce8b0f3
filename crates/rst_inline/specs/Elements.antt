-- The elements of inline markup (Document Tree, 'Inline Elements').
use Rattle.std.specs.Prelude.{ℕ, Bool, ◌&&◌, ◌==◌, nat_le, List, [], ◌∷◌, codes, if◌then◌else◌}
use Rattle.std.specs.List.{list_all}
use Rattle.rst_text.specs.Names.{name_of, normalized_white}
use Rattle.rst_tree.specs.Attributes.{attr}
use Rattle.rst_tree.specs.Forest.{Forest, bare, words}
use Rattle.rst_tree.specs.Nodes.{forest_of}
use Rattle.rst_tree.specs.declared.attrs.Attr.{Attr}
use Rattle.rst_tree.specs.declared.attrs.Value.{Value}
use Rattle.rst_tree.specs.declared.attrs.Value.TheVariants.{Text as TextValue, Number, List as Listed}
use Rattle.rst_tree.specs.declared.key.Key.TheVariants.{Anonymous, Auto, Classes, Inline, Kind, Message, Name, OwnName, Rawsource, Refname, Refuri, XmlSpace}
use Rattle.rst_tree.specs.declared.node.Node.{Node}
use Rattle.rst_tree.specs.declared.node.Node.TheVariants.{Element}
use Rattle.rst_tree.specs.declared.tag.Tag.{Tag}
use Rattle.rst_tree.specs.declared.tag.Tag.TheVariants.{Target, Reference, SubstitutionReference, FootnoteReference, CitationReference, Handed, Literal, Problematic}
use Rattle.rst_text.specs.Characters.{Text}
use Rattle.rst_inline_scan.specs.declared.piece.Suffix.{Suffix}
use Rattle.rst_inline_scan.specs.declared.piece.Suffix.TheVariants.{Bare, Anonymous as Nameless}
use Rattle.rst_inline.specs.Mail.{uri_of_address}
use Rattle.rst_inline.specs.Parts.{text_bytes}

-- an attribute whose value is a text
abbrev pub text_value : Text → Value
text_value cs = TextValue (text_bytes cs)

-- what is in an element that holds a text: the text, and nothing where it is empty
abbrev pub text_children : Text → Forest
text_children [] = bare
text_children (c ∷ cs) = words (text_bytes (c ∷ cs)) bare

-- an element that holds a text
abbrev pub text_element : Tag → List Attr → Text → ℕ → Node
text_element tag attrs cs line = Element tag attrs (text_children cs) line

-- ---- references

-- A reference has the name by which it is known to its reader, its source, and the name that it refers to, unless it is
-- anonymous.
abbrev pub reference_attrs : Suffix → Text → Text → Text → List Attr
reference_attrs Nameless source display_text name = attr Anonymous (Number 1) ∷ attr Name (text_value (normalized_white display_text)) ∷ attr Rawsource (text_value source) ∷ []
reference_attrs _ source display_text name = attr Name (text_value (normalized_white display_text)) ∷ attr Rawsource (text_value source) ∷ attr Refname (text_value (name_of name)) ∷ []

-- a reference by a name: that which it shows, or an embedded alias
abbrev pub reference_node : Suffix → Text → Text → Text → ℕ → Node
reference_node suffix source display_text name line = text_element Reference (reference_attrs suffix source display_text name) display_text line

-- a reference to a URI that shows a text
abbrev pub link_node : Text → Text → Text → ℕ → Node
link_node source uri display_text line = text_element Reference (attr Rawsource (text_value source) ∷ attr Refuri (text_value uri) ∷ []) display_text line

-- a standalone URI, without its escapes
abbrev pub uri_node : Text → Text → ℕ → Node
uri_node source uri line = link_node source uri uri line

-- an e-mail address, which is shown without its escapes
abbrev pub address_node : Text → Text → ℕ → Node
address_node source address line = link_node source (uri_of_address address) address line

-- a phrase with an embedded URI
abbrev pub embedded_node : Text → Text → Text → ℕ → Node
embedded_node source display_text uri line =
    text_element Reference (attr Name (text_value (normalized_white display_text)) ∷ attr Rawsource (text_value source) ∷ attr Refuri (text_value uri) ∷ []) display_text line

-- ---- targets

-- an inline target, named by its text
abbrev pub inline_target_node : Text → ℕ → Node
inline_target_node display_text line = text_element Target (attr Inline (Number 1) ∷ attr OwnName (text_value (name_of display_text)) ∷ []) display_text line

-- the target that an embedded URI leaves, named by its phrase
abbrev pub uri_target_node : Text → Text → ℕ → Node
uri_target_node display_text uri line = Element Target (attr Inline (Number 1) ∷ attr OwnName (text_value (name_of display_text)) ∷ attr Refuri (text_value uri) ∷ []) bare line

-- that which an embedded alias leaves: it refers to the same name
abbrev pub alias_target_node : Text → Text → ℕ → Node
alias_target_node display_text name line = Element Target (attr Inline (Number 1) ∷ attr OwnName (text_value (name_of display_text)) ∷ attr Refname (text_value (name_of name)) ∷ []) bare line

-- ---- substitutions

-- a substitution reference, which refers to a definition by the name that is displayed
abbrev pub substitution_node : Text → Text → ℕ → Node
substitution_node source display_text line =
    text_element SubstitutionReference (attr Rawsource (text_value source) ∷ attr Refname (text_value (normalized_white display_text)) ∷ []) display_text line

-- The reference round a substitution reference has its source and the name that it refers to, unless it is anonymous, but no
-- name of its own.
abbrev pub outer_attrs : Suffix → Text → Text → List Attr
outer_attrs Nameless source display_text = attr Anonymous (Number 1) ∷ attr Rawsource (text_value source) ∷ []
outer_attrs _ source display_text = attr Rawsource (text_value source) ∷ attr Refname (text_value (name_of display_text)) ∷ []

-- a substitution that is a reference, too: the reference encloses it
abbrev pub outer_node : Suffix → Text → Text → Node → ℕ → Node
outer_node suffix source display_text inner line = Element Reference (outer_attrs suffix source display_text) (forest_of (inner ∷ [])) line

-- a substitution reference, alone or, where underscores follow it, with a reference around it
abbrev pub substituted_node : Suffix → Text → Text → Text → ℕ → Node
substituted_node Bare inner outer display_text line = substitution_node inner display_text line
substituted_node suffix inner outer display_text line = outer_node suffix outer display_text (substitution_node inner display_text line) line

-- ---- footnotes and citations

-- the character is one of the digits 0 to 9
abbrev pub is_digit : ℕ → Bool
is_digit c = nat_le 48 c && nat_le c 57

-- a label of digits is that of a footnote, another that of a citation
abbrev pub label_tag : Text → Tag
label_tag label = if list_all is_digit label then FootnoteReference else CitationReference

-- a reference whose label itself names what it refers to: to a manually numbered footnote, or to a citation
abbrev pub manual_reference_node : Text → Text → ℕ → Node
manual_reference_node source label line = text_element (label_tag label) (attr Rawsource (text_value source) ∷ attr Refname (text_value (name_of label)) ∷ []) label line

-- a reference to an autonumbered footnote: `#` alone, or with the name that is after it
abbrev pub autonumbered_reference_node : Text → Text → ℕ → Node
autonumbered_reference_node source [] line = Element FootnoteReference (attr Auto (Number 1) ∷ attr Rawsource (text_value source) ∷ []) bare line
autonumbered_reference_node source (c ∷ cs) line = Element FootnoteReference (attr Auto (Number 1) ∷ attr Rawsource (text_value source) ∷ attr Refname (text_value (name_of (c ∷ cs))) ∷ []) bare line

-- a reference to an auto-symbol footnote: `*`
abbrev pub autosymbol_reference_node : Text → ℕ → Node
autosymbol_reference_node source line = Element FootnoteReference (attr Auto (text_value (42 ∷ [])) ∷ attr Rawsource (text_value source) ∷ []) bare line

-- a reference to a footnote or a citation by the label in its brackets, which `#` or `*` may begin
abbrev pub label_reference_node : Text → Text → ℕ → Node
label_reference_node source [] line = manual_reference_node source [] line
label_reference_node source (c ∷ cs) line =
    if c == 35 then autonumbered_reference_node source cs line
    else (if c == 42 then autosymbol_reference_node source line else manual_reference_node source (c ∷ cs) line)

-- ---- program code

-- program code, which has the class of the directive for it
abbrev pub code_node : Text → ℕ → Node
code_node written line = text_element Literal (attr Classes (Listed (codes "code" ∷ [])) ∷ []) written line

-- ---- what is handed back

-- a directive or a role that is handed back, by its kind, its name and its source text
abbrev pub handed_node : List ℕ → List ℕ → Text → ℕ → Node
handed_node kind name source line =
    text_element Handed (attr Kind (TextValue kind) ∷ attr Name (TextValue name) ∷ attr XmlSpace (TextValue (codes "preserve")) ∷ []) source line

-- ---- problems

-- what is wrong as it is written, with the number of its message
abbrev pub problematic_node : ℕ → Text → ℕ → Node
problematic_node number source line = text_element Problematic (attr Message (Number number) ∷ []) source line
