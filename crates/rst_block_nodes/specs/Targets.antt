-- Targets (Markup Specification, 'Hyperlink Targets'), and what a replacement text may contain (Directives, 'Replacement
-- Text').
use Rattle.std.specs.Prelude.{ℕ, Bool, true, false, ◌&&◌, not, List, [], ◌∷◌, Option, Some, None, encode_utf8_all}
use Rattle.std.specs.List.{list_all, list_any}
use Rattle.std.specs.Option.{is_some}
use Rattle.std.specs.Str.{chars}
use Rattle.rst_text.specs.Names.{name_of, name_in}
use Rattle.rst_tree.specs.Attributes.{attr, value_of, with_attr}
use Rattle.rst_tree.specs.Forest.{Forest, bare}
use Rattle.rst_tree.specs.Nodes.{nodes_of}
use Rattle.rst_tree.specs.declared.attrs.Attr.{Attr}
use Rattle.rst_tree.specs.declared.attrs.Value.TheVariants.{Text as TextValue, Number}
use Rattle.rst_tree.specs.declared.key.Key.TheVariants.{Anonymous, OwnName, Refname, Refuri}
use Rattle.rst_tree.specs.declared.node.Node.{Node}
use Rattle.rst_tree.specs.declared.node.Node.TheVariants.{Element, Text as Words}
use Rattle.rst_tree.specs.declared.tag.Tag.{Tag}
use Rattle.rst_tree.specs.declared.tag.Tag.TheVariants.{Abbreviation, Acronym, Emphasis, Handed, Strong, Literal, Math, Subscript, Superscript, TitleReference, SubstitutionReference, Reference, Target}
use Rattle.rst_tree_index.specs.Kinds.{is_substitution_reference_node}
use Rattle.rst_markup_directives.specs.Target.{Destination, named, located, target_value}
use Rattle.rst_inline.specs.Mail.{mailed}
use Rattle.rst_block_nodes.specs.Values.{unescaped}

-- ---- targets

-- the name, as it is written, if there is one
abbrev pub name_attrs : Option (List ℕ) → List Attr
name_attrs (Some written) = attr OwnName (TextValue (name_in (unescaped written))) ∷ []
name_attrs None = attr Anonymous (Number 1) ∷ []

-- with what the target leads to
abbrev pub leading_attrs : Bool → List Attr → Option Destination → List Attr
leading_attrs mail attrs (Some (named name)) = with_attr Refname (TextValue (encode_utf8_all (name_of name))) attrs
leading_attrs mail attrs (Some (located uri)) = with_attr Refuri (TextValue (encode_utf8_all (mailed mail uri))) attrs
leading_attrs mail attrs None = attrs

-- the target of a name, or an anonymous one, with what its text leads to
abbrev pub target_node : Bool → Option (List ℕ) → List ℕ → ℕ → Node
target_node mail name text line = Element Target (leading_attrs mail (name_attrs name) (target_value (chars text))) bare line

-- ---- replacement texts

-- elements of this kind are allowed there, whatever they contain
abbrev pub is_plain_role : Tag → Bool
is_plain_role Abbreviation = true
is_plain_role Acronym = true
is_plain_role Emphasis = true
is_plain_role Handed = true
is_plain_role Strong = true
is_plain_role Literal = true
is_plain_role Math = true
is_plain_role Subscript = true
is_plain_role Superscript = true
is_plain_role TitleReference = true
is_plain_role SubstitutionReference = true
is_plain_role _ = false

-- A reference is allowed there if it isn't anonymous and doesn't contain a substitution reference.
abbrev pub may_refer : List Attr → Forest → Bool
may_refer a c = not (is_some (value_of Anonymous a)) && not (list_any is_substitution_reference_node (nodes_of c))

-- an element is allowed there: a reference by its attributes and nodes, a target if it refers to a name, any other by its kind
abbrev pub may_stand_as : Tag → List Attr → Forest → Bool
may_stand_as Reference a c = may_refer a c
may_stand_as Target a c = is_some (value_of Refname a)
may_stand_as t a c = is_plain_role t

-- a node is allowed there; a text always is
abbrev pub may_stand : Node → Bool
may_stand (Element t a c l) = may_stand_as t a c
may_stand (Words t) = true

-- all nodes are allowed there
abbrev pub may_replace : List Node → Bool
may_replace nodes = list_all may_stand nodes
