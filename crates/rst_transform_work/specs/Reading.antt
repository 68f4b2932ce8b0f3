-- The values of an element's attributes.
use Rattle.std.specs.Prelude.{ℕ, Bool, true, false, List, [], Option, Some, unwrap_or}
use Rattle.rst_tree.specs.declared.tag.Tag.TheVariants.{Comment, Target, Raw, SubstitutionDefinition, SystemMessage, Subtitle, Title}
use Rattle.rst_tree.specs.declared.attrs.Attr.{Attr}
use Rattle.rst_tree.specs.declared.attrs.Value.{Value}
use Rattle.rst_tree.specs.declared.attrs.Value.TheVariants.{List as Listed}
use Rattle.rst_tree.specs.declared.key.Key.{Key}
use Rattle.rst_tree.specs.declared.key.Key.TheVariants.{Rawsource}
use Rattle.rst_tree.specs.declared.node.Node.{Node}
use Rattle.rst_tree.specs.declared.node.Node.TheVariants.{Element, Text as Words}
use Rattle.rst_tree.specs.Attributes.{value_of, as_text, as_number}
use Rattle.rst_tree.specs.Paths.{node_value}

-- the members of the list that a value is, or none
abbrev pub members_in : Option Value → List (List ℕ)
members_in (Some (Listed texts)) = texts
members_in _ = []

abbrev pub text_of_attribute : Key → Node → Option (List ℕ)
text_of_attribute k n = as_text (node_value k n)

abbrev pub number_of_attribute : Key → Node → Option ℕ
number_of_attribute k n = as_number (node_value k n)

abbrev pub list_of_attribute : Key → Node → List (List ℕ)
list_of_attribute k n = members_in (node_value k n)

-- the number of an element's first line, 0 for a text
abbrev pub line_of : Node → ℕ
line_of (Element t a c l) = l
line_of (Words t) = 0

-- the source text in the attributes of a reference, or the empty text
abbrev pub rawsource_of : List Attr → List ℕ
rawsource_of attrs = unwrap_or (as_text (value_of Rawsource attrs)) []

-- a title or a subtitle
abbrev pub is_title : Node → Bool
is_title (Element Title a c l) = true
is_title (Element Subtitle a c l) = true
is_title _ = false

-- what may come before a lone section: a comment, a target, a substitution definition, raw data or a message
abbrev pub may_precede : Node → Bool
may_precede (Element Comment a c l) = true
may_precede (Element Target a c l) = true
may_precede (Element SubstitutionDefinition a c l) = true
may_precede (Element Raw a c l) = true
may_precede (Element SystemMessage a c l) = true
may_precede _ = false
