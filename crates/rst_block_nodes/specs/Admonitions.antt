-- The class that a title gives (Directives, 'Generic Admonition').
use Rattle.std.specs.Prelude.{List, [], ◌∷◌, ◌++◌, codes, if◌then◌else◌}
use Rattle.rst_text.specs.Names.{identifier}
use Rattle.std.specs.Option.{is_some}
use Rattle.rst_tree.specs.Attributes.{value_of, with_attr}
use Rattle.rst_tree.specs.Tree.{text_in}
use Rattle.rst_tree.specs.declared.attrs.Attr.{Attr}
use Rattle.rst_tree.specs.declared.attrs.Value.{Value}
use Rattle.rst_tree.specs.declared.attrs.Value.TheVariants.{List as Listed}
use Rattle.rst_tree.specs.declared.key.Key.TheVariants.{Classes}
use Rattle.rst_tree.specs.declared.node.Node.{Node}
use Rattle.rst_tree.specs.declared.node.Node.TheVariants.{Element, Text as Words}

-- the class that a title gives: `admonition-` and the id of its text
abbrev pub title_class : Node → Value
title_class title = Listed ((codes "admonition-" ++ identifier (text_in title)) ∷ [])

-- the attributes with that class, unless they have some
abbrev pub with_class : Value → List Attr → List Attr
with_class class attrs = if is_some (value_of Classes attrs) then attrs else with_attr Classes class attrs

-- an element with the class that its title gives; a text stays as it is
abbrev pub with_title_class : Node → Node → Node
with_title_class (Element t a c l) title = Element t (with_class (title_class title) a) c l
with_title_class (Words t) title = Words t
