-- What an element is by its name and its attributes: a message, a substitution reference, a transition or an internal target
-- (Document Tree, 'Element Reference'; Markup Specification, 'Hyperlink Targets').
use Rattle.std.specs.Prelude.{◌&&◌, not, Bool, true, false, is_some}
use Rattle.rst_tree.specs.declared.key.Key.{Key}
use Rattle.rst_tree.specs.declared.key.Key.TheVariants.{Inline, Refname, Refuri}
use Rattle.rst_tree.specs.declared.node.Node.{Node}
use Rattle.rst_tree.specs.declared.node.Node.TheVariants.{Element, Text}
use Rattle.rst_tree.specs.declared.tag.Tag.{Tag}
use Rattle.rst_tree.specs.declared.tag.Tag.TheVariants.{SubstitutionReference, SystemMessage, Target, Transition}
use Rattle.rst_tree.specs.Attributes.{value_of}
use Rattle.rst_tree.specs.Walk.{Item}

abbrev pub is_message : Tag → Bool
is_message SystemMessage = true
is_message _ = false

abbrev pub is_transition : Tag → Bool
is_transition Transition = true
is_transition _ = false

abbrev pub is_target : Tag → Bool
is_target Target = true
is_target _ = false

-- an element has an attribute of this name
abbrev pub tells : Key → Item → Bool
tells k x = is_some (value_of k x.attrs)

abbrev pub is_substitution_reference : Tag → Bool
is_substitution_reference SubstitutionReference = true
is_substitution_reference _ = false

-- the node is one
abbrev pub is_substitution_reference_node : Node → Bool
is_substitution_reference_node (Element t a c l) = is_substitution_reference t
is_substitution_reference_node (Text t) = false

-- an internal target of the body: it is in no text, and has neither a URI nor a name
abbrev pub is_internal : Item → Bool
is_internal x = is_target x.tag && not (tells Inline x) && not (tells Refuri x) && not (tells Refname x)
