-- Substitution references in a document (Markup Specification, 'Substitution References'): each gives way to what replaces it, or to a
-- problematic (Document Tree, 'problematic').
use Rattle.std.specs.Prelude.{ℕ, true, List, [], ◌∷◌, ◌++◌, length, if◌then◌else◌, unwrap_or, Option, None, Result, Ok, Err}
use Rattle.rst_tree.specs.declared.attrs.Attr.{Attr}
use Rattle.rst_tree.specs.declared.key.Key.TheVariants.{OwnName}
use Rattle.rst_tree.specs.declared.node.Node.{Node}
use Rattle.rst_tree.specs.declared.node.Node.TheVariants.{Element, Text}
use Rattle.rst_tree.specs.declared.note.Level.TheVariants.{Error}
use Rattle.rst_tree.specs.declared.tag.Tag.{Tag}
use Rattle.rst_tree.specs.declared.tag.Tag.TheVariants.{SubstitutionDefinition}
use Rattle.rst_tree.specs.Attributes.{as_text, value_of}
use Rattle.rst_tree.specs.Forest.{Forest, bare, element, words}
use Rattle.rst_tree.specs.Nodes.{forest_of, nodes_of}
use Rattle.rst_tree_index.specs.Kinds.{is_substitution_reference}
use Rattle.rst_transform_work.specs.declared.document.Document.{Document}
use Rattle.rst_transform_work.specs.Known.{Known}
use Rattle.rst_transform_work.specs.Problematics.{reported_problematic}
use Rattle.rst_transform_work.specs.Reading.{rawsource_of}
use Rattle.rst_transform_work.specs.Reports.{reported}
use Rattle.rst_transform_substitutions.specs.declared.expansion.ExpansionFault.{ExpansionFault}
use Rattle.rst_transform_substitutions.specs.Definitions.{definitions_among, found_among, place_of_name, Definition}
use Rattle.rst_transform_substitutions.specs.Expansion.{expansion_fault_text, refname_of, nodes_for}

-- nodes, and what is known once they are there
abbrev pub Nodes : Type 0
Nodes = List Node × Known

-- some nodes, and then those that come next
abbrev pub followed : Nodes → (Known → Nodes) → Nodes
followed here rest = let more : Nodes = rest here.1 in (here.0 ++ more.0, more.1)

-- one node
abbrev pub single_node : Node × Known → Nodes
single_node done = (done.0 ∷ [], done.1)

-- an element around nodes
abbrev pub around : Tag → List Attr → ℕ → Nodes → Nodes
around t a l inside = single_node (Element t a (forest_of inside.0) l, inside.1)

-- a reference that isn't replaced becomes the problematic of an ERROR, with its source text
abbrev pub at_fault : List Attr → ℕ → ExpansionFault → Known → Node × Known
at_fault a l fault known = reported_problematic (length known.reports) (rawsource_of a) l (reported Error l (expansion_fault_text (refname_of a) fault) true known)

-- a reference gives way to nodes, or to that problematic
abbrev pub given_way : List Attr → ℕ → Result (List Node) ExpansionFault → Known → Nodes
given_way a l (Ok nodes) known = (nodes, known)
given_way a l (Err fault) known = single_node (at_fault a l fault known)

-- what happens to a reference, by which definition a name finds; it is in the definition at a place, or in none
abbrev pub replaced : (List ℕ → Option (ℕ × Forest)) → Option ℕ → List Attr → ℕ → Known → Nodes
replaced found within a l = given_way a l (nodes_for found within (refname_of a))

-- the place of the definition that the nodes in an element are in, if there is one: that of its own name if it is a definition
abbrev pub within_element : (List ℕ → Option ℕ) → Tag → List Attr → Option ℕ → Option ℕ
within_element place SubstitutionDefinition a within = place (unwrap_or (as_text (value_of OwnName a)) [])
within_element place _ a within = within

-- given which definition a name finds, and at which place the definition of a name is
module _ (found : List ℕ → Option (ℕ × Forest)) (place : List ℕ → Option ℕ) where
  -- What happens to nodes, in the order of the document: the references among them and in them give way. The nodes are in the definition at a
  -- place, or in none.
  abbrev pub expanded_in : Option ℕ → Forest → Known → Nodes
  expanded_in within bare known = ([], known)
  expanded_in within (words t r) known = followed (Text t ∷ [], known) (λ then_known. expanded_in within r then_known)
  expanded_in within (element t a c l r) known =
      followed (if is_substitution_reference t then replaced found within a l known else around t a l (expanded_in (within_element place t a within) c known)) (λ then_known. expanded_in within r then_known)

-- each reference in a document gives way, by the definitions in the document
abbrev pub with_expansions : Document → Known → Document × Known
with_expansions document known =
    let all : List Definition = definitions_among document.children in
    let done : Nodes = expanded_in (found_among all) (place_of_name all) None document.children known in
    (record document { children = forest_of done.0 }, done.1)

-- while references are replaced in place, each contains the nodes that it gives way to
abbrev pub unwrapped_reference : Node → List Node
unwrapped_reference (Element t a c l) = if is_substitution_reference t then nodes_of c else Element t a c l ∷ []
unwrapped_reference (Text t) = Text t ∷ []
