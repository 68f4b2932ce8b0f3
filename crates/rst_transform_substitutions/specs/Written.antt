-- Substitution definitions and references that are written out, and what happens to them, for worked examples. No rule of markup.
use Prim.Native.String.{String}
use Rattle.std.specs.Prelude.{ℕ, List, [], ◌∷◌, codes, map, Option, Some, None, Result}
use Rattle.rst_tree.specs.declared.key.Key.TheVariants.{OwnName, Rawsource, Refname}
use Rattle.rst_tree.specs.declared.node.Node.{Node}
use Rattle.rst_tree.specs.declared.tag.Tag.TheVariants.{Problematic, SubstitutionDefinition, SubstitutionReference}
use Rattle.rst_tree.specs.Nodes.{forest_of, nodes_of}
use Rattle.rst_transform_names.specs.Trees.{element, says, text}
use Rattle.rst_transform_work.specs.declared.document.Document.{Document}
use Rattle.rst_transform_work.specs.Known.{Known}
use Rattle.rst_transform_work.specs.Problematics.{problematic_attrs}
use Rattle.rst_transform_work.specs.Written.{plain_document, knowing}
use Rattle.rst_transform_substitutions.specs.declared.expansion.ExpansionFault.{ExpansionFault}
use Rattle.rst_transform_substitutions.specs.Definitions.{definitions_among, found_among}
use Rattle.rst_transform_substitutions.specs.Expanded.{with_expansions}
use Rattle.rst_transform_substitutions.specs.Expansion.{nodes_for}

-- a definition of a name, with the nodes that replace a reference
abbrev pub definition_node : String → List Node → Node
definition_node name nodes = element SubstitutionDefinition (says OwnName name ∷ []) nodes

-- a reference to a name
abbrev pub reference_to_name : String → Node
reference_to_name name = element SubstitutionReference (says Refname name ∷ []) []

-- what replaces a reference to a name, in the definition at a place or in none, by some definitions
abbrev pub stands_in : Option ℕ → String → List Node → Result (List Node) ExpansionFault
stands_in within name definitions = nodes_for (found_among (definitions_among (forest_of definitions))) within (codes name)

abbrev pub stands_for : String → List Node → Result (List Node) ExpansionFault
stands_for = stands_in None

-- a reference to a name, with its source text
abbrev pub substitution : String → String → Node
substitution name source = element SubstitutionReference (says Rawsource source ∷ says Refname name ∷ []) []

-- a problematic: its id, the number and the id of its message, and the source text
abbrev pub problem : String → ℕ → String → String → Node
problem id number own source = element Problematic (problematic_attrs (codes id) (Some (number, codes own))) (text source ∷ [])

-- the document of some nodes with its references replaced, and what is known then, where nothing was known before
abbrev pub expands : List Node → Document × Known
expands nodes = with_expansions (plain_document nodes) (knowing [])

-- the nodes of that document, and the texts of the messages
abbrev pub expansion_result : List Node → List Node
expansion_result nodes = nodes_of (expands nodes).0.children

abbrev pub reports : List Node → List (List ℕ)
reports nodes = map (λ r. r.text) (expands nodes).1.reports
