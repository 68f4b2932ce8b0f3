-- What replaces a substitution reference (Markup Specification, 'Substitution References', 'Substitution Definitions'). How much may be visited
-- for one is no rule of markup.
use Rattle.std.specs.Prelude.{◌≡◌, ℕ, zero, suc, ◌+◌, ◌-◌, ◌==◌, nat_le, List, [], ◌∷◌, ◌++◌, codes, length, if◌then◌else◌, unwrap_or, Option, Some, None, Result, Ok, Err}
use Rattle.std.specs.List.{list_any}
use Rattle.std.specs.Str.{chars}
use Rattle.rst_tree.specs.declared.attrs.Attr.{Attr}
use Rattle.rst_tree.specs.declared.key.Key.TheVariants.{Refname, Serial}
use Rattle.rst_tree.specs.declared.node.Node.{Node}
use Rattle.rst_tree.specs.declared.node.Node.TheVariants.{Element, Text}
use Rattle.rst_tree.specs.declared.tag.Tag.{Tag}
use Rattle.rst_tree.specs.Attributes.{as_text, value_of, without_key}
use Rattle.rst_tree.specs.Forest.{Forest, bare, element, words}
use Rattle.rst_tree.specs.Nodes.{forest_of}
use Rattle.rst_tree_index.specs.Kinds.{is_substitution_reference}
use Rattle.rst_transform_substitutions.specs.declared.expansion.ExpansionFault.{ExpansionFault}
use Rattle.rst_transform_substitutions.specs.declared.expansion.ExpansionFault.TheVariants.{Undefined, Circular, TooLarge}
use Rattle.rst_transform_substitutions.specs.declared.expansion.Halted.{Halted}
use Rattle.rst_transform_substitutions.specs.declared.expansion.Halted.TheVariants.{By, NoMemory}

-- the most definitions that are gone into for one reference, each found in the one before
abbrev pub most_nested : ℕ
most_nested = 100

-- the most nodes and characters that are visited for one reference
abbrev pub most_visited : ℕ
most_visited = 10000

-- the name in a reference
abbrev pub refname_of : List Attr → List ℕ
refname_of a = unwrap_or (as_text (value_of Refname a)) []

-- what a node counts for, without the nodes in it: one, and a text one more for each character
abbrev pub size_of : Node → ℕ
size_of (Element t a c l) = 1
size_of (Text t) = length (chars t) + 1

-- the element around other nodes: the registered one stays the one that was copied
abbrev pub copied_element : Tag → List Attr → List Node → ℕ → Node
copied_element t a nodes l = Element t (without_key Serial a) (forest_of nodes) l

-- what an expansion comes to: nodes, and how many nodes and characters may still be met, or why it fails
abbrev pub Expansion : Type 0
Expansion = Result (List Node × ℕ) ExpansionFault

-- visits something of a size, if that much may still be visited, and then the rest
abbrev pub visiting : ℕ → ℕ → (ℕ → Expansion) → Expansion
visiting size left rest = if nat_le size left then rest (left - size) else Err TooLarge

-- some nodes, and then those of an expansion
abbrev pub after_nodes : List Node → Expansion → Expansion
after_nodes nodes (Ok done) = Ok (nodes ++ done.0, done.1)
after_nodes nodes (Err fault) = Err fault

-- an expansion, and then one with what may still be visited
abbrev pub then_expanded : Expansion → (ℕ → Expansion) → Expansion
then_expanded (Ok done) rest = after_nodes done.0 (rest done.1)
then_expanded (Err fault) rest = Err fault

-- an element around the nodes of an expansion
abbrev pub element_around : Tag → List Attr → ℕ → Expansion → Expansion
element_around t a l (Ok done) = Ok (copied_element t a done.0 l ∷ [], done.1)
element_around t a l (Err fault) = Err fault

-- what copies of nodes come to, by how much may be visited, given what a reference to a name does
abbrev pub expanded_copies : (List ℕ → ℕ → Expansion) → Forest → ℕ → Expansion
expanded_copies given bare left = Ok ([], left)
expanded_copies given (words t r) left = visiting (size_of (Text t)) left (λ more. after_nodes (Text t ∷ []) (expanded_copies given r more))
expanded_copies given (element t a c l r) left =
    visiting (size_of (Element t a c l)) left (λ more. then_expanded (if is_substitution_reference t then given (refname_of a) more else element_around t a l (expanded_copies given c more)) (λ then_more. expanded_copies given r then_more))

-- the path of a reference that is in the definition at a place, or in none
abbrev pub path_from : Option ℕ → List ℕ
path_from None = []
path_from (Some place) = place ∷ []

-- the nodes of an expansion
abbrev pub expansion_nodes : Expansion → Result (List Node) ExpansionFault
expansion_nodes (Ok done) = Ok done.0
expansion_nodes (Err fault) = Err fault

-- what a reference to a name comes to by its definition, if there is one that isn't gone into already, as those at the places of a path are
abbrev pub entering : List ℕ → List ℕ → Option (ℕ × Forest) → (ℕ × Forest → Expansion) → Expansion
entering path name None content = Err (Undefined name)
entering path name (Some one) content = if list_any (λ place. place == one.0) path then Err (Circular name) else content one

-- given which definition a name finds
module _ (found : List ℕ → Option (ℕ × Forest)) where
  -- what a reference to a name comes to after the definitions on a path, by how many further ones may be gone into
  unfoldable pub given_within : ℕ → List ℕ → List ℕ → ℕ → Expansion
  given_within zero path name left = entering path name (found name) (λ one. Err TooLarge)
  given_within (suc more) path name left = entering path name (found name) (λ one. expanded_copies (given_within more (path ++ one.0 ∷ [])) one.1 left)

  -- the same, where that many may be in all
  abbrev pub given : List ℕ → List ℕ → ℕ → Expansion
  given path = given_within (most_nested - length path) path

  -- the nodes for a reference to a name, which is in the definition at a place or in none
  abbrev pub nodes_for : Option ℕ → List ℕ → Result (List Node) ExpansionFault
  nodes_for within name = expansion_nodes (given (path_from within) name most_visited)

-- what may still be visited after an expansion
abbrev pub remaining_visits : Expansion → Result ℕ ExpansionFault
remaining_visits (Ok done) = Ok done.1
remaining_visits (Err fault) = Err fault

-- the text of the message on a reference to a name that isn't replaced
abbrev pub expansion_fault_text : List ℕ → ExpansionFault → List ℕ
expansion_fault_text name (Undefined inner) = codes "Undefined substitution referenced: \"" ++ (inner ++ codes "\".")
expansion_fault_text name (Circular inner) = codes "Circular substitution definition referenced: \"" ++ (inner ++ codes "\".")
expansion_fault_text name TooLarge = codes "Substitution expansion too large: \"" ++ (name ++ codes "\".")

-- the call comes to the same, or reports that memory ran out
abbrev pub ComesTo : {A B : Type 0} → Result B ExpansionFault → (A → B) → Result A Halted → Type 0
ComesTo wanted given (Ok done) = wanted ≡ Ok (given done)
ComesTo wanted given (Err (By fault)) = wanted ≡ Err fault
ComesTo wanted given (Err NoMemory) = Unit {0}

-- the call goes into the definition that a reference finds: the reference comes to what the nodes there do
abbrev pub Enters : {A : Type 0} → (ℕ → Expansion) → (A → ℕ → Expansion) → Result A Halted → Type 0
Enters reference content (Ok done) = (left : ℕ) → reference left ≡ content done left
Enters reference content (Err (By fault)) = (left : ℕ) → reference left ≡ Err fault
Enters reference content (Err NoMemory) = Unit {0}

-- if the call tells a fault, it is that of an expansion
abbrev pub TellsFault : {A : Type 0} → Expansion → Result A Halted → Type 0
TellsFault wanted (Err (By fault)) = wanted ≡ Err fault
TellsFault wanted result = Unit {0}

-- what replaces a reference, or the fault of an expansion; if it is counted at once
abbrev pub CopiesAtOnce : {A : Type 0} → Expansion → ℕ → ℕ → (A → List Node) → Result (Option A) Halted → Type 0
CopiesAtOnce wanted old new nodes (Ok (Some copy)) = wanted ≡ Ok (nodes copy, new)
CopiesAtOnce wanted old new nodes (Ok None) = new ≡ old
CopiesAtOnce wanted old new nodes (Err (By fault)) = wanted ≡ Err fault
CopiesAtOnce wanted old new nodes (Err NoMemory) = Unit {0}
