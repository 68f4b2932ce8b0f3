-- Substitution definitions (Markup Specification, 'Substitution Definitions').
use Rattle.std.specs.Prelude.{◌≡◌, ℕ, ◌+◌, Bool, List, [], ◌∷◌, ◌++◌, if◌then◌else◌, map, option_and_then, option_map, slice_get, unwrap_or, Option, Some, None}
use Rattle.rst_text.specs.Names.{name_in}
use Rattle.std.specs.BTreeMap.{get_by_text}
use Rattle.std.specs.Option.{option_or}
use Rattle.std.specs.Str.{bytes_eq}
use Rattle.rst_tree.specs.declared.attrs.Attr.{Attr}
use Rattle.rst_tree.specs.declared.key.Key.TheVariants.{OwnName}
use Rattle.rst_tree.specs.declared.node.Node.{Node}
use Rattle.rst_tree.specs.declared.node.Node.TheVariants.{Element, Text}
use Rattle.rst_tree.specs.declared.tag.Tag.{Tag}
use Rattle.rst_tree.specs.declared.tag.Tag.TheVariants.{SubstitutionDefinition}
use Rattle.rst_tree.specs.Attributes.{as_text, value_of}
use Rattle.rst_tree.specs.Forest.{Forest, bare, element, words}
use Rattle.rst_transform_substitutions.specs.declared.listing.Defined.{Defined}
use Rattle.rst_transform_substitutions.specs.declared.listing.Listed.{Listed}
use Rattle.rst_transform_substitutions.specs.declared.definitions.Definitions.{Definitions}

-- a definition: its name as it was written, and the nodes that replace a reference
abbrev pub Definition : Type 0
Definition = List ℕ × Forest

-- what is listed of one
abbrev pub defined : Defined → Definition
defined one = (one.name.now, one.content.now)

-- an element, if it is a definition
abbrev pub own_definition : Tag → List Attr → Forest → List Definition
own_definition SubstitutionDefinition a c = (unwrap_or (as_text (value_of OwnName a)) [], c) ∷ []
own_definition _ a c = []

-- the definitions among some nodes, and in them, in preorder
abbrev pub definitions_among : Forest → List Definition
definitions_among bare = []
definitions_among (words t r) = definitions_among r
definitions_among (element t a c l r) = own_definition t a c ++ (definitions_among c ++ definitions_among r)

-- the place of the last of some definitions whose name passes a test, after some others, or else that among those
abbrev pub last_place : (List ℕ → Bool) → ℕ → Option ℕ → List Definition → Option ℕ
last_place passes place before [] = before
last_place passes place before (one ∷ more) = last_place passes (place + 1) (if passes one.0 then Some place else before) more

-- the place of the last definition of a name
abbrev pub place_of_name : List Definition → List ℕ → Option ℕ
place_of_name all name = last_place (λ other. bytes_eq name other) 0 None all

-- the place of the last one whose name gives a normalized name
abbrev pub place_of_normalized : List Definition → List ℕ → Option ℕ
place_of_normalized all name = last_place (λ other. bytes_eq name (name_in other)) 0 None all

-- the place of the definition that a name finds: that of the name as it is written, or else of the normalized one
abbrev pub place_found : List Definition → List ℕ → Option ℕ
place_found all name = option_or (place_of_name all name) (place_of_normalized all (name_in name))

-- a place with the nodes there, if there are such
abbrev pub placed : List Forest → Option ℕ → Option (ℕ × Forest)
placed contents = option_and_then (λ place. option_map (λ content. (place, content)) (slice_get contents place))

-- the definition that a name finds: its place, and the nodes that replace a reference
abbrev pub found_among : List Definition → List ℕ → Option (ℕ × Forest)
found_among all name = placed (map (λ one. one.1) all) (place_found all name)

-- some definitions are known by their names
pub record AreKnown (all : List Definition) (known : Definitions) : Type 0 where
  pub contents : known.contents.items ≡ map (λ one. one.1) all
  pub exact : (name : List ℕ) → get_by_text known.exact name ≡ place_of_name all name
  pub normalized : (name : List ℕ) → get_by_text known.normalized name ≡ place_of_normalized all name

-- two are equal but for what is measured
abbrev pub AreAlike : Definitions → Definitions → Type 0
AreAlike old new = (new.contents ≡ old.contents) × ((new.exact ≡ old.exact) × (new.normalized ≡ old.normalized))

-- the place that known definitions have for a name as it was written, and the place that a name finds
abbrev pub known_place : Definitions → List ℕ → Option ℕ
known_place known name = get_by_text known.exact name

abbrev pub known_found : Definitions → List ℕ → Option ℕ
known_found known name = option_or (get_by_text known.exact name) (get_by_text known.normalized (name_in name))

-- the definition that a name finds among them
abbrev pub found_by : Definitions → List ℕ → Option (ℕ × Forest)
found_by known name = placed known.contents.items (known_found known name)

-- what is listed, and of one more element the definition that it is
abbrev pub TakesListed : Listed → Option ℕ → Node → Listed → Option ℕ → Type 0
TakesListed old level (Text t) new inner = Unit {0}
TakesListed old level (Element t a c l) new inner = map defined new.definitions.items ≡ map defined old.definitions.items ++ own_definition t a c
