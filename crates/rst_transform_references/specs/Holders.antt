-- The linked elements that have names (Markup Specification, 'Hyperlink References').
use Rattle.std.specs.Prelude.{ℕ, Bool, true, false, List, option_and_then, replicate, slice_set, Option, Some, None}
use Rattle.rst_transform_names.specs.declared.names.Holder.{Holder}
use Rattle.rst_transform_names.specs.declared.names.Holder.TheVariants.{Nobody, Element}
use Rattle.rst_transform_names.specs.declared.names.NameEntry.{NameEntry}
use Rattle.rst_tree.specs.declared.key.Key.TheVariants.{Refname, Serial}
use Rattle.rst_tree.specs.declared.node.Node.{Node}
use Rattle.rst_transform_work.specs.Lists.{at_place}
use Rattle.rst_transform_work.specs.Reading.{number_of_attribute, text_of_attribute}
use Rattle.rst_transform_references.specs.Links.{all, node_at, places_of}
use Rattle.rst_transform_references.specs.Table.{Links}

-- a place is that of the element with a number, if there is one
abbrev pub with_place : ℕ → Option ℕ → List (Option ℕ) → List (Option ℕ)
with_place place None places = places
with_place place (Some serial) places = slice_set places serial (Some place)

-- the places of the elements by their numbers, which are below a bound
abbrev pub places_by_number : ℕ → Links → List (Option ℕ)
places_by_number serials links = all (λ place. with_place place (number_of_attribute Serial (node_at place links))) (places_of links) (replicate serials None)

-- the place of a holder, by these
abbrev pub holder_place : List (Option ℕ) → Holder → Option ℕ
holder_place places (Element serial) = at_place places serial
holder_place places _ = None

-- elements with equal names lost a name
abbrev pub is_nobody : Holder → Bool
is_nobody Nobody = true
is_nobody _ = false

-- the place of the element that has the name which an element refers to, by what is known of names
abbrev pub named_place : (List ℕ → Option NameEntry) → List (Option ℕ) → Node → Option ℕ
named_place known places node = option_and_then (λ name. option_and_then (λ entry. holder_place places entry.holder) (known name)) (text_of_attribute Refname node)
