-- The names of aliases: a phrase that refers to a name leaves a target with its own name (Markup Specification, 'Embedded URIs and Aliases').
use Rattle.std.specs.Prelude.{ℕ, ◌&&◌, ◌||◌, Bool, false, List, [], if◌then◌else◌, is_some, nat_lt, Option, Some, None}
use Rattle.std.specs.List.{range_with_len}
use Rattle.rst_tree.specs.declared.key.Key.TheVariants.{Inline, OwnName, Serial}
use Rattle.rst_tree.specs.declared.node.Node.{Node}
use Rattle.rst_tree.specs.Paths.{node_value}
use Rattle.rst_transform_names.specs.declared.names.NameEntry.{NameEntry}
use Rattle.rst_transform_names.specs.Names.{with_entry}
use Rattle.rst_transform_work.specs.Reading.{number_of_attribute, text_of_attribute}
use Rattle.rst_transform_references.specs.Chains.{indirect_name}
use Rattle.rst_transform_references.specs.Footnotes.{entry_by, is_noted}
use Rattle.rst_transform_references.specs.Holders.{holder_place}
use Rattle.rst_transform_references.specs.Links.{all, node_at}
use Rattle.rst_transform_references.specs.Table.{Links}

-- the name of an alias, by the target that it leaves: an indirect one in a text
abbrev pub alias_name : Node → Option (List ℕ)
alias_name node = if is_some (indirect_name node) && is_some (node_value Inline node) then text_of_attribute OwnName node else None

-- a footnote or a citation keeps a name from the alias at a place, and so do an indirect target and an alias before it
abbrev pub keeps_from : ℕ → Links → Option ℕ → Bool
keeps_from place links None = false
keeps_from place links (Some holder) = is_noted (node_at holder links) || (nat_lt holder place && is_some (indirect_name (node_at holder links)))

abbrev pub keeps_name : List (Option ℕ) → Links → ℕ → Option NameEntry → Bool
keeps_name places links place None = false
keeps_name places links place (Some entry) = keeps_from place links (holder_place places entry.holder)

-- what is known of names once the element with a number has a name, unless that is kept from it; without either it stays as it was
abbrev pub held_by : (List ℕ → Bool) → (List ℕ → Option NameEntry) → Option (List ℕ) → Option ℕ → List ℕ → Option NameEntry
held_by is_kept names (Some name) (Some serial) = if is_kept name then names else with_entry name (entry_by (Some serial) (Some [])) names
held_by is_kept names _ _ = names

-- what is known of names once the alias at a place, if one is there, has its name, and once those before a place have theirs
abbrev pub with_alias : List (Option ℕ) → Links → ℕ → (List ℕ → Option NameEntry) → List ℕ → Option NameEntry
with_alias places links place names =
    let node : Node = node_at place links in
    held_by (λ name. keeps_name places links place (names name)) names (alias_name node) (number_of_attribute Serial node)

abbrev pub names_before : ℕ → List (Option ℕ) → Links → (List ℕ → Option NameEntry) → List ℕ → Option NameEntry
names_before place places links = all (with_alias places links) (range_with_len 0 place)
