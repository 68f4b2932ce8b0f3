-- Where elements and names lead (Markup Specification, 'Hyperlink Targets', 'Hyperlink References').
use Rattle.std.specs.Prelude.{ℕ, Bool, false, List, if◌then◌else◌, option_and_then, option_map, slice_get, unwrap_or, Option, Some, None}
use Rattle.std.specs.Option.{option_or}
use Rattle.rst_transform_names.specs.declared.names.NameEntry.{NameEntry}
use Rattle.rst_tree.specs.declared.attrs.Attr.{Attr}
use Rattle.rst_tree.specs.declared.attrs.Value.TheVariants.{Text}
use Rattle.rst_tree.specs.declared.key.Key.TheVariants.{Ids, Refid, Refuri}
use Rattle.rst_tree.specs.declared.node.Node.{Node}
use Rattle.rst_tree.specs.declared.node.Node.TheVariants.{Element as Tagged, Text as Words}
use Rattle.rst_tree.specs.Attributes.{attr}
use Rattle.rst_tree_index.specs.Kinds.{is_target}
use Rattle.rst_transform_work.specs.Reading.{list_of_attribute, text_of_attribute}
use Rattle.rst_transform_references.specs.declared.links.Change.{Change}
use Rattle.rst_transform_references.specs.declared.links.Change.TheVariants.{Stays}
use Rattle.rst_transform_references.specs.Links.{change_at, node_at}
use Rattle.rst_transform_references.specs.Table.{Links}

-- to a URI, or else to an id
abbrev pub lead_by : Option (List ℕ) → Option (List ℕ) → Option Attr
lead_by (Some uri) id = Some (attr Refuri (Text uri))
lead_by None id = option_map (λ text. attr Refid (Text text)) id

-- to the first id of an element
abbrev pub lead_to_id : Node → Option Attr
lead_to_id node = lead_by None (slice_get (list_of_attribute Ids node) 0)

-- where a transform found that an element leads
abbrev pub found_lead : Change → Option Attr
found_lead (Stays lead text) = lead
found_lead _ = None

-- where the element at a place leads: there, or else where it was written to lead
abbrev pub lead_at : ℕ → Links → Option Attr
lead_at place links =
    let node : Node = node_at place links in
    option_or (found_lead (change_at place links)) (lead_by (text_of_attribute Refuri node) (text_of_attribute Refid node))

abbrev pub is_target_node : Node → Bool
is_target_node (Tagged t a c l) = is_target t
is_target_node (Words t) = false

-- to the URI of the element that brought a name, or else to its id
abbrev pub kept_lead : Option (List ℕ) → List ℕ → Attr
kept_lead (Some uri) id = attr Refuri (Text uri)
kept_lead None id = attr Refid (Text id)

-- where a name leads: where its holder leads if that is a target, or else there
abbrev pub name_lead : Option ℕ → NameEntry → Links → Attr
name_lead holder entry links = unwrap_or (option_and_then (λ place. if is_target_node (node_at place links) then lead_at place links else None) holder) (kept_lead entry.uri entry.id)
