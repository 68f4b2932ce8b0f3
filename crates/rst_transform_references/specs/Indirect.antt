-- Indirect targets, which lead where the names that they refer to lead (Markup Specification, 'Hyperlink Targets').
use Rattle.std.specs.Prelude.{ℕ, Bool, true, false, List, [], ◌∷◌, ◌++◌, codes, filter, get_or, length, map, nat_eq, if◌then◌else◌, is_some, slice_set, unwrap_or, Option, Some, None}
use Rattle.std.specs.List.{list_any, range_with_len}
use Rattle.std.specs.declared.vec.Vec.{Vec}
use Rattle.rst_transform_names.specs.declared.names.NameEntry.{NameEntry}
use Rattle.rst_tree.specs.declared.attrs.Attr.{Attr}
use Rattle.rst_tree.specs.declared.key.Key.TheVariants.{Anonymous as AnonymousKey, OwnName}
use Rattle.rst_tree.specs.declared.node.Node.{Node}
use Rattle.rst_tree.specs.declared.node.Node.TheVariants.{Element}
use Rattle.rst_tree.specs.declared.tag.Tag.TheVariants.{Reference}
use Rattle.rst_tree.specs.Paths.{node_value}
use Rattle.rst_transform_work.specs.Known.{Known}
use Rattle.rst_transform_work.specs.Lists.{at_place}
use Rattle.rst_transform_work.specs.Reading.{line_of, text_of_attribute}
use Rattle.rst_transform_references.specs.declared.chains.Answer.{Answer}
use Rattle.rst_transform_references.specs.declared.chains.Answer.TheVariants.{Leads, Missing, Circular}
use Rattle.rst_transform_references.specs.declared.chains.Step.{Step}
use Rattle.rst_transform_references.specs.declared.links.Change.TheVariants.{Stays}
use Rattle.rst_transform_references.specs.declared.orders.Order.TheVariants.{Anonymous}
use Rattle.rst_transform_references.specs.Aliases.{names_before}
use Rattle.rst_transform_references.specs.Chains.{answers_of, indirect_name, own_step}
use Rattle.rst_transform_references.specs.Failing.{fail_for}
use Rattle.rst_transform_references.specs.Holders.{named_place, places_by_number}
use Rattle.rst_transform_references.specs.Links.{all, each, node_at, places_of, puts}
use Rattle.rst_transform_references.specs.Orders.{pairs_by}
use Rattle.rst_transform_references.specs.Table.{Links}

-- ---- the references to each target

abbrev pub is_reference_node : Node → Bool
is_reference_node (Element Reference a c l) = true
is_reference_node _ = false

-- what references refer to, and what those of an order find by it
abbrev pub with_pairs : List (ℕ × ℕ) → List (Option ℕ) → List (Option ℕ)
with_pairs = all (λ pair referents. slice_set referents pair.0 (Some pair.1))

-- the place of the element that a reference refers to by its name
abbrev pub named_target : (List ℕ → Option NameEntry) → List (Option ℕ) → Node → Option ℕ
named_target known places node = if is_reference_node node then named_place known places node else None

-- the same for all, by their names or by the order
abbrev pub targets_of : (List ℕ → Option NameEntry) → List (Option ℕ) → Links → List (Option ℕ)
targets_of known places links = with_pairs (pairs_by Anonymous links) (map (λ place. named_target known places (node_at place links)) (places_of links))

-- there is a place, and it is this one
abbrev pub is_this_place : ℕ → Option ℕ → Bool
is_this_place place (Some other) = nat_eq other place
is_this_place place None = false

-- the places of the references to a target, by what each refers to
abbrev pub references_to : List (Option ℕ) → ℕ → List ℕ
references_to targets target = filter (λ place. is_this_place target (at_place targets place)) (range_with_len 0 (length targets))

-- lists of places with one more for a target, if there is that
abbrev pub with_reference : Option ℕ → ℕ → List (List ℕ) → List (List ℕ)
with_reference None place lists = lists
with_reference (Some target) place lists = slice_set lists target (get_or lists target [] ++ place ∷ [])

abbrev pub lists_now : {A : Type 0} → List (Vec ℕ A) → List (List ℕ)
lists_now = map (λ list. list.items)

-- ---- what indirect targets come to

-- the first step from each, which finds the aliases before it by their names, too
abbrev pub steps_of : (List ℕ → Option NameEntry) → List (Option ℕ) → Links → List (Option Step)
steps_of known places links = map (λ place. own_step (names_before place places links known) places links (node_at place links)) (places_of links)

-- the texts of the messages on a target whose chain breaks at a name that no element has, and on one whose chain is a circle
abbrev pub missing_text : List ℕ → List ℕ → List ℕ
missing_text name missing = codes "Indirect hyperlink target \"" ++ (name ++ (codes "\" refers to target \"" ++ (missing ++ codes "\", which does not exist.")))

abbrev pub circular_text : List ℕ → List ℕ
circular_text name = codes "Indirect hyperlink target \"" ++ (name ++ codes "\" is circular.")

-- the elements at some places lead somewhere
abbrev pub all_lead : Attr → List ℕ → Links → Links
all_lead lead = all (λ place. puts place (Stays (Some lead) None))

abbrev pub is_anonymous_at : Links → ℕ → Bool
is_anonymous_at links place = is_some (node_value AnonymousKey (node_at place links))

abbrev pub own_name : Node → List ℕ
own_name node = unwrap_or (text_of_attribute OwnName node) []

-- By what an indirect target comes to, it leads there, as do the anonymous references to it, and those by name are left to a later transform; or
-- all references to it fail.
abbrev pub concludes : ℕ → List ℕ → Option Answer → Links → Known → Links × Known
concludes target references None links known = (links, known)
concludes target references (Some (Leads lead)) links known = (all_lead lead (target ∷ filter (is_anonymous_at links) references) links, known)
concludes target references (Some (Missing missing)) links known =
    let node : Node = node_at target links in fail_for references (line_of node) (missing_text (own_name node) missing) links known
concludes target references (Some Circular) links known =
    let node : Node = node_at target links in fail_for references (line_of node) (circular_text (own_name node)) links known

-- what each indirect target comes to happens to it and to the references to it, one target after another
abbrev pub all_conclude : List (Option ℕ) → List (Option Answer) → Links → Known → Links × Known
all_conclude places answers links known =
    let targets : List (Option ℕ) = targets_of known.names places links in
    each (λ place. concludes place (references_to targets place) (at_place answers place)) (range_with_len 0 (length targets)) links known

-- the same if there is one; references find aliases by their names, too
unfoldable pub indirect : Links → Known → Links × Known
indirect links known =
    let places : List (Option ℕ) = places_by_number known.serials links in
    let answers : List (Option Answer) = answers_of (steps_of known.names places links) in
    if list_any (λ place. is_some (indirect_name (node_at place links))) (places_of links)
    then all_conclude places answers links (record known { names = names_before (length links.linked) places links known.names })
    else (links, known)
