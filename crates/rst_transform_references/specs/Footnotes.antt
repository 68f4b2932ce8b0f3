-- Footnotes, and the references that find them by their order (Markup Specification, 'Footnotes').
use Rattle.std.specs.Prelude.{ℕ, ◌+◌, Bool, true, false, List, [], ◌∷◌, ◌++◌, codes, decimal, drop, length, option_map, if◌then◌else◌, slice_get, Option, Some, None}
use Rattle.std.specs.List.{list_any}
use Rattle.std.specs.Option.{option_or}
use Rattle.std.specs.Str.{bytes_eq}
use Rattle.rst_transform_names.specs.declared.names.NameEntry.{NameEntry}
use Rattle.rst_transform_names.specs.declared.names.Holder.TheVariants.{Element as ElementHolder}
use Rattle.rst_transform_names.specs.declared.names.Strength.TheVariants.{Explicit}
use Rattle.rst_tree.specs.declared.key.Key.TheVariants.{Ids, Names, Serial}
use Rattle.rst_tree.specs.declared.node.Node.{Node}
use Rattle.rst_tree.specs.declared.node.Node.TheVariants.{Element, Text}
use Rattle.rst_tree.specs.declared.tag.Tag.TheVariants.{Citation, Footnote, FootnoteReference}
use Rattle.rst_tree.specs.Nodes.{nodes_of}
use Rattle.rst_tree.specs.Tree.{text_in}
use Rattle.rst_transform_references.specs.declared.links.Change.{Change}
use Rattle.rst_transform_references.specs.declared.links.Change.TheVariants.{Stays, Lists}
use Rattle.rst_transform_references.specs.declared.orders.Order.{Order}
use Rattle.rst_transform_references.specs.declared.orders.Order.TheVariants.{Numbers, Symbols}
use Rattle.rst_transform_references.specs.Failing.{fail_for}
use Rattle.rst_transform_references.specs.FootnoteLabels.{labels}
use Rattle.rst_transform_references.specs.Leads.{lead_to_id}
use Rattle.rst_transform_references.specs.Links.{all, change_at, each, node_at, places_of, puts}
use Rattle.rst_transform_references.specs.Orders.{is_order, pairs_by, references_by, target_order, targets_by}
use Rattle.rst_transform_references.specs.Table.{Links}
use Rattle.rst_transform_work.specs.Known.{Known}
use Rattle.rst_transform_work.specs.Reading.{line_of, list_of_attribute, number_of_attribute}

abbrev pub is_noted : Node → Bool
is_noted (Element Footnote a c l) = true
is_noted (Element Citation a c l) = true
is_noted _ = false

-- ---- the labels

-- what is known of a name that an element holds, by its serial number and its id; nothing where it has no such number or id
abbrev pub entry_by : Option ℕ → Option (List ℕ) → Option NameEntry
entry_by (Some serial) (Some id) = Some (record { holder = ElementHolder serial; strength = Explicit; id = id; uri = None })
entry_by _ _ = None

-- what is known of names: what was known before, or else that a footnote has this number as its name
abbrev pub with_number : List ℕ → Node → (List ℕ → Option NameEntry) → List ℕ → Option NameEntry
with_number number node known name = option_or (known name) (if bytes_eq name number then entry_by (number_of_attribute Serial node) (slice_get (list_of_attribute Ids node) 0) else None)

-- a footnote shows a label, which is the next of the linked elements; one that was written with `#` alone has its number as a name
abbrev pub labelled : ℕ × List ℕ → Links → Known → Links × Known
labelled pair links known =
    let node : Node = node_at pair.0 links in
    let showing : Links = puts (pair.0 + 1) (Stays None (Some pair.1)) links in
    if is_order Numbers (target_order node)
    then (puts pair.0 (Lists (list_of_attribute Names node ++ pair.1 ∷ []) []) showing, record known { names = with_number pair.1 node known.names })
    else (showing, known)

-- ---- the references

-- the label that a footnote or a citation was written with: the text of its first node
abbrev pub printed_label : Node → Option (List ℕ)
printed_label (Element t a c l) = option_map text_in (slice_get (nodes_of c) 0)
printed_label (Text t) = None

abbrev pub new_text : Change → Option (List ℕ)
new_text (Stays lead text) = text
new_text _ = None

-- the label of the footnote or citation at a place: what it got, or else that
abbrev pub label_at : ℕ → Links → Option (List ℕ)
label_at place links = option_or (new_text (change_at (place + 1) links)) (printed_label (node_at place links))

-- a reference leads to a footnote, and shows its label
abbrev pub leads_to_footnote : ℕ × ℕ → Links → Links
leads_to_footnote pair links = puts pair.0 (Stays (lead_to_id (node_at pair.1 links)) (label_at pair.1 links)) links

abbrev pub order_name : Order → List ℕ
order_name Symbols = codes "symbol"
order_name _ = codes "autonumbered"

-- the text of the message on references that are left over, by how many footnotes of the order there are
abbrev pub too_many : Order → ℕ → List ℕ
too_many order footnotes = codes "Too many " ++ (order_name order ++ (codes " footnote references: only " ++ (decimal footnotes ++ codes " corresponding footnotes available.")))

-- the references that are left over, if there are some, fail
abbrev pub left_over : Order → ℕ → List ℕ → Links → Known → Links × Known
left_over order footnotes [] links known = (links, known)
left_over order footnotes (first ∷ more) links known = fail_for (first ∷ more) (line_of (node_at first links)) (too_many order footnotes) links known

-- The n-th reference with `#` and no name takes the n-th footnote that was written with `#` alone, and the n-th with `*` the n-th symbol footnote.
-- References without a footnote are left over.
unfoldable pub refer_by : Order → Links → Known → Links × Known
refer_by order links known =
    let footnotes : List ℕ = targets_by order links in
    left_over order (length footnotes) (drop (length footnotes) (references_by order links)) (all leads_to_footnote (pairs_by order links) links) known

abbrev pub is_of_footnotes : Node → Bool
is_of_footnotes (Element Footnote a c l) = true
is_of_footnotes (Element FootnoteReference a c l) = true
is_of_footnotes _ = false

-- footnotes get their labels, and then references without names find them: first those to numbered ones, then those to symbol footnotes
unfoldable pub footnotes : Links → Known → Links × Known
footnotes links known =
    let showing : Links × Known = each labelled (labels links) links known in
    if list_any (λ place. is_of_footnotes (node_at place links)) (places_of links) then each refer_by (Numbers ∷ Symbols ∷ []) showing.0 showing.1
    else (links, known)
