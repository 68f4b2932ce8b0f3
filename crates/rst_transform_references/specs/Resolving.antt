-- References by name (Markup Specification, 'Hyperlink References', 'Footnotes', 'Citations'): each leads where its name leads, or else fails.
use Rattle.std.specs.Prelude.{ℕ, ◌&&◌, ◌||◌, Bool, true, false, List, [], ◌∷◌, ◌++◌, codes, map, if◌then◌else◌, is_none, is_some, option_and_then, option_map, slice_get, unwrap_or, Option, Some, None}
use Rattle.std.specs.List.{list_any}
use Rattle.rst_transform_names.specs.declared.names.NameEntry.{NameEntry}
use Rattle.rst_tree.specs.declared.key.Key.TheVariants.{Auto, Ids, Refname}
use Rattle.rst_tree.specs.declared.node.Node.{Node}
use Rattle.rst_tree.specs.declared.node.Node.TheVariants.{Element}
use Rattle.rst_tree.specs.declared.tag.Tag.TheVariants.{CitationReference, FootnoteReference}
use Rattle.rst_tree.specs.Paths.{node_value}
use Rattle.rst_transform_references.specs.declared.links.Change.{Change}
use Rattle.rst_transform_references.specs.declared.links.Change.TheVariants.{Lists, Stays}
use Rattle.rst_transform_references.specs.declared.orders.Order.TheVariants.{Numbers, Symbols}
use Rattle.rst_transform_references.specs.Failing.{fail_for}
use Rattle.rst_transform_references.specs.Footnotes.{is_noted, label_at}
use Rattle.rst_transform_references.specs.Holders.{holder_place, is_nobody, named_place, places_by_number}
use Rattle.rst_transform_references.specs.Indirect.{is_reference_node, with_pairs}
use Rattle.rst_transform_references.specs.Leads.{name_lead}
use Rattle.rst_transform_references.specs.Links.{all, change_at, each, node_at, places_of, puts}
use Rattle.rst_transform_references.specs.Orders.{pairs_by}
use Rattle.rst_transform_references.specs.Table.{Links}
use Rattle.rst_transform_work.specs.Known.{Known}
use Rattle.rst_transform_work.specs.Lists.{at_place}
use Rattle.rst_transform_work.specs.Reading.{line_of, list_of_attribute, text_of_attribute}

-- ---- references to footnotes and citations

abbrev pub refers_to_note : Node → Bool
refers_to_note (Element FootnoteReference a c l) = true
refers_to_note (Element CitationReference a c l) = true
refers_to_note _ = false

-- a place, if there is one and a footnote or a citation is there
abbrev pub note_at : Option ℕ → Links → Option ℕ
note_at place links = option_and_then (λ at. if is_noted (node_at at links) then Some at else None) place

-- the place of the footnote or citation that an element refers to by its name
abbrev pub named_note : (List ℕ → Option NameEntry) → List (Option ℕ) → Links → Node → Option ℕ
named_note known places links node = if refers_to_note node then note_at (named_place known places node) links else None

-- the same for all, by their names or by the orders
abbrev pub notes_of : (List ℕ → Option NameEntry) → List (Option ℕ) → Links → List (Option ℕ)
notes_of known places links =
    with_pairs (pairs_by Symbols links) (with_pairs (pairs_by Numbers links) (map (λ place. named_note known places links (node_at place links)) (places_of links)))

-- what happens to a footnote or a citation: it lists one more reference to it
abbrev pub with_backref : List ℕ → Change → Change
with_backref id (Lists names backrefs) = Lists names (backrefs ++ id ∷ [])
with_backref id _ = Lists [] (id ∷ [])

abbrev pub refers_back : Option ℕ → Option (List ℕ) → Links → Links
refers_back (Some note) (Some id) links = puts note (with_backref id (change_at note links)) links
refers_back _ _ links = links

-- ---- what becomes of references

-- a reference to a footnote that gets the footnote's label as its text
abbrev pub label_for : Node → Option ℕ → Links → Option (List ℕ)
label_for node holder links =
    if refers_to_note node && is_some (node_value Auto node) then option_and_then (λ place. label_at place links) holder else None

-- the text of the ERROR on a name that means nothing
abbrev pub unknown : List ℕ → List ℕ
unknown name = codes "Unknown target name: \"" ++ (name ++ codes "\".")

-- the text of the ERROR on a name that elements with equal names lost
abbrev pub duplicate : List ℕ → List ℕ
duplicate name = codes "Duplicate target name, cannot be used as a unique reference: \"" ++ (name ++ codes "\".")

-- the reference at a place fails for an ERROR of its own
abbrev pub fails_alone : ℕ → List ℕ → Links → Known → Links × Known
fails_alone place text links = fail_for (place ∷ []) (line_of (node_at place links)) text links

-- What becomes of the reference at a place, by its name and what is known of it: it leads where the name leads, but one to a footnote or a citation
-- may lead nowhere else. It fails, too, if elements with equal names lost the name.
abbrev pub resolves_to : List (Option ℕ) → ℕ → List ℕ → Option NameEntry → Links → Known → Links × Known
resolves_to places place name None links known = fails_alone place (unknown name) links known
resolves_to places place name (Some entry) links known =
    let node : Node = node_at place links in
    let holder : Option ℕ = holder_place places entry.holder in
    if is_nobody entry.holder then fails_alone place (duplicate name) links known
    else if refers_to_note node && is_none (note_at holder links) then fails_alone place (unknown name) links known
    else (puts place (Stays (Some (name_lead holder entry links)) (label_for node holder links)) links, known)

-- the name of a reference by name
abbrev pub name_at : ℕ → Links → Option (List ℕ)
name_at place links =
    let node : Node = node_at place links in
    if is_reference_node node || refers_to_note node then text_of_attribute Refname node else None

-- the same of any element: one that is no reference, or has no name, stays as it is
abbrev pub resolves : List (Option ℕ) → ℕ → Links → Known → Links × Known
resolves places place links known =
    unwrap_or (option_map (λ name. resolves_to places place name (known.names name) links known) (name_at place links)) (links, known)

-- each footnote and citation lists the references to it, in their order, if there are some
abbrev pub with_backrefs : (List ℕ → Option NameEntry) → List (Option ℕ) → Links → Links
with_backrefs known places links =
    let notes : List (Option ℕ) = notes_of known places links in
    if list_any (λ place. refers_to_note (node_at place links)) (places_of links)
    then all (λ place state. refers_back (at_place notes place) (slice_get (list_of_attribute Ids (node_at place state)) 0) state) (places_of links) links
    else links

-- then each reference by name leads where its name leads, or fails
unfoldable pub references : Links → Known → Links × Known
references links known =
    let places : List (Option ℕ) = places_by_number known.serials links in
    let listed : Links = with_backrefs known.names places links in
    each (resolves places) (places_of listed) listed known
