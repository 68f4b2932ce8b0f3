-- The document with its tables of contents (Directives, 'Table of Contents').
use Rattle.std.specs.Prelude.{◌≡◌, ℕ, ◌-◌, Bool, true, false, ◌&&◌, ◌||◌, not, is_some, List, [], ◌∷◌, ◌++◌, length, replicate, slice_get, take, Option, Some, None, if◌then◌else◌, option_and_then}
use Rattle.rst_tree.specs.declared.attrs.Attr.{Attr}
use Rattle.rst_tree.specs.declared.attrs.Value.TheVariants.{Text as Words}
use Rattle.rst_tree.specs.declared.key.Key.TheVariants.{Local, Refid, Serial}
use Rattle.rst_tree.specs.declared.node.Node.{Node}
use Rattle.rst_tree.specs.declared.node.Node.TheVariants.{Element, Text}
use Rattle.rst_tree.specs.declared.rewriting.Rewrite.{Rewrite}
use Rattle.rst_tree.specs.declared.rewriting.Rewrite.TheVariants.{Keep}
use Rattle.rst_tree.specs.declared.tag.Tag.{Tag}
use Rattle.rst_tree.specs.declared.tag.Tag.TheVariants.{Contents, Title, Topic}
use Rattle.rst_tree.specs.Attributes.{as_number, value_of, with_attr}
use Rattle.rst_tree.specs.Forest.{Forest, bare, element, words}
use Rattle.rst_tree.specs.Nodes.{forest_of, nodes_of}
use Rattle.rst_tree.specs.Rewritten.{kept, rewritten}
use Rattle.rst_transform_names.specs.NameMessages.{is_section}
use Rattle.rst_transform_work.specs.declared.document.Document.{Document}
use Rattle.rst_transform_work.specs.Known.{Known}
use Rattle.rst_transform_work.specs.Lists.{at_place}
use Rattle.rst_transform_contents.specs.declared.entries.Tables.{Tables}
use Rattle.rst_transform_contents.specs.Entries.{backlinks_of, entries, levels_of, most_levels, sublist, Holds, Left}
use Rattle.rst_transform_contents.specs.Outline.{outline}
use Rattle.rst_transform_contents.specs.Title.{holds_reference}

-- ---- tables

abbrev pub is_topic : Tag → Bool
is_topic Topic = true
is_topic _ = false

-- the attributes of a place of entries, if a node is one
abbrev pub place_in : Option Node → Option (List Attr)
place_in (Some (Element Contents a c l)) = Some a
place_in _ = None

-- the last node, if there is one
abbrev pub last_node : Forest → Option Node
last_node f = slice_get (nodes_of f) (length (nodes_of f) - 1)

-- the attributes of the place of the entries, if the nodes of a topic end with it
abbrev pub place_of : Forest → Option (List Attr)
place_of f = place_in (last_node f)

-- a table is among the nodes of the document or a section, or in its sections
abbrev pub holds_table : Forest → Bool
holds_table bare = false
holds_table (words t r) = holds_table r
holds_table (element t a c l r) = (if is_section t then holds_table c else is_topic t && is_some (place_of c)) || holds_table r

-- the sections in the first one of an outline, if there is one; and all but that one
abbrev pub first_inside : Forest → Option Forest
first_inside (element t a (element u b title m inner) l r) = Some inner
first_inside _ = None

abbrev pub others : Forest → Forest
others bare = bare
others (words t r) = r
others (element t a c l r) = r

-- the nodes of a topic with these entries in their place, which comes last
abbrev pub with_list : Forest → List Node → Forest
with_list f made = forest_of (take (length (nodes_of f) - 1) (nodes_of f) ++ sublist made)

-- a topic with these entries; without any it vanishes
abbrev pub tabled : List Attr → Forest → ℕ → List Node → List Node
tabled a c l [] = []
tabled a c l (n ∷ ns) = Element Topic a (with_list c (n ∷ ns)) l ∷ []

-- What becomes of a topic, by the place of its entries, if it has one: a table of the sections in the outline of the whole document or, where it is
-- local, of what is around it.
abbrev pub topic_by : Option (List Attr) → List Attr → Forest → ℕ → Forest → Forest → Left → List Node × Left
topic_by None a c l root here left = (Element Topic a c l ∷ [], left)
topic_by (Some place) a c l root here left =
    let made = entries (backlinks_of a place) (levels_of place) (if is_some (value_of Local place) then here else root) left in (tabled a c l made.0, made.1)

abbrev pub topic : List Attr → Forest → ℕ → Forest → Forest → Left → List Node × Left
topic a c l root here left = topic_by (place_of c) a c l root here left

-- nodes after others
abbrev pub after_nodes : List Node → List Node × Left → List Node × Left
after_nodes before made = (before ++ made.0, made.1)

-- what becomes of the nodes of a section, if it is in the outline
abbrev pub inside_section : Option Forest → (Forest → List Node × Left) → Forest → Left → Forest × Left
inside_section None made c left = (c, left)
inside_section (Some inner) made c left = (forest_of (made inner).0, (made inner).1)

-- The nodes of the document or of a section with their tables, by the outlines of the whole document, of all these nodes and of those that are left.
abbrev pub placed : Forest → Forest → Forest → Forest → Left → List Node × Left
placed root here sections bare left = ([], left)
placed root here sections (words t r) left = after_nodes (Text t ∷ []) (placed root here sections r left)
placed root here sections (element t a c l r) left =
    let inside = inside_section (first_inside sections) (λ inner. placed root inner inner c left) c left in
    let own = topic a c l root here left in
    if is_section t then after_nodes (Element t a inside.0 l ∷ []) (placed root here (others sections) r inside.1)
    else if is_topic t then after_nodes own.0 (placed root here sections r own.1)
    else after_nodes (Element t a c l ∷ []) (placed root here sections r left)

-- what becomes of something is put after nodes
abbrev pub Becomes : (Left → List Node × Left) → Tables → Tables → List Node → List Node → Type 0
Becomes made before after nodes more = (left : Left) → Holds before left → (more ≡ nodes ++ (made left).0) × Holds after (made left).1

-- ---- titles

-- where the title of each section leads, by the section's number, if a table says so; and where that of the section just met does
pub record Leading : Type 0 where
  pub leads : List (Option (List ℕ))
  pub next : Option (List ℕ)

-- where the title of a section with these attributes leads, if a table says so
abbrev pub lead_of : List (Option (List ℕ)) → List Attr → Option (List ℕ)
lead_of leads a = option_and_then (at_place leads) (as_number (value_of Serial a))

-- where the next title leads: that of a section comes first in it
abbrev pub after_element : Leading → Node → Leading
after_element titles (Element t a c l) = record titles { next = if is_section t then lead_of titles.leads a else None }
after_element titles (Text t) = record titles { next = None }

abbrev pub is_title : Tag → Bool
is_title Title = true
is_title _ = false

abbrev pub with_refid : Option (List ℕ) → List Attr → List Attr
with_refid None a = a
with_refid (Some refid) a = with_attr Refid (Words refid) a

-- a title that leads there, unless a reference is in it
abbrev pub with_lead : Leading → Node → Rewrite
with_lead titles (Element t a c l) = Keep t (if is_title t && not (holds_reference c) then with_refid titles.next a else a) l
with_lead titles (Text t) = kept (Text t)

-- ---- the document

-- nodes whose titles lead where tables say
abbrev pub led_titles : List (Option (List ℕ)) → Forest → Forest
led_titles leads f = (rewritten after_element with_lead (record { leads = leads; next = None }) f).0

abbrev pub no_leads : Known → Left
no_leads known = record { ids = known.ids; leads = replicate known.serials None }

-- what is made of the nodes of a document with tables
abbrev pub with_tables : Forest → Known → List Node × Left
with_tables f known = let sections = forest_of (outline most_levels f) in placed sections sections sections f (no_leads known)

-- the document with its tables of contents, and what is known then
abbrev pub with_contents : Document → Known → Document × Known
with_contents document known =
    let made = with_tables document.children known in
    if holds_table document.children then (record document { children = led_titles made.1.leads (forest_of made.0) }, record known { ids = made.1.ids })
    else (document, known)
