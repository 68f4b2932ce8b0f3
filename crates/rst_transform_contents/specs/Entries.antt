-- The entries of tables of contents, and where the titles of their sections lead (Directives, 'Table of Contents').
use Rattle.std.specs.Prelude.{◌≡◌, ℕ, ◌-◌, nat_lt, List, [], ◌∷◌, codes, min, slice_get, slice_set, unwrap_or, Option, Some, None, if◌then◌else◌}
use Rattle.std.specs.Str.{bytes_eq}
use Rattle.rst_tree.specs.declared.attrs.Attr.{Attr}
use Rattle.rst_tree.specs.declared.attrs.Value.TheVariants.{Text as Words, List as Listed}
use Rattle.rst_tree.specs.declared.key.Key.TheVariants.{Backlinks as BacklinksKey, Depth, Ids as IdsKey, Refid, Serial}
use Rattle.rst_tree.specs.declared.node.Node.{Node}
use Rattle.rst_tree.specs.declared.node.Node.TheVariants.{Element}
use Rattle.rst_tree.specs.declared.tag.Tag.TheVariants.{BulletList, ListItem, Paragraph, Reference}
use Rattle.rst_tree.specs.Attributes.{as_number, as_text, attr, value_of}
use Rattle.rst_tree.specs.Forest.{Forest, bare, element, words}
use Rattle.rst_tree.specs.Nodes.{forest_of}
use Rattle.rst_transform_names.specs.Ids.{numbered_id, AreTaken}
use Rattle.rst_transform_work.specs.Lists.{listed_texts}
use Rattle.rst_transform_contents.specs.declared.entries.Backlinks.{Backlinks}
use Rattle.rst_transform_contents.specs.declared.entries.Backlinks.TheVariants.{Entry, Top, Nowhere}
use Rattle.rst_transform_contents.specs.declared.entries.Tables.{Tables}

-- what the tables so far leave: the ids that are taken, and where the title of each section leads, by the section's number, if a table said so
pub record Left : Type 0 where
  pub ids : List (List ℕ)
  pub leads : List (Option (List ℕ))

pub record Holds (tables : Tables) (left : Left) : Type 0 where
  pub ids : AreTaken tables.ids left.ids
  pub leads : tables.leads.items ≡ left.leads

-- what a call returns is what a function makes of what is left before it, and afterwards what the function leaves is left
abbrev pub Gives : {A : Type 0} → (Left → A × Left) → Tables → Tables → A → Type 0
Gives made before after result = (left : Left) → Holds before left → let done = made left in (result ≡ done.0) × Holds after done.1

-- ---- what a table asks for

-- the first id among attributes, if they have one
abbrev pub first_id : List Attr → Option (List ℕ)
first_id a = slice_get (listed_texts IdsKey a) 0

-- the text of an option; where it isn't there, the empty text
abbrev pub backlinks_named : List ℕ → Option (List ℕ) → Backlinks
backlinks_named name top = if bytes_eq name (codes "top") then Top top else if bytes_eq name (codes "none") then Nowhere else Entry

-- where the titles lead, by the attributes of the topic and of the place of the entries
abbrev pub backlinks_of : List Attr → List Attr → Backlinks
backlinks_of topic place = backlinks_named (unwrap_or (as_text (value_of BacklinksKey place)) []) (first_id topic)

-- where the title of a section leads by the id of its entry, if a table says so
abbrev pub back_of : Backlinks → List ℕ → Option (List ℕ)
back_of Entry id = Some id
back_of (Top top) id = top
back_of Nowhere id = None

-- there are no more styles of titles, so sections nest no deeper
abbrev pub most_levels : ℕ
most_levels = 64

-- how many levels a table shows
abbrev pub levels_of : List Attr → ℕ
levels_of place = min (unwrap_or (as_number (value_of Depth place)) most_levels) most_levels

-- ---- entries

-- the attributes of the reference with an id to a section with these
abbrev pub refid_attrs : Option (List ℕ) → List Attr
refid_attrs None = []
refid_attrs (Some id) = attr Refid (Words id) ∷ []

abbrev pub entry_attrs : List ℕ → List Attr → List Attr
entry_attrs id section = attr IdsKey (Listed (id ∷ [])) ∷ refid_attrs (first_id section)

-- where titles lead once that of the section with a number leads there, if both are there
abbrev pub led : Option (List ℕ) → Option ℕ → List (Option (List ℕ)) → List (Option (List ℕ))
led (Some back) (Some serial) leads = slice_set leads serial (Some back)
led _ _ leads = leads

-- the entry of a section: a reference to it, with the next free id
abbrev pub entry_node : List ℕ → List Attr → Forest → Node
entry_node id section title = Element Paragraph [] (element Reference (entry_attrs id section) title 0 bare) 0

abbrev pub entry : Backlinks → List Attr → Forest → Left → Node × Left
entry backlinks section title left =
    let id : List ℕ = numbered_id left.ids (codes "toc-entry") in (
      entry_node id section title,
      record { ids = id ∷ left.ids; leads = led (back_of backlinks id) (as_number (value_of Serial section)) left.leads },
    )

-- a list of entries, if there are any
abbrev pub sublist : List Node → List Node
sublist [] = []
sublist (n ∷ ns) = Element BulletList [] (forest_of (n ∷ ns)) 0 ∷ []

-- the item of an entry, and of those below it
abbrev pub item : Node → List Node → Node
item own below = Element ListItem [] (forest_of (own ∷ sublist below)) 0

-- the attributes of a section in an outline, the nodes of its title, and the sections in it
abbrev pub outline_parts : Node → Option (List Attr × Forest × Forest)
outline_parts (Element t a (element u b title m inner) l) = Some (a, title, inner)
outline_parts _ = None

-- the entries of the sections in an outline, to a number of levels; one level is always there
abbrev pub entries : Backlinks → ℕ → Forest → Left → List Node × Left
entries backlinks k bare left = ([], left)
entries backlinks k (words t r) left = entries backlinks k r left
entries backlinks k (element t a bare l r) left = entries backlinks k r left
entries backlinks k (element t a (words u v) l r) left = entries backlinks k r left
entries backlinks k (element t a (element u b title m inner) l r) left =
    let own = entry backlinks a title left in
    let below = if nat_lt 1 k then entries backlinks (k - 1) inner own.1 else ([], own.1) in
    let more = entries backlinks k r below.1 in (item own.0 below.0 ∷ more.0, more.1)
