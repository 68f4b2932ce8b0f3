-- Sections that are open while the titles of a document are gone through. No rule of markup: the sections that are made so are those of the
-- definition.
use Rattle.std.specs.Prelude.{◌≡◌, ℕ, ◌+◌, ◌≤◌, List, [], ◌∷◌, ◌++◌, length, map}
use Rattle.rst_tree.specs.declared.node.Node.{Node}
use Rattle.rst_block_nodes.specs.declared.sectioning.OpenSection.{OpenSection}
use Rattle.rst_block_nodes.specs.declared.sectioning.Sections.{Sections}
use Rattle.rst_block_nodes.specs.Sections.{Item, Member, inside_section, after_section, filled, members, judged}

-- an element, and what is in it so far
pub record Open : Type 0 where
  pub element : Node
  pub nodes : List Node

abbrev pub open_of : OpenSection → Open
open_of o = record { element = o.element; nodes = o.nodes }

-- the section of a level, where a section inside it was closed and these members follow
abbrev pub put_inside : ℕ → Open → Node × List Member → Node × List Member
put_inside level o closed = (filled o.element (o.nodes ++ closed.0 ∷ inside_section level closed.1), after_section level closed.1)

-- The outermost of the sections that are open, the innermost of which is `current`, once all are closed and these members follow; and what is
-- left of them. The outermost has this level.
unfoldable pub close : ℕ → List Open → Open → List Member → Node × List Member
close level [] current ms = (filled current.element (current.nodes ++ inside_section level ms), after_section level ms)
close level (o ∷ os) current ms = put_inside level o (close (level + 1) os current ms)

-- the sections closed where these members follow
abbrev pub closed_with : Sections → List Member → Node × List Member
closed_with s ms = close 0 (map open_of s.outer.items) (open_of s.current) ms

-- the document where these items follow
abbrev pub document_with_items : Sections → List Item → Node
document_with_items s items = (closed_with s (members (judged s.styles.items (length s.outer.items) items))).0

-- these members are in no section of a level or a deeper one
abbrev pub StopsAt : ℕ → List Member → Type 0
StopsAt level ms = (deeper : ℕ) → level ≤ deeper → (inside_section deeper ms ≡ []) × (after_section deeper ms ≡ ms)
