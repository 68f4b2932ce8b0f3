-- Elements that fail become problematics of messages (Document Tree, 'problematic').
use Rattle.std.specs.Prelude.{ℕ, ◌+◌, true, List, [], length, slice_set}
use Rattle.std.specs.List.{range_with_len}
use Rattle.rst_tree.specs.declared.attrs.Attr.{Attr}
use Rattle.rst_tree.specs.declared.node.Node.{Node}
use Rattle.rst_tree.specs.declared.node.Node.TheVariants.{Element, Text}
use Rattle.rst_tree.specs.declared.note.Level.TheVariants.{Error}
use Rattle.rst_transform_work.specs.Known.{Known}
use Rattle.rst_transform_work.specs.Problematics.{problematic}
use Rattle.rst_transform_work.specs.Reports.{reported}
use Rattle.rst_transform_references.specs.declared.links.Change.TheVariants.{Failed}
use Rattle.rst_transform_references.specs.Links.{all, each, linked_among, node_at}
use Rattle.rst_transform_references.specs.Table.{Links}

-- the element at a place and a number of those after it are gone
abbrev pub without : ℕ → ℕ → List Node → List Node
without place more = all (λ offset linked. slice_set linked (place + offset) (Text [])) (range_with_len 0 (more + 1))

-- an element, which is at a place, becomes a problematic of a message if it is still there; those in it are gone with it
abbrev pub fails_as : ℕ → ℕ → Node → Links → Known → Links × Known
fails_as message place (Text t) links known = (links, known)
fails_as message place (Element t a c l) links known =
    let made : List Attr × Known = problematic message known in
    let inside : ℕ = length (linked_among c) in
    (record { linked = without place inside links.linked; changes = slice_set links.changes place (Failed made.0 inside) }, made.1)

abbrev pub fails : ℕ → ℕ → Links → Known → Links × Known
fails message place links = fails_as message place (node_at place links) links

-- the elements at some places fail for one ERROR, which comes after the other messages
unfoldable pub fail_for : List ℕ → ℕ → List ℕ → Links → Known → Links × Known
fail_for places line text links known = each (fails (length known.reports)) places links (reported Error line text true known)
