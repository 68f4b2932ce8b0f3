-- The transforms of links, one after another (Markup Specification, 'Hyperlink References').
use Rattle.std.specs.Prelude.{List, [], ◌∷◌}
use Rattle.rst_transform_work.specs.declared.document.Document.{Document}
use Rattle.rst_transform_work.specs.Known.{Known}
use Rattle.rst_transform_references.specs.declared.links.Change.{Change}
use Rattle.rst_transform_references.specs.Anonymous.{anonymous}
use Rattle.rst_transform_references.specs.Changes.{changed_document}
use Rattle.rst_transform_references.specs.Footnotes.{footnotes}
use Rattle.rst_transform_references.specs.Indirect.{indirect}
use Rattle.rst_transform_references.specs.Links.{each, links_of}
use Rattle.rst_transform_references.specs.Resolving.{references}
use Rattle.rst_transform_references.specs.Table.{Links}

-- what becomes of the links of a document after all transforms of links, in their order
unfoldable pub resolved_links : Document → Known → List Change × Known
resolved_links document known =
    let done : Links × Known = each (λ transform. transform) (anonymous ∷ indirect ∷ footnotes ∷ references ∷ []) (links_of document) known in (done.0.changes, done.1)

-- the document then
abbrev pub with_links : Document → Known → Document × Known
with_links document known = let done : List Change × Known = resolved_links document known in (changed_document done.0 document, done.1)
