use Rattle.std.proofs.Common.{◌≡◌}
use Rattle.std.specs.Vec.Iter.{into_iter_items}
use Rattle.rst_block_nodes.specs.OpenSections.{document_with_items}
use Rattle.rst_block_nodes.specs.Sections.{document_of, items_of}
use Rattle.rst_block_nodes.proofs.sectioning.document.Given as goal

abbrev pub invariant-loop-heading : goal.invariant-loop-heading
invariant-loop-heading l =
    document_with_items l.sections (items_of (into_iter_items l.heading-iterator) l.fn.nodes) ≡ document_of (items_of l.fn.headings.items l.fn.nodes)
