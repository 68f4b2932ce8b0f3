use Rattle.std.proofs.Common.{◌≡◌, ◌++◌, drop}
use Rattle.std.specs.Prelude.{option_map}
use Rattle.rst_transform_docinfo.specs.Authors.{all_paragraphs}
use Rattle.rst_transform_docinfo.proofs.authors.all_paragraphs.Given as goal

abbrev pub invariant-loop-item : goal.invariant-loop-item
invariant-loop-item l =
    option_map (λ more. l.nodes.items ++ more) (all_paragraphs l.line (drop l.item-index l.item-items)) ≡ all_paragraphs l.line l.item-items
