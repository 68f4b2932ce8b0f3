use Rattle.std.proofs.Common.{◌≡◌, ◌++◌, map, take}
use Rattle.std.specs.Prelude.{decimal}
use Rattle.rst_transform_references.specs.FootnoteLabels.{symbol_label}
use Rattle.rst_transform_references.proofs.footnote_labels.labels.Given as goal

abbrev pub invariant-loop-number : goal.invariant-loop-number
invariant-loop-number l = l.labels.items ≡ map (λ pair. (pair.0, decimal pair.1)) (take l.number-index l.number-items)

abbrev pub invariant-loop-symbol : goal.invariant-loop-symbol
invariant-loop-symbol l = l.labels.items ≡ map (λ pair. (pair.0, decimal pair.1)) l.numbers.items ++ map (λ pair. (pair.0, symbol_label pair.1)) (take l.symbol-index l.symbol-items)
