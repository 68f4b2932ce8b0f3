use Rattle.std.proofs.Common.{◌≡◌}
use Rattle.std.specs.Prelude.{encode_utf8, string_bytes}
use Rattle.std.specs.List.{repeat}
use Rattle.rst_transform_references.proofs.footnote_labels.symbol_label.Given as goal

abbrev pub invariant-loop : goal.invariant-loop
invariant-loop l = string_bytes l.label ≡ repeat l.counter (encode_utf8 l.symbol)
