use Rattle.std.proofs.Common.{◌≡◌, ℕ, List, Bor}
use Rattle.std.specs.Prelude.{map}
use Rattle.std.specs.List.{flat_map}
use Rattle.std.specs.Str.{trim}
use Rattle.rst_transform_docinfo.specs.Authors.{author_named}
use Rattle.rst_transform_docinfo.proofs.authors.parted.Given as goal

abbrev pub invariant-loop-piece : goal.invariant-loop-piece
invariant-loop-piece l = l.nodes.items ≡ flat_map (λ piece. author_named l.line (trim piece)) (map (λ (y : Bor (List ℕ)). y.now) l.yielded)
