use Rattle.std.proofs.Common.{◌≡◌, drop, map}
use Rattle.std.specs.Prelude.{find}
use Rattle.rst_inline_scan.specs.Uri.{has_any_case}
use Rattle.rst_inline_scan.specs.Registered.{registered}
use Rattle.rst_inline_scan.proofs.registered.registered_end.Given as goal

abbrev pub invariant-loop-scheme : goal.invariant-loop-scheme
invariant-loop-scheme l = find (has_any_case l.text l.place) (map (λ scheme. scheme.now) (drop l.scheme-index l.scheme-items)) ≡ find (has_any_case l.text l.place) registered
