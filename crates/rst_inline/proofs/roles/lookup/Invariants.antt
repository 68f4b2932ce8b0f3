use Rattle.std.proofs.Common.{◌≡◌, drop}
use Rattle.std.specs.Map.{lookup}
use Rattle.rst_inline.specs.Roles as spec
use Rattle.rst_inline.proofs.roles.lookup.Given as goal

abbrev pub invariant-loop-name : goal.invariant-loop-name
invariant-loop-name l = let passes = spec.is_name l.wider l.text in lookup passes (spec.rows_of (drop l.name-index l.table)) ≡ lookup passes (spec.rows_of l.table)
