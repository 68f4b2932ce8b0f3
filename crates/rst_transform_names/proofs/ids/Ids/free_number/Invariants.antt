use Rattle.std.proofs.Common.{◌≡◌, ℕ, ◌<◌, ◌≤◌, true}
use Rattle.std.specs.BTreeSet.{contains_text}
use Rattle.rst_transform_names.specs.Ids.{id_with_number}
use Rattle.rst_transform_names.proofs.ids.Ids.free_number.Given as goal

abbrev pub invariant-loop-number : goal.invariant-loop-number
invariant-loop-number l =
    (l.first ≤ l.number) × (l.number ≤ l.after_all) × ((m : ℕ) → l.first ≤ m → m < l.number → contains_text l.self.hindering (id_with_number l.base m) ≡ true)
