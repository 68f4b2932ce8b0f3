use Rattle.std.proofs.Common.{◌≡◌, ℕ, length}
use Rattle.rst_transform_messages.specs.Messages.{is_number_marked}
use Rattle.rst_transform_messages.proofs.messages.mark.Given as goal

abbrev pub invariant-loop : goal.invariant-loop
invariant-loop l = record {
  all : length l.marks.items ≡ l.counter;
  same : (n : ℕ) → is_number_marked l.marks.items n ≡ is_number_marked l.fn.marks.items n;
}
