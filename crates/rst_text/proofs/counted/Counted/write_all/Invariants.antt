use Rattle.std.proofs.Common.{◌≡◌, ◌≤◌, ◌+◌, ◌-◌, ◌∷◌, [], ℕ, length, take, drop}
use Rattle.rst_text.specs.Counted.{inner_of, has_failed, between, Gains, Written}
use Rattle.rst_text.proofs.counted.Counted.write_all.Given as goal

-- the writer has taken the first `done` bytes; calls that write the rest make the calls so far whole
abbrev pub invariant-loop-done : goal.invariant-loop-done
invariant-loop-done g l = record {
  within : l.done ≤ length l.bytes;
  gained : Gains (between g.W.Write.contents l.fn.self l.self) (take l.done l.bytes);
  same : has_failed l.self ≡ has_failed l.fn.self;
  calls : (w : _) (taken : ℕ) → Written g.W.WriteCall.call_takes (inner_of l.self) (drop l.done l.bytes ∷ []) w taken
      → Written g.W.WriteCall.call_takes (inner_of l.fn.self) (l.bytes ∷ []) w (l.done + taken);
}

abbrev pub decreases-loop-done : goal.decreases-loop-done
decreases-loop-done g l = length l.bytes - l.done
