use Rattle.std.proofs.Common.{◌≡◌, ◌++◌, replicate}
use Rattle.rst_transform_names.specs.declared.queue.Queued.TheVariants.{Present}
use Rattle.rst_transform_names.proofs.queue.push_present.Given as goal

abbrev pub invariant-loop-done : goal.invariant-loop-done
invariant-loop-done l = l.queue.items ≡ l.fn.queue.items ++ replicate l._done Present
