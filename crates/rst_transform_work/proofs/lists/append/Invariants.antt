use Rattle.std.proofs.Common.{◌≡◌, ◌++◌, take}
use Rattle.rst_transform_work.proofs.lists.append.Given as goal

abbrev pub invariant-loop-text : goal.invariant-loop-text
invariant-loop-text l = l.texts ≡ l.initial.texts ++ take l.text-index l.more
