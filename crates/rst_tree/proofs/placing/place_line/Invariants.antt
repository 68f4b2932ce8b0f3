use Rattle.std.proofs.Common.{◌≡◌, ◌+◌, ◌-◌, ◌≤◌, ◌++◌, length, take}
use Rattle.rst_text.specs.Runs.{PassBetween}
use Rattle.rst_tree.specs.Print.{is_of_line}
use Rattle.rst_tree.proofs.placing.place_line.Given as goal

abbrev pub invariant-loop-done : goal.invariant-loop-done
invariant-loop-done l = record {
  within : l.done ≤ length l.text;
  len : length l.all ≡ length l.initial.all;
  placed : take (l.at + l.done) l.all ≡ take l.at l.initial.all ++ take l.done l.text;
  line : PassBetween is_of_line l.text 0 l.done;
}

abbrev pub decreases-loop-done : goal.decreases-loop-done
decreases-loop-done l = length l.text - l.done
