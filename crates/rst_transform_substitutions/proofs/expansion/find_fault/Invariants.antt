use Rattle.std.proofs.Common.{◌≡◌, ◌≤◌, Err}
use Rattle.rst_transform_substitutions.specs.declared.expansion.ExpansionFault.{ExpansionFault}
use Rattle.rst_transform_substitutions.specs.Definitions.{found_by}
use Rattle.rst_transform_substitutions.specs.Expansion.{expanded_copies, given, most_visited, path_from}
use Rattle.rst_transform_substitutions.specs.Sizes.{content_last}
use Rattle.rst_transform_substitutions.proofs.expansion.find_fault.Given as goal

-- the reference fails as the nodes of the last definition do
abbrev pub invariant-loop-step : goal.invariant-loop-step
invariant-loop-step l = record {
  fails : (fault : ExpansionFault) → expanded_copies (given (found_by l.definitions) l.progress.path.items) (content_last l.definitions l.progress.path.items) l.progress.left ≡ Err fault → given (found_by l.definitions) (path_from l.fn.within) l.fn.name most_visited ≡ Err fault;
  left : l.progress.left ≤ most_visited;
}
