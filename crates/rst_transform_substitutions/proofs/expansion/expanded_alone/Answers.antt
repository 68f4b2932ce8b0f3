use Rattle.rst_transform_substitutions.specs.Definitions.{found_by}
use Rattle.rst_transform_substitutions.proofs.Copying.{copy_given}
use Rattle.rst_transform_substitutions.proofs.expansion.expanded_alone.Goals as goal

pub returns-in-Ok : goal.returns-in-Ok
returns-in-Ok c = λ more left path. rw (c.of.ensures) (copy_given (found_by c.args.definitions.now) _ more _ path c.args.content.now _ left _ _ (rw (c.new-nodes.ensures.items) at c.in-Ok.ensures.nodes))
