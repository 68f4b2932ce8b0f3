use Rattle.std.proofs.Common.{rules}
use Rattle.rst_transform_substitutions.specs.Definitions.{found_by}
use Rattle.rst_transform_substitutions.specs.Expansion.{expanded_copies, given}
use Rattle.rst_transform_substitutions.specs.Sizes.{content_last, Fits}
use Rattle.rst_transform_substitutions.proofs.Sizing.{copy_is, ends_none}
use Rattle.rst_transform_substitutions.proofs.expansion.Progress.copy.Goals as goal

pub returns-clause-copy : goal.returns-clause-copy
returns-clause-copy c =
    let path = c.args.self.now.path.items in
    let references = given (found_by c.args.definitions.now) path in
    let fits : Fits references (expanded_copies references (content_last c.args.definitions.now path) c.args.self.now.left) c.args.self.now.left c.in-Some.one.now = rw c.in-Some.is at c.in_ok-one.ensures.fits in
    copy_is _ c.in-Some-copy.copy _ (fits.copy c.in-Some-copy.copy (search rules)) (ends_none c.in-Some.one.now.stuck _ _ _ (search (rules, c.if-is_some.false)) fits.ends)
