use Rattle.std.proofs.Common.{ap, ◌∙◌}
use Rattle.std.proofs.Math.Logic.{∥∥₁_elim}
use mathlib.Core.Bool.{Bool-set}
use Rattle.rst_settings.specs.Profile.{profile_of}
use Rattle.rst_tree.specs.Tree.{is_tree}
use Rattle.rst_transform.proofs.TransformFinishing.{finished_tree}
use Rattle.rst_transform.proofs.finishing.finish.Goals as goal

pub made-requires : goal.made-requires
made-requires c =
    let parsed = c.args.parsed in
    ap is_tree c.in_ok-root.ensures.left.0
    ∙ ∥∥₁_elim parsed.parsed (Bool-set _ _) (λ is. (finished_tree parsed.messages (profile_of c.args.settings.now) c.args.settings.now parsed.tree is).tree)
