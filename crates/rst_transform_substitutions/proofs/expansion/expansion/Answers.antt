use Rattle.std.proofs.Common.{◌≡◌}
use Rattle.rst_transform_substitutions.specs.Expansion.{most_visited}
use Rattle.rst_transform_substitutions.proofs.Expanding.{expansion_is}
use Rattle.rst_transform_substitutions.proofs.expansion.expansion.Goals as goal

pub returns : goal.returns
returns c =
    let stays : c.copy.new.self.left ≡ c.entered.new.progress.left = rw (c.in_default.is) at c.in_ok-copy.ensures.copy in
    expansion_is _ _ _ _ c.of.result (rw (c.in_ok-progress.ensures.0) at (c.in_ok-content.ensures.content most_visited))
    (rw (c.new-nodes.ensures.items, c.in_ok-copy.ensures.path, stays, c.in_ok-content.ensures.left, c.in_ok-progress.ensures.1) at c.in_ok-add_expanded.ensures.nodes) c.of.ensures
