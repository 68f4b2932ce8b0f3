use Rattle.rst_tree.specs.Walk.{items}
use Rattle.rst_transform_substitutions.specs.Expanded.{with_expansions}
use Rattle.rst_transform_substitutions.proofs.NoReferences.{stays_expanded}
use Rattle.rst_transform_structure.specs.Targets.{with_targets}
use Rattle.rst_transform_structure.proofs.Retargeting.{without_targets}
use Rattle.rst_transform.proofs.Looking.{neither}
use Rattle.rst_transform.proofs.Sequence.{makes_then}
use Rattle.rst_transform.proofs.finishing.with_early.Goals as goal

pub returns-then-not-early : goal.returns-then-not-early
returns-then-not-early c =
    let none = neither (items c.args.document.children) (c.requires c.if-not-early.true) in
    makes_then (with_expansions c.args.document) (with_targets c.args.unmarked) _ _ _ _ _ (stays_expanded c.args.document c.args.context.now none.0) (without_targets c.args.unmarked c.args.document c.args.context.now none.1)

pub returns : goal.returns
returns c =
    makes_then (with_expansions c.args.document) (with_targets c.args.unmarked) _ _ _ _ _ c.in_ok-expanded.ensures c.in_ok-retargeted.ensures
