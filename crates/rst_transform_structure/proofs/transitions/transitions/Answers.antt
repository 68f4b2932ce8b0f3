use Rattle.std.proofs.Common.{◌∙◌, ap, rules, true, Some}
use Rattle.rst_tree.specs.Nodes.{forest_of}
use Rattle.rst_transform_work.proofs.Holding.{makes_reports}
use Rattle.rst_transform_structure.specs.declared.transitions.TransitionFault.TheVariants.{AtBeginning}
use Rattle.rst_transform_structure.specs.Transitions.{placed_in}
use Rattle.rst_transform_structure.proofs.transitions.transitions.Goals as goal

pub returns : goal.returns
returns c =
    makes_reports (λ first reports. let all = placed_in first true (Some AtBeginning) c.args.document.children reports in (record c.args.document { children = forest_of all.0 }, all.1)) c.args.context.now c.place_in.new.context _
    (ap (λ f. record c.args.document { children = f }) (c.of.ensures ∙ ap (λ u. forest_of u.0) c.in_ok-nodes.ensures.placed)) (ap (λ u. u.1) c.in_ok-nodes.ensures.placed) (search rules)
