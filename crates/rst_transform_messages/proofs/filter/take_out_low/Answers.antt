use Rattle.std.proofs.Common.{rules, ◌∙◌, ap}
use Rattle.std.proofs.lemmas.Fn.{filter_same}
use Rattle.std.specs.Prelude.{filter}
use Rattle.rst_tree.specs.Nodes.{forest_of}
use Rattle.rst_transform_messages.specs.Reported.{may_stay}
use Rattle.rst_transform_messages.proofs.filter.take_out_low.Goals as goal

pub returns : goal.returns
returns c =
    c.of.ensures ∙ ap forest_of (filter_same _ (may_stay c.args.report) _ (λ x b f' k. search rules) _ _ c.retain.ensures.filtered ∙ ap (filter (may_stay c.args.report)) (search rules))
