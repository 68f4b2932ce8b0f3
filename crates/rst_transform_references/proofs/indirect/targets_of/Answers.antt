use Rattle.std.proofs.Common.{◌∙◌, ℕ, ap, length, rules, tests, arith, Ok}
use Rattle.std.proofs.lemmas.Iterator.{YieldsList-from_map, YieldsList-from_range, items_from_collect}
use Rattle.rst_transform_names.specs.Names.{entry_named}
use Rattle.rst_transform_references.specs.declared.orders.Order.TheVariants.{Anonymous}
use Rattle.rst_transform_references.specs.Indirect.{named_target, with_pairs}
use Rattle.rst_transform_references.specs.Links.{node_at}
use Rattle.rst_transform_references.specs.Orders.{pairs_by}
use Rattle.rst_transform_references.proofs.indirect.targets_of.Goals as goal

pub returns : goal.returns
returns c =
    c.in_ok-add_pairs.ensures
    ∙ ap (with_pairs (pairs_by Anonymous c.args.links.now)) (items_from_collect {E = ℕ} (Ok c.in_ok-targets.targets) c.in_ok-targets.ensures.ran
    (YieldsList-from_map _ (λ place. named_target (entry_named c.args.names.now) c.args.places.now (node_at place c.args.links.now)) (YieldsList-from_range 0 c.len.result (length c.args.links.now.linked) c.map-targets.ensures.source (omega (arith, c.len.ensures))) c.map-targets.ensures.closure (λ x r q k. search (rules, tests))))
