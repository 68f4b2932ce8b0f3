use Rattle.std.proofs.Common.{◌∙◌, ℕ, ap, length, rules, tests, arith, Ok}
use Rattle.std.proofs.lemmas.Iterator.{YieldsList-from_map, YieldsList-from_range, items_from_collect}
use Rattle.rst_transform_names.specs.Names.{entry_named}
use Rattle.rst_transform_references.specs.declared.orders.Order.TheVariants.{Numbers, Symbols}
use Rattle.rst_transform_references.specs.Indirect.{with_pairs}
use Rattle.rst_transform_references.specs.Links.{node_at}
use Rattle.rst_transform_references.specs.Orders.{pairs_by}
use Rattle.rst_transform_references.specs.Resolving.{named_note}
use Rattle.rst_transform_references.proofs.resolve.notes_of.Goals as goal

pub returns : goal.returns
returns c =
    c.in_ok-add_pairs-2.ensures ∙ ap (with_pairs (pairs_by Symbols c.args.links.now)) c.in_ok-add_pairs.ensures
    ∙ ap (λ notes. with_pairs (pairs_by Symbols c.args.links.now) (with_pairs (pairs_by Numbers c.args.links.now) notes)) (items_from_collect {E = ℕ} (Ok c.in_ok-notes.notes) c.in_ok-notes.ensures.ran
    (YieldsList-from_map _ (λ place. named_note (entry_named c.args.names.now) c.args.places.now c.args.links.now (node_at place c.args.links.now)) (YieldsList-from_range 0 c.len.result (length c.args.links.now.linked) c.map-notes.ensures.source (omega (arith, c.len.ensures))) c.map-notes.ensures.closure (λ x r q k. search (rules, tests))))
