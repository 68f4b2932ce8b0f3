use Rattle.std.proofs.Common.{◌≡◌, ◌∙◌, ◌++◌, ℕ, ap, ap₂, length, map, rules, take, tests, arith, Ok}
use Rattle.std.proofs.lemmas.Iterator.{YieldsList-from_range, YieldsList-from_slice, YieldsList-from_zip, items_from_collect}
use Rattle.std.proofs.lemmas.Iterator.Consumers.{YieldsList-at, YieldsList-from_copied, YieldsList-from_filter}
use Rattle.std.proofs.lemmas.List.{take_all}
use Rattle.std.specs.List.{range_with_len, zip}
use Rattle.std.specs.Prelude.{decimal}
use Rattle.rst_transform_references.specs.declared.orders.Order.TheVariants.{Symbols}
use Rattle.rst_transform_references.specs.FootnoteLabels.{free_numbers, is_to_number, numbered, symbol_label}
use Rattle.rst_transform_references.specs.Links.{node_at}
use Rattle.rst_transform_references.specs.Orders.{targets_by}
use Rattle.rst_transform_references.proofs.footnote_labels.labels.Goals as goal

pub returns : goal.returns
returns c =
    let count : ℕ = length c.args.links.now.linked in
    let numbers : c.in_ok-numbers.numbers.items ≡ numbered c.args.links.now =
    items_from_collect {E = ℕ} (Ok c.in_ok-numbers.numbers) c.in_ok-numbers.ensures.ran
    (YieldsList-from_zip
    (YieldsList-at c.zip.ensures.first (YieldsList-from_filter _ (λ place. is_to_number (node_at place c.args.links.now)) (YieldsList-from_range 0 c.len.result count c.filter-places.ensures.source (omega (arith, c.len.ensures))) c.filter-places.ensures.closure (λ x b q k. search (rules, tests))))
    (YieldsList-at c.zip.ensures.second (YieldsList-from_copied (YieldsList-at c.copied.ensures.source (YieldsList-from_slice (free_numbers c.args.links.now.linked) (c.iter.ensures.rest ∙ c.deref.ensures.value ∙ c.in_ok-free.ensures.free)))))) in
    let symbols : c.in_ok-symbols.symbols.items ≡ zip (targets_by Symbols c.args.links.now) (range_with_len 0 count) =
    items_from_collect {E = ℕ} (Ok c.in_ok-symbols.symbols) c.in_ok-symbols.ensures.ran
    (YieldsList-from_zip
    (YieldsList-at c.zip-2.ensures.first (YieldsList-from_copied (YieldsList-at c.copied-2.ensures.source (YieldsList-from_slice (targets_by Symbols c.args.links.now) (c.iter-2.ensures.rest ∙ c.deref-2.ensures.value ∙ c.in_ok-places.ensures)))))
    (YieldsList-from_range 0 c.len-2.result count c.zip-2.ensures.second (omega (arith, c.len-2.ensures)))) in
    let every : take c.loop-symbol.symbol-index c.deref-symbol-items.result.now ≡ c.deref-symbol-items.result.now = take_all c.loop-symbol.symbol-index c.deref-symbol-items.result.now (search rules) in
    c.loop-symbol.invariant ∙ ap₂ ◌++◌ (ap (map (λ pair. (pair.0, decimal pair.1))) numbers) (ap (map (λ pair. (pair.0, symbol_label pair.1))) (every ∙ c.deref-symbol-items.ensures.value ∙ symbols))
