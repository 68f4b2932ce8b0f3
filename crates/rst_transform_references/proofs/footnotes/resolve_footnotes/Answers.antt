use Rattle.std.proofs.Common.{◌≡◌, length, refl, rules, take, tests, arith, sym, ◌∙◌}
use Rattle.std.proofs.lemmas.Iterator.{YieldsList-from_range}
use Rattle.std.proofs.lemmas.Iterator.Search.{any_from_yields_List}
use Rattle.std.proofs.lemmas.List.{take_all}
use Rattle.rst_transform_references.specs.Footnotes.{footnotes, is_of_footnotes, labelled}
use Rattle.rst_transform_references.specs.Links.{node_at}
use Rattle.rst_transform_references.proofs.Each.{each_more}
use Rattle.rst_transform_references.proofs.footnotes.resolve_footnotes.Goals as goal

pub returns-then-not-any : goal.returns-then-not-any
unfolding footnotes
returns-then-not-any c known h =
    rw (sym (any_from_yields_List (λ place. is_of_footnotes (node_at place c.args.links.now)) c.any.new.self _ c.any.result c.any.ensures.ran (YieldsList-from_range 0 c.len.result (length c.args.links.now.linked) refl (omega (arith, c.len.ensures))) (λ x b q k. search (rules, tests))) ∙ c.if-not-any.true) (refl, h)

pub loop-label-preserved : goal.loop-label-preserved
loop-label-preserved c =
    each_more labelled c.deref-label-items.result.now c.loop-label.label-index c.label-item.result c.args.context.now c.loop-label.context c.label_footnote.new.context c.args.links.now c.loop-label.links c.label_footnote.new.links
    c.loop-label-test.true c.label-item.is c.loop-label.invariant c.in_ok-label_footnote.ensures

pub returns : goal.returns
unfolding footnotes
returns c known h =
    let every : take c.loop-label.label-index c.in_ok-labels.labels.items ≡ c.in_ok-labels.labels.items = take_all c.loop-label.label-index c.in_ok-labels.labels.items (search rules) in
    let shown = rw (c.deref-label-items.ensures.value, every) at c.loop-label.invariant known h in
    let numbers = c.in_ok-refer_by.ensures _ shown.1 in
    rw (sym (any_from_yields_List (λ place. is_of_footnotes (node_at place c.args.links.now)) c.any.new.self _ c.any.result c.any.ensures.ran (YieldsList-from_range 0 c.len.result (length c.args.links.now.linked) refl (omega (arith, c.len.ensures))) (λ x b q k. search (rules, tests))) ∙ c.if-not-any.false, ← c.in_ok-labels.ensures, ← shown.0, ← numbers.0) (c.in_ok-refer_by-2.ensures _ numbers.1)
