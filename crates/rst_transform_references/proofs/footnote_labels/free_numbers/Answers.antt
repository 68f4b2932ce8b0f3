use Rattle.std.proofs.Common.{◌≡◌, ◌∙◌, ℕ, ◌-◌, Ok, arith, get_or, length, not, rules, take, tests, true}
use Rattle.std.proofs.lemmas.Iterator.{YieldsList-from_range, items_from_collect}
use Rattle.std.proofs.lemmas.Iterator.Consumers.{YieldsList-from_filter}
use Rattle.std.proofs.lemmas.List.{take_all}
use Rattle.rst_transform_names.specs.Ids.{number_in}
use Rattle.rst_transform_references.specs.FootnoteLabels.{free_numbers}
use Rattle.rst_transform_references.specs.Links.{node_at}
use Rattle.rst_transform_references.specs.Orders.{written_label}
use Rattle.rst_transform_references.proofs.FreeNumbers.{enough}
use Rattle.rst_transform_references.proofs.Numbering.{free_are, with_written, written_more}
use Rattle.rst_transform_references.proofs.footnote_labels.free_numbers.Goals.{in-Some, in_default}
use Rattle.rst_transform_references.proofs.footnote_labels.free_numbers.Goals as goal

pub loop-place-preserved : goal.loop-place-preserved
loop-place-preserved c =
    let is : c.match-number_in.written.items ≡ with_written (number_in (written_label (node_at c.loop-place.place c.args.links.now))) c.loop-place.written.items =
    elim c.match-number_in.branch [ in-Some w ↦ search rules | in_default w ↦ search rules ] in
    is ∙ written_more c.args.links.now c.loop-place.written.items _ c.loop-place.place c.loop-place.invariant (search rules)

pub returns : goal.returns
returns c =
    let linked = c.args.links.now.linked in
    let every : take c.loop-place.place linked ≡ linked = take_all c.loop-place.place linked (search rules) in
    let is : c.in_ok-collect.field-0.items ≡ free_numbers linked =
    items_from_collect {E = ℕ} (Ok c.in_ok-collect.field-0) c.in_ok-collect.ensures.ran
    (YieldsList-from_filter _ (λ number. not (get_or c.loop-place.written.items number true)) (YieldsList-from_range 1 c.len-2.result (length c.loop-place.written.items - 1) c.filter-free.ensures.source (omega (arith, c.len-2.ensures))) c.filter-free.ensures.closure
    (λ x b q k. search (rules, tests)))
    ∙ free_are linked c.loop-place.written.items (rw every at c.loop-place.invariant) in
    record { enough = rw is (enough linked); free = is }
