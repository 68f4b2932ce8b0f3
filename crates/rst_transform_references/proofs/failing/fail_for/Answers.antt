use Rattle.std.proofs.Common.{◌≡◌, ◌∙◌, ap, length, rules, subst, take, true}
use Rattle.std.proofs.lemmas.List.{take_all}
use Rattle.rst_tree.specs.declared.note.Level.TheVariants.{Error}
use Rattle.rst_transform_work.specs.Known.{Holds}
use Rattle.rst_transform_work.specs.Reports.{reported}
use Rattle.rst_transform_work.proofs.Holding.{holds_reported}
use Rattle.rst_transform_references.specs.Failing.{fail_for, fails}
use Rattle.rst_transform_references.specs.Links.{each}
use Rattle.rst_transform_references.proofs.failing.fail_for.Goals as goal

pub returns : goal.returns
unfolding fail_for
returns c known h =
    let told = holds_reported Error c.args.line c.args.text true c.args.context.now c.report.new.self known h (search rules) (search rules) in
    let every : take c.loop-place.place-index c.args.places.now ≡ c.args.places.now = take_all c.loop-place.place-index c.args.places.now c.loop-place-test.false in
    let at : c.in_ok-message.message ≡ length c.args.context.now.reports.items = search rules in
    subst (λ m. let done = each (fails m) c.args.places.now c.args.links.now (reported Error c.args.line c.args.text true known) in (c.loop-place.links ≡ done.0) × Holds c.loop-place.context done.1) (at ∙ ap length h.reports)
    (rw every at c.loop-place.invariant _ told)
