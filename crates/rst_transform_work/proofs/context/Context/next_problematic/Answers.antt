use Rattle.std.proofs.Common.{◌≡◌, Some, refl, sym, ap, subst, ◌∙◌, arith, slice_get, slice_set}
use Rattle.std.proofs.lemmas.Option.{slice_get_read}
use Rattle.std.specs.Vec.{with_item}
use Rattle.rst_transform_work.specs.Known.{Makes}
use Rattle.rst_transform_work.specs.Problematics.{problematic, problematic_attrs, referring_report}
use Rattle.rst_transform_work.specs.declared.report.Report.{Report}
use Rattle.rst_transform_work.proofs.Holding.{makes_next}
use Rattle.rst_transform_work.proofs.context.Context.next_problematic.Goals as goal

pub returns : goal.returns
returns c =
    let old = c.args.self.now in
    let r = c.index_mut-report.result.now in
    let new = record old { ids = c.refer_back.new.ids; reports = with_item old.reports c.args.report c.refer_back.new.self } in
    let some : slice_get old.reports.items c.args.report ≡ Some r = slice_get_read old.reports.items old.reports.len c.args.report r (omega arith) (omega (arith, c.if-report-len.false, c.len.ensures)) c.index_mut-report.ensures.value in
    let back = c.in_ok-back.ensures in
    let now : c.refer_back.new.self ≡ referring_report c.in_ok-own.own c.in_ok-id.id r = c.in_ok-own.ensures.report ∙ ap (λ b. referring_report c.in_ok-own.own b r) back in
    let attrs : problematic_attrs c.in_ok-id.id (Some (r.number, c.in_ok-own.own)) ≡ problematic_attrs c.in_ok-id.id (Some (c.refer_back.new.self.number, c.in_ok-own.own)) = ap (λ (r : Report). problematic_attrs c.in_ok-id.id (Some (r.number, c.in_ok-own.own))) (sym now) in
    subst (λ a. Makes (problematic c.args.report) old new a) attrs
    (makes_next c.args.report old c.in_ok-id.id c.give_kind.new.self c.in_ok-id.ensures new r c.in_ok-own.own c.refer_back.new.ids refl some (ap (slice_set old.reports.items c.args.report) now) c.in_ok-own.ensures.ids)
