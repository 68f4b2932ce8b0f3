use Rattle.std.proofs.Common.{◌≡◌, false, rules, subst}
use Rattle.rst_tree.specs.declared.note.Level.TheVariants.{Warning}
use Rattle.rst_transform_work.specs.Reports.{report_in, report_node, IsReported}
use Rattle.rst_transform_docinfo.specs.Bibliography.{fault_report}
use Rattle.rst_transform_docinfo.proofs.bibliography.out_of_form.Goals as goal

pub returns-clause-node : goal.returns-clause-node
returns-clause-node c =
    let reported : c.in_ok-message.message ≡ report_node (fault_report c.args.context.now.first_number c.args.context.now.reports.items c.args.name.now c.args.field.line) =
    subst (λ text. c.in_ok-message.message ≡ report_node (report_in c.args.context.now Warning c.args.field.line text false)) c.in_ok-text.ensures c.in_ok-message.ensures.node in
    search (rules, reported)

pub returns-clause-reports : goal.returns-clause-reports
returns-clause-reports c =
    subst (λ text. IsReported (report_in c.args.context.now Warning c.args.field.line text false) c.args.context.now c.report_in_place.new.self) c.in_ok-text.ensures c.in_ok-message.ensures.reports
