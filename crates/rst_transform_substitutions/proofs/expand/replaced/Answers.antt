use Rattle.std.proofs.Common.{◌≡◌, ◌∙◌, length, ap, arith, rules}
use Rattle.rst_tree.specs.declared.note.Level.TheVariants.{Error}
use Rattle.rst_transform_work.specs.Known.{Makes}
use Rattle.rst_transform_work.proofs.Holding.{holds_reported}
use Rattle.rst_transform_substitutions.specs.Expanded.{at_fault}
use Rattle.rst_transform_substitutions.specs.Expansion.{expansion_fault_text, refname_of}
use Rattle.rst_transform_substitutions.proofs.expand.replaced.Goals as goal

pub returns-in_ok-node-in-Err-By : goal.returns-in_ok-node-in-Err-By
returns-in_ok-node-in-Err-By c =
    let made : Makes (at_fault c.args.attrs.now c.args.line c.in-Err-By.fault) c.args.context.now c.problematic.new.self c.in_ok-node-in-Err-By.node = λ known h.
    let first : c.in_ok-report-in-Err-By.report ≡ length c.args.context.now.reports.items = grind arith in
    let place : c.in_ok-report-in-Err-By.report ≡ length known.reports = first ∙ ap length h.reports in
    let reported = holds_reported Error c.args.line (expansion_fault_text (refname_of c.args.attrs.now) c.in-Err-By.fault) _ c.args.context.now c.report.new.self known h c.in_ok-report-in-Err-By.ensures.rest (rw (c.in_ok-text-in-Err-By.ensures, c.text_or_empty-name.ensures) at c.in_ok-report-in-Err-By.ensures.reports) in
    rw (place, c.in_ok-source-in-Err-By.ensures) at (c.in_ok-node-in-Err-By.ensures _ reported) in
    search (rules, made)
