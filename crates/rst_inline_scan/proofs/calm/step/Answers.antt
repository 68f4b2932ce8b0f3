use Rattle.std.proofs.Common.{◌≡◌, ◌+◌, ◌-◌, ◌<◌, true, false, get_or, sym, ◌∙◌, arith}
use Rattle.rst_inline_scan.specs.Calm.{is_of_name}
use Rattle.std.specs.Char.{is_ascii_alphanumeric}
use Rattle.rst_inline_scan.proofs.CalmLemmas.{calm-longer, calm-scanned}
use Rattle.rst_inline_scan.proofs.calm.step.Goals as goal
use Rattle.rst_inline_scan.proofs.calm.step.Goals.{then-loop-start-test+else-is_of_name, else-loop-start-test}

pub loop-at-preserved : goal.loop-at-preserved
loop-at-preserved c =
    let run = c.run_end-at-in-loop-at.ensures in
    let letter : is_ascii_alphanumeric (get_or c.args.bytes.now (c.loop-at.at + 1) 0) ≡ true = cc in
    record {
      above = let above = run.above in omega arith;
      within = run.within;
      calm = calm-longer c.args.bytes.now c.args.place c.loop-at.at c.run_end-at-in-loop-at.result c.loop-at.invariant.calm c.if-bytes-at-eq95.true letter run.pass;
    }

pub returns-then-at-bytes-clause-over : goal.returns-then-at-bytes-clause-over
returns-then-at-bytes-clause-over c text from of =
    calm-scanned text c.args.bytes.now from c.args.place c.loop-at.at c.args.escaped of (record {
      above = c.loop-at.invariant.above;
      within = c.loop-at.invariant.within;
      calm = c.loop-at.invariant.calm;
      edge = λ some inside. absurd (omega arith);
    })

pub returns-clause-over : goal.returns-clause-over
returns-clause-over c text from of =
    let edge : c.args.place < c.loop-start.start → is_of_name (get_or c.args.bytes.now (c.loop-start.start - 1) 0) ≡ false = λ some. elim c.loop-start-test.branch [
      | then-loop-start-test+else-is_of_name w ↦ sym w.is_of_name.ensures ∙ w.if-is_of_name.false
      | else-loop-start-test w ↦ absurd (omega arith)
    ] in
    calm-scanned text c.args.bytes.now from c.args.place c.loop-start.start c.args.escaped of (record {
      above = c.loop-start.invariant.0;
      within = omega (arith, c.loop-start.invariant.1, c.loop-at.invariant.within);
      calm = λ k low less. c.loop-at.invariant.calm k low (omega (arith, c.loop-start.invariant.1));
      edge = λ some inside. edge some;
    })
