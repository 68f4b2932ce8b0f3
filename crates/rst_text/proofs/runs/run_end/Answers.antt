use Rattle.std.proofs.Common.{◌+◌, ◌-◌, length, refl, arith}
use Rattle.rst_text.specs.Runs.{fails_test}
use Rattle.rst_text.proofs.RunLemmas.{last-lanes, none-failing, first-failing}
use Rattle.rst_text.proofs.runs.run_end.Goals as goal

pub returns-then-failing-ne0 : goal.returns-then-failing-ne0
returns-then-failing-ne0 g c =
    first-failing g.T.ByteTest.passes c.args.bytes.now c.args.place c.loop-at.at 16 c.failing-failing.result (omega arith) (omega arith) (omega arith) c.loop-at.invariant.2 c.failing-failing.ensures (omega arith)

pub loop-at-preserved : goal.loop-at-preserved
loop-at-preserved g c = (
  omega arith,
  omega arith,
  none-failing g.T.ByteTest.passes c.args.bytes.now c.args.place c.loop-at.at 16 (c.loop-at.at + 16) c.failing-failing.result refl (omega arith) c.loop-at.invariant.2 c.failing-failing.ensures (omega arith),
)

pub returns-then-failing-ne0-2 : goal.returns-then-failing-ne0-2
returns-then-failing-ne0-2 g c =
    first-failing g.T.ByteTest.passes c.args.bytes.now c.args.place c.loop-at.at (length c.args.bytes.now - c.loop-at.at) _ (omega arith) (omega arith) (omega arith) c.loop-at.invariant.2
    (last-lanes (fails_test g.T.ByteTest.passes) c.args.bytes.now c.loop-at.at c.failing.result (omega arith) (omega arith) (omega arith) c.failing.ensures) (omega arith)

pub returns-then-bytes-ge-LANES : goal.returns-then-bytes-ge-LANES
returns-then-bytes-ge-LANES g c = record {
  above = omega arith;
  within = omega arith;
  pass = none-failing g.T.ByteTest.passes c.args.bytes.now c.args.place c.loop-at.at (length c.args.bytes.now - c.loop-at.at) (length c.args.bytes.now) _ (omega arith) (omega arith) c.loop-at.invariant.2
      (last-lanes (fails_test g.T.ByteTest.passes) c.args.bytes.now c.loop-at.at c.failing.result (omega arith) (omega arith) (omega arith) c.failing.ensures) (omega arith);
  stops = λ less. absurd (omega arith);
}
