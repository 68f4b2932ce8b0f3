use Rattle.std.proofs.Common.{◌≡◌, ◌≤◌, length, drop, arith, rules}
use Rattle.rst_text.specs.Block.{Block}
use Rattle.rst_text.specs.ViewBlock.{block_of}
use Rattle.rst_text.proofs.Indenting.{empty_chars, some_chars}
use Rattle.rst_text.proofs.Reaches.{blank_none, blank_end, run_passed}
use Rattle.rst_text.proofs.view.View.blank_end.Goals as goal

pub loop-i-preserved : goal.loop-i-preserved
loop-i-preserved c =
    let B : Block = block_of c.args.self.now in
    let none : length c.text.result.now ≡ 0 = search rules in
    let run = c.empty_end-i.ensures in
    let more = run_passed B c.loop-i.i c.empty_end-i.result (omega arith) (empty_chars _ _ c.text.ensures none) run in
    record {
      looks = c.loop-i.invariant.looks;
      passed = record { blank = omega (arith, c.loop-i.invariant.passed.blank, more.blank); through = omega (arith, c.loop-i.invariant.passed.through, more.through) };
      above = omega (arith, run.above);
      within = run.within;
    }

pub returns-then-not-is_empty : goal.returns-then-not-is_empty
returns-then-not-is_empty c =
    let B : Block = block_of c.args.self.now in
    let some : 1 ≤ length c.text.result.now = search rules in
    let none = blank_none (drop c.loop-i.i B) (some_chars _ _ c.text.utf8 c.text.ensures some) in
    record {
      end = omega (arith, c.loop-i.invariant.passed.blank, none.0);
      looks = omega (arith, c.look_at.ensures, c.loop-i.invariant.looks, c.loop-i.invariant.passed.through, none.1);
    }

pub returns : goal.returns
returns c =
    let B : Block = block_of c.args.self.now in
    let none = blank_end B c.loop-i.i (omega arith) in
    record {
      end = omega (arith, c.loop-i.invariant.passed.blank, none.0);
      looks = omega (arith, c.look_at-2.ensures, c.loop-i.invariant.looks, c.loop-i.invariant.passed.through, none.1);
    }
