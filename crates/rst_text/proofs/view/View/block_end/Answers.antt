use Rattle.std.proofs.Common.{◌≡◌, ◌≤◌, length, drop, arith, ap, ◌∙◌, rules, min}
use Rattle.rst_text.specs.Block.{Block, first_text, indentation}
use Rattle.rst_text.proofs.Least.{lower, lower-is}
use Rattle.rst_text.specs.ViewBlock.{block_of}
use Rattle.rst_text.proofs.Indenting.{empty_chars, some_chars}
use Rattle.rst_text.proofs.Ends.{Finds-run, Finds-more, Finds-over, Finds-end, extent_is, finish_at, finish_end}
use Rattle.rst_text.proofs.view.View.block_end.Goals as goal

pub loop-i-preserved-then-is_empty : goal.loop-i-preserved-then-is_empty
loop-i-preserved-then-is_empty c =
    let B : Block = block_of c.args.self.now in
    let none : length c.text-text.result.now ≡ 0 = search rules in
    let run = c.empty_end-next.ensures in
    record {
      found = Finds-run B c.args.from c.unwrap_or-enough.result c.loop-i.i c.loop-i.end c.loop-i.lowest c.empty_end-next.result c.loop-i.invariant.found (omega arith) (omega arith) (empty_chars _ _ c.text-text.ensures none) run;
      looks = omega (arith, c.loop-i.invariant.looks, c.look_at.ensures, run.above);
      low = omega (arith, c.loop-i.invariant.low, c.look_at.ensures, run.above);
      above = omega (arith, run.above);
      within = run.within;
    }

pub loop-i-preserved : goal.loop-i-preserved
loop-i-preserved c =
    let B : Block = block_of c.args.self.now in
    let some : 1 ≤ length c.text-text.result.now = search rules in
    let level : c.indentation-indent.result ≡ indentation (first_text (drop c.loop-i.i B)) = c.indentation-indent.ensures.value ∙ ap indentation c.text-text.ensures in
    let same : c.min.result ≡ lower c.loop-i.lowest (indentation (first_text (drop c.loop-i.i B))) =
    c.min.ensures ∙ ap (λ m. min m c.indentation-indent.result) c.unwrap_or-in-loop-i.ensures ∙ lower-is c.loop-i.lowest _ ∙ ap (lower c.loop-i.lowest) level in
    record {
      found = rw same (Finds-more B c.args.from c.unwrap_or-enough.result c.loop-i.i c.loop-i.end c.loop-i.lowest c.loop-i.invariant.found (omega arith) (omega arith) (some_chars _ _ c.text-text.utf8 c.text-text.ensures some) (omega arith));
      looks = omega (arith, c.loop-i.invariant.looks, c.look.ensures);
      low = omega (arith, c.loop-i.invariant.low, c.look.ensures);
      above = omega arith;
      within = omega arith;
    }

pub returns-then-indent-enough : goal.returns-then-indent-enough
returns-then-indent-enough c =
    let B : Block = block_of c.args.self.now in
    let some : 1 ≤ length c.text-text.result.now = search rules in
    let level : c.indentation-indent.result ≡ indentation (first_text (drop c.loop-i.i B)) = c.indentation-indent.ensures.value ∙ ap indentation c.text-text.ensures in
    let found = c.loop-i.invariant.found in
    let over = Finds-over B c.args.from c.unwrap_or-enough.result c.loop-i.i c.loop-i.end c.loop-i.lowest found (omega arith) (some_chars _ _ c.text-text.utf8 c.text-text.ensures some) (omega arith) in
    rw (← c.unwrap_or-enough.ensures) (record {
      extent = extent_is B c.args.from c.unwrap_or-enough.result c.loop-i.end c.loop-i.lowest _ _ over.0 c.unwrap_or.ensures (finish_at B c.args.from _ _ _ _ found over.2);
      looks = omega (arith, c.look.ensures, found.looks, c.loop-i.invariant.looks, over.1);
      low = omega (arith, c.look.ensures, found.looks, c.loop-i.invariant.low, over.1);
    })

pub returns : goal.returns
returns c =
    let B : Block = block_of c.args.self.now in
    let past : length B ≤ c.loop-i.i = omega arith in
    let found = c.loop-i.invariant.found in
    let over = Finds-end B c.args.from c.unwrap_or-enough.result c.loop-i.i c.loop-i.end c.loop-i.lowest found past in
    rw (← c.unwrap_or-enough.ensures) (record {
      extent = extent_is B c.args.from c.unwrap_or-enough.result c.loop-i.end c.loop-i.lowest _ _ over.0 c.unwrap_or-2.ensures (finish_end B c.args.from _ _ _ _ found past (omega arith));
      looks = omega (arith, found.looks, c.loop-i.invariant.looks, over.1);
      low = omega (arith, found.looks, c.loop-i.invariant.low, over.1);
    })
