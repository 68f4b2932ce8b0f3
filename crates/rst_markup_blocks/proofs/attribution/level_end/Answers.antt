use Rattle.std.proofs.Common.{◌≡◌, ◌∙◌, ◌==◌, true, false, sym, drop, arith, rules, refl}
use Rattle.rst_text.specs.Block.{Block, first_text, is_blank, indentation}
use Rattle.rst_text.specs.ViewBlock.{block_of}
use Rattle.rst_markup_blocks.specs.Lines.{passes}
use Rattle.rst_markup_blocks.specs.declared.lines.LineTest.TheVariants.{Filled}
use Rattle.rst_markup_blocks.proofs.LineLemmas.{while_more}
use Rattle.rst_markup_blocks.proofs.AttributionLemmas.{level_stop, level_other, level_more, level_end_of}
use Rattle.rst_markup_blocks.proofs.attribution.level_end.Goals as goal

pub returns-then-is_blank-clause-end : goal.returns-then-is_blank-clause-end
returns-then-is_blank-clause-end c =
    let B : Block = block_of c.args.view.now in
    let blank : is_blank (first_text (drop c.loop-i.i B)) ≡ true = cc in
    level_stop c.args.indent c.loop-i.i B _ blank c.loop-i.invariant.end

pub returns-then-indentation-indent-clause-end : goal.returns-then-indentation-indent-clause-end
returns-then-indentation-indent-clause-end c =
    let B : Block = block_of c.args.view.now in
    let some : is_blank (first_text (drop c.loop-i.i B)) ≡ false = cc in
    let other : (indentation (first_text (drop c.loop-i.i B)) == c.args.indent) ≡ false = search rules in
    level_other c.args.indent c.loop-i.i B _ some other c.loop-i.invariant.end

pub loop-i-preserved : goal.loop-i-preserved
loop-i-preserved c =
    let B : Block = block_of c.args.view.now in
    let some : is_blank (first_text (drop c.loop-i.i B)) ≡ false = cc in
    let same : (indentation (first_text (drop c.loop-i.i B)) == c.args.indent) ≡ true = search rules in
    let pass : passes Filled (first_text (drop c.loop-i.i B)) ≡ true = rw some refl in
    record {
      end = level_more c.args.indent c.loop-i.i B _ some same c.loop-i.invariant.end;
      lines = sym (while_more c.loop-i.i Filled B (omega arith) pass) ∙ c.loop-i.invariant.lines;
      looked = search (arith, c.line-text.ensures.looks);
    }

pub returns-clause-end : goal.returns-clause-end
returns-clause-end c =
    let B : Block = block_of c.args.view.now in
    level_end_of c.args.indent c.len-len.result B _ (omega (arith, c.len-len.ensures)) (search rules)
