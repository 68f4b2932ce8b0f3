use Rattle.std.proofs.Common.{◌≡◌, ◌∙◌, ◌+◌, true, false, sym, drop, length-drop, arith, rules}
use Rattle.rst_text.specs.Block.{Block, first_text}
use Rattle.rst_text.specs.ViewBlock.{block_of}
use Rattle.rst_markup_blocks.specs.Lines.{passes, lines_while}
use Rattle.rst_markup_blocks.proofs.RowLaws.{while_le}
use Rattle.rst_markup_blocks.specs.declared.lines.LineTest.TheVariants.{Blank}
use Rattle.rst_markup_blocks.proofs.LineLemmas.{blanks_are, blanks_through, while_more, while_stop, while_end, after_while}
use Rattle.rst_markup_blocks.proofs.lines.lines_end.Goals as goal

pub loop-i-preserved : goal.loop-i-preserved
loop-i-preserved c =
    let B : Block = block_of c.args.view.now in
    let pass : passes c.args.test (first_text (drop c.loop-i.i B)) ≡ true = cc in
    record {
      at_line = search rules;
      place = sym (while_more c.loop-i.i c.args.test B (omega arith) pass) ∙ c.loop-i.invariant.place;
      looked = search (arith, c.line.ensures.looks);
    }

pub returns-after-loop-i : goal.returns-after-loop-i
returns-after-loop-i c = search (rules, while_end c.loop-i.i c.args.test (block_of c.args.view.now) (omega arith))

pub returns-then-not-passes : goal.returns-then-not-passes
returns-then-not-passes c =
    let B : Block = block_of c.args.view.now in
    let fails : passes c.args.test (first_text (drop c.loop-i.i B)) ≡ false = cc in
    let stop = while_stop c.loop-i.i c.args.test B (omega arith) fails in
    let place : c.loop-i.i ≡ c.args.from + lines_while c.args.test (drop c.args.from B) = omega (arith, stop.0, c.loop-i.invariant.place) in
    search (rules, stop.0, stop.1, after_while c.args.from c.loop-i.i c.args.test B place)

pub returns-in-Blank : goal.returns-in-Blank
returns-in-Blank c =
    let B : Block = block_of c.args.view.now in
    let Y : Block = drop c.args.from B in
    let are = blanks_are Y in
    rw c.in-Blank.is (search (arith, are.0, are.1, while_le Blank Y, length-drop c.args.from B, blanks_through Y, c.blank_end.ensures.end, c.blank_end.ensures.looks))
