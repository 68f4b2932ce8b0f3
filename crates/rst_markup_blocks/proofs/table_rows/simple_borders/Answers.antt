use Rattle.std.proofs.Common.{rules, ◌≡◌, ◌∙◌, true, false, drop, length, length-drop, arith}
use Rattle.std.specs.Prelude.{Some, None}
use Rattle.rst_text.specs.Block.{Block}
use Rattle.rst_text.specs.ViewBlock.{block_of}
use Rattle.rst_markup_blocks.specs.TableRows.{closes_head, simple_bottom}
use Rattle.rst_markup_blocks.proofs.TableLemmas.{border_below-below, bottom-none, bottom-first, bottom-second, head-none, head-stays, head-first, last-below, last-lines_through, scan-is, simple_size-is}
use Rattle.rst_markup_blocks.proofs.table_rows.simple_borders.Goals as goal

pub returns-in_default-clause-looked : goal.returns-in_default-clause-looked
returns-in_default-clause-looked c =
    let X : Block = drop c.args.i (block_of c.args.view.now) in
    let none = c.in_default.ensures.border in
    let bottom : None ≡ simple_bottom X = bottom-none X none in
    search (arith, scan-is X None bottom, simple_size-is X None None (head-none X none) bottom, c.in_default.ensures.low, c.in_default.ensures.looks)

pub overflow_add-first : goal.overflow_add-first
overflow_add-first c =
    let B : Block = block_of c.args.view.now in
    search (arith, length-drop c.args.i B, (border_below-below (drop c.args.i B) 0 c.in-Some.first c.in-Some.ensures.border).1)

pub returns-then-not-closes : goal.returns-then-not-closes
returns-then-not-closes c =
    let X : Block = drop c.args.i (block_of c.args.view.now) in
    let first = c.in-Some.ensures.border in
    let stays : closes_head X c.in-Some.first ≡ false = cc in
    let bottom : Some c.in-Some.first ≡ simple_bottom X = bottom-first X c.in-Some.first first stays in
    record {
      head = search rules;
      bottom = bottom;
      within = (border_below-below X 0 c.in-Some.first first).1;
      looked = search (arith, scan-is X (Some c.in-Some.first) bottom, simple_size-is X None (Some c.in-Some.first) (head-stays X c.in-Some.first first stays) bottom, c.in-Some.ensures.low, c.in-Some.ensures.looks);
    }

pub returns : goal.returns
returns c =
    let X : Block = drop c.args.i (block_of c.args.view.now) in
    let closes : closes_head X c.in-Some.first ≡ true = cc in
    let first = c.in-Some.ensures.border in
    let head = head-first X c.in-Some.first first closes in
    let bottom : c.border_below-2.result ≡ simple_bottom X = c.border_below-2.ensures.border ∙ bottom-second X c.in-Some.first first closes in
    let lines_through = last-lines_through (length X) c.in-Some.first c.border_below-2.result (border_below-below X 0 c.in-Some.first first).1 in
    record {
      head = head;
      bottom = bottom;
      within = last-below X (Some c.in-Some.first) c.border_below-2.result head bottom;
      looked = search (arith, scan-is X c.border_below-2.result bottom, simple_size-is X (Some c.in-Some.first) c.border_below-2.result head bottom, lines_through, c.in-Some.ensures.low, c.in-Some.ensures.looks);
    }
