use Rattle.std.proofs.Common.{◌≡◌, ◌<◌, ◌≤◌, ◌∙◌, ◌+◌, true, false, ap, sym, drop, length, length-drop, arith}
use Rattle.rst_text.specs.Block.{Block, first_text}
use Rattle.rst_text.specs.ViewBlock.{block_of}
use Rattle.rst_markup_blocks.specs.TableLines.{is_lower_border}
use Rattle.rst_markup_blocks.specs.TableRows.{is_lower_border_at}
use Rattle.rst_text.proofs.PlacesLemmas.{NoneFrom-more}
use Rattle.rst_markup_blocks.proofs.LineLemmas.{drop_far}
use Rattle.rst_markup_blocks.proofs.TableLemmas.{border_below-there, border_below-none}
use Rattle.rst_markup_blocks.proofs.table_rows.border_below.Goals as goal

pub returns-then-is_lower_border-clause-border : goal.returns-then-is_lower_border-clause-border
returns-then-is_lower_border-clause-border c =
    let X : Block = drop c.args.i (block_of c.args.view.now) in
    let inside : c.loop-j.j < length X = omega (arith, length-drop c.args.i (block_of c.args.view.now)) in
    let here : is_lower_border_at X c.loop-j.j ≡ true = ap is_lower_border (sym (c.line.ensures.text ∙ ap first_text (drop_far c.args.i c.loop-j.j (block_of c.args.view.now)))) ∙ sym c.is_lower_border.ensures ∙ c.if-is_lower_border.true in
    border_below-there X c.args.k c.loop-j.j (omega arith) inside c.loop-j.invariant.none here

pub loop-j-preserved : goal.loop-j-preserved
loop-j-preserved c =
    let X : Block = drop c.args.i (block_of c.args.view.now) in
    let other : is_lower_border_at X c.loop-j.j ≡ false = ap is_lower_border (sym (c.line.ensures.text ∙ ap first_text (drop_far c.args.i c.loop-j.j (block_of c.args.view.now)))) ∙ sym c.is_lower_border.ensures ∙ c.if-is_lower_border.false in
    record {
      none = NoneFrom-more (is_lower_border_at X) (c.args.k + 1) c.loop-j.j c.loop-j.invariant.none (λ above. other);
      looked = search (arith, c.line.ensures.looks);
    }

pub returns-clause-border : goal.returns-clause-border
returns-clause-border c =
    let X : Block = drop c.args.i (block_of c.args.view.now) in
    let past : length X ≤ c.loop-j.j = omega (arith, length-drop c.args.i (block_of c.args.view.now)) in
    border_below-none X c.args.k c.loop-j.j past c.loop-j.invariant.none

pub returns-clause-low : goal.returns-clause-low
returns-clause-low c = omega (arith, length-drop c.args.i (block_of c.args.view.now))
