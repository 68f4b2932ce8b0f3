use Rattle.std.proofs.Common.{◌≡◌, ◌-◌, drop, arith}
use Rattle.rst_text.specs.Block.{Block}
use Rattle.rst_text.specs.ViewBlock.{block_of}
use Rattle.rst_markup_blocks.specs.declared.lines.LineTest.TheVariants.{Drawn}
use Rattle.rst_markup_blocks.specs.Lines.{lines_while}
use Rattle.rst_markup_blocks.proofs.TableLemmas.{grid_bottom-is, grid_bottom-below}
use Rattle.rst_markup_blocks.proofs.table_rows.grid_bottom.Goals as goal

pub returns : goal.returns
returns c =
    let X : Block = drop c.args.i (block_of c.args.view.now) in
    let lines_through : c.loop-k.k - 2 ≡ lines_while Drawn X - 2 = omega (arith, c.requires.all, c.loop-k.invariant.among) in
    record {
      bottom = grid_bottom-is X c.loop-k.k c.loop-k.bottom lines_through c.loop-k.invariant.last;
      within = grid_bottom-below X c.args.all c.loop-k.bottom c.requires.all (grid_bottom-is X c.loop-k.k c.loop-k.bottom lines_through c.loop-k.invariant.last);
      looked = search (arith, c.loop-k.invariant.among);
    }
