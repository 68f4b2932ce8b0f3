use Rattle.std.proofs.Common.{rules, ap}
use Rattle.rst_text.specs.ViewBlock.{block_of}
use Rattle.rst_markup_blocks.specs.Lines.{lines_while}
use Rattle.rst_markup_blocks.specs.Sizes.{run_size}
use Rattle.rst_text.proofs.Ends.{drop_one}
use Rattle.rst_markup_blocks.proofs.ends.run_below_end.Goals as goal

pub returns : goal.returns
unfolding run_size
returns c = search (rules, ap (λ X. lines_while c.args.test X) (drop_one c.args.i (block_of c.args.view.now)))
