use Rattle.std.proofs.Common.{◌≡◌, ◌+◌, drop, length-drop, ap, ◌∙◌, arith}
use Rattle.rst_text.specs.Block.{Block}
use Rattle.rst_text.specs.Extent.{extent}
use Rattle.rst_text.specs.Reach.{looked}
use Rattle.rst_text.specs.ViewBlock.{block_of}
use Rattle.rst_markup_blocks.specs.declared.lines.LineTest.TheVariants.{Blank}
use Rattle.rst_markup_blocks.specs.Lines.{lines_while}
use Rattle.rst_markup_blocks.specs.ExplicitMarkup.{least_of}
use Rattle.rst_markup_blocks.specs.Sizes.{hanging_size}
use Rattle.rst_text.proofs.Ends.{drop_one}
use Rattle.rst_markup_blocks.proofs.PartLemmas.{part_text, part_bare, looked_hanging, hanging_is, blank_below}
use Rattle.rst_text.proofs.Reaches.{looked_is}
use Rattle.rst_markup_blocks.proofs.explicit_markup.hanging_part.Goals as goal

pub returns-then-not-bare : goal.returns-then-not-bare
returns-then-not-bare c =
    let B : Block = block_of c.args.view.now in
    let X : Block = drop c.args.i B in
    let below = drop_one c.args.i B in
    let end : c.block_end-extent.result.end ≡ c.args.i + 1 + extent 1 (drop (c.args.i + 1) B) = ap (λ e. e.end) c.block_end-extent.ensures.extent in
    let indent : c.block_end-extent.result.indent ≡ least_of (drop (c.args.i + 1) B) = ap (λ e. e.indent) c.block_end-extent.ensures.extent in
    record {
      part =
          part_text c.args.i c.args.cut c.block_end-extent.result.end c.block_end-extent.result.indent X c.args.bare c.if-not-bare.true
          (omega (arith, end, hanging_is X, ap (λ Y. extent 1 Y) below)) (indent ∙ ap least_of below);
      looked = search (arith, looked_hanging X (omega (arith, length-drop c.args.i B)), ap (λ Y. looked 1 Y) below, looked_is 1 (drop (c.args.i + 1) B), hanging_is X, ap (λ Y. extent 1 Y) below);
    }

pub returns : goal.returns
returns c =
    let B : Block = block_of c.args.view.now in
    let X : Block = drop c.args.i B in
    let below = drop_one c.args.i B in
    let end : c.block_end-extent.result.end ≡ c.args.i + 1 + extent 1 (drop (c.args.i + 1) B) = ap (λ e. e.end) c.block_end-extent.ensures.extent in
    let indent : c.block_end-extent.result.indent ≡ least_of (drop (c.args.i + 1) B) = ap (λ e. e.indent) c.block_end-extent.ensures.extent in
    let whole : c.block_end-extent.result.end ≡ c.args.i + hanging_size X = omega (arith, end, hanging_is X, ap (λ Y. extent 1 Y) below) in
    record {
      part =
          part_bare c.args.i c.args.cut c.block_end-extent.result.end c.block_end-extent.result.indent c.min.result X c.args.bare c.if-not-bare.false
          whole (indent ∙ ap least_of below)
          (omega (arith, c.min.ensures, c.lines_end-start.ensures.end, end, ap (λ Y. extent 1 Y) below, ap (λ Y. lines_while Blank Y) below));
      looked = search (arith, looked_hanging X (omega (arith, length-drop c.args.i B)), ap (λ Y. looked 1 Y) below, blank_below (drop (c.args.i + 1) B), looked_is 1 (drop (c.args.i + 1) B), hanging_is X, ap (λ Y. extent 1 Y) below);
    }
