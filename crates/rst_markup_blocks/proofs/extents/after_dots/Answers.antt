use Rattle.std.proofs.Common.{◌≡◌, ◌∙◌, false, sym, ap, drop, arith}
use Rattle.rst_text.specs.Block.{Block, is_blank}
use Rattle.rst_text.specs.Reach.{reach}
use Rattle.rst_text.specs.ViewBlock.{block_of}
use Rattle.rst_markup_blocks.specs.Conditions.{next_text}
use Rattle.rst_markup_blocks.proofs.EndLemmas.{hanging_some}
use Rattle.rst_markup_blocks.proofs.ExplicitLemmas.{alone_size}
use Rattle.rst_markup_blocks.proofs.extents.after_dots.Goals as goal

pub returns-then-marker-clause-looked : goal.returns-then-marker-clause-looked
returns-then-marker-clause-looked c =
    let X : Block = drop c.args.i (block_of c.args.view.now) in
    let e : is_blank (next_text X) ≡ false = ap is_blank (sym c.below_text.ensures.text) ∙ sym c.is_blank.ensures ∙ c.if-is_blank.false in
    let size = alone_size c.args.marker X c.if-marker.true e in
    search (arith, hanging_some X, size, ap (λ k. reach k X) size)
