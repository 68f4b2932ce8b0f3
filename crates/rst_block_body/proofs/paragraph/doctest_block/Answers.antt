use Rattle.std.proofs.Common.{arith, rules, refl, ◌∙◌}
use Rattle.rst_text.specs.ViewBlock.{block_of}
use Rattle.rst_markup_blocks.specs.Sizes.{doctest_size}
use Rattle.rst_markup_blocks.specs.declared.begun.Begun.TheVariants.{Doctest}
use Rattle.rst_block_state.proofs.Changes.{moved_more}
use Rattle.rst_block_state.proofs.NextConstructs.{next_of, next_some}
use Rattle.rst_block_body.proofs.ReadLemmas.{alone_refused}
use Rattle.rst_block_body.proofs.TextsPaid.{flat_read, more_items}
use Rattle.rst_block_body.proofs.paragraph.doctest_block.Goals as goal

pub returns-in_err-close : goal.returns-in_err-close
returns-in_err-close c = alone_refused c.in_err-close.field-0.0 (next_of Doctest c.args.level.now (block_of c.args.view.now) c.requires.begun tt) tt (search rules) c.in_err-close.ensures.closed

pub returns : goal.returns
unfolding doctest_size
returns c =
    let l = c.args.level.now in
    let found = next_of Doctest l (block_of c.args.view.now) c.requires.begun tt in
    let end = c.lines_end-end.ensures in
    let at = c.go_to.ensures.there (omega (arith, end.end, c.close.ensures.at, next_some found c.requires.inside)) ∙ end.end in
    flat_read c.requires.inside found tt c.in_ok-close.ensures.closed
    (more_items _ (rw (c.in_ok-node.ensures, c.number_at.ensures, c.as_str.ensures.value, c.in_ok-text.ensures.bytes, end.end) refl) (moved_more c.go_to.ensures.moved at c.in_ok-push.ensures.more))
    (omega (arith, c.close.ensures.run, end.looks, end.end, c.source.ensures.most)) (omega (arith, c.close.ensures.low, end.looked.0, c.in_ok-text.ensures.each))
