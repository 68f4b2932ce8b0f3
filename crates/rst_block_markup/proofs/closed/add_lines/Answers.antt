use Rattle.std.proofs.Common.{◌++◌, ◌+◌, List, take, arith, rules, sym, subst, append-nil}
use Rattle.rst_text.specs.Block.{Block}
use Rattle.rst_text.specs.ViewBlock.{block_of}
use Rattle.rst_block_nodes.specs.declared.line_blocks.BarText.{BarText}
use Rattle.rst_block_markup.specs.MarkupSteps.{AreVerse}
use Rattle.rst_block_markup.proofs.VerseLemmas.{verse_step}
use Rattle.rst_block_markup.proofs.closed.add_lines.Goals as goal

pub loop-at-init : goal.loop-at-init
loop-at-init c = record {
  verse = λ B h. subst (AreVerse c.args.lines.now.items) (sym (append-nil B)) h;
  looked = search rules;
}

pub loop-at-preserved : goal.loop-at-preserved
loop-at-preserved c =
    let X : Block = block_of c.args.view.now in
    record {
      verse = λ B h. subst (λ (xs : List BarText). AreVerse xs (B ++ take (c.loop-at.at + 1) X)) (sym c.in_ok-push.ensures.items)
          (verse_step c.loop-at.lines.items B X c.loop-at.at c.in_ok-line_of_text.field-0 (omega arith) (c.loop-at.invariant.verse B h) c.in_ok-line_of_text.ensures.line);
      looked = search (arith, c.line_of_text.ensures.looked);
    }
