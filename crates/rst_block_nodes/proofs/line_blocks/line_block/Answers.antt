use Rattle.std.proofs.Common.{◌≡◌, ◌-◌, suc, arith, subst, ◌∙◌}
use Rattle.std.proofs.lemmas.Grind.{common_steps}
use Rattle.rst_block_nodes.specs.LineBlocks.{indented, line_block, MakesLineBlock}
use Rattle.rst_block_nodes.proofs.line_blocks.line_block.Goals as goal

pub returns : goal.returns
returns c =
    let levels : suc (c.args.deepest - c.args.level) ≡ suc c.args.deepest - c.args.level = omega arith in
    let made : c.loop-bar.texts.items ≡ indented c.args.lines.items = grind (arith, common_steps) in
    subst (λ n. MakesLineBlock (line_block n (indented c.args.lines.items) c.args.numbers.now) c.block_of.new.numbers c.block_of.result) levels
    (subst (λ ls. MakesLineBlock (line_block (suc (c.args.deepest - c.args.level)) ls c.args.numbers.now) c.block_of.new.numbers c.block_of.result) (c.deref-2.ensures.value ∙ made) c.block_of.ensures)
