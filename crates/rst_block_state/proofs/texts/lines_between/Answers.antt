use Rattle.std.proofs.Common.{◌+◌, ◌-◌, drop, take, length, ap, ◌∙◌, arith}
use Rattle.rst_text.specs.ViewBlock.{block_of}
use Rattle.rst_text.proofs.CutLaws.{length-cut}
use Rattle.rst_text.proofs.Indented.{is_indented-zero}
use Rattle.rst_block_state.proofs.Spelling.{uncut_block, lines_there}
use Rattle.rst_block_state.proofs.texts.lines_between.Goals as goal

pub part-requires-clause-spaces : goal.part-requires-clause-spaces
part-requires-clause-spaces c =
    is_indented-zero (take (c.min-to.result - (c.min-from.result + 1)) (drop (c.min-from.result + 1) (block_of c.args.view.now)))

pub returns-clause-lines : goal.returns-clause-lines
returns-clause-lines c =
    let B = block_of c.args.view.now in
    c.part.ensures.block
    ∙ uncut_block (take (c.min-to.result - c.min-from.result) (drop c.min-from.result B))
    ∙ lines_there B c.args.from c.args.to c.min-from.result c.min-to.result (omega (arith, c.min-to.ensures, c.len.ensures)) c.min-from.ensures

pub returns-clause-few : goal.returns-clause-few
returns-clause-few c =
    let is = ap length c.part.ensures.block ∙ length-cut (block_of c.args.view.now) c.min-from.result c.min-to.result 0 0 (omega (arith, c.min-to.ensures, c.len.ensures)) in
    omega (arith, is, c.min-to.ensures, c.min-from.ensures)
