use Rattle.std.proofs.Common.{◌∙◌, ap, length, arith}
use Rattle.rst_text.specs.ViewBlock.{block_of}
use Rattle.rst_text.proofs.CutLaws.{length-cut}
use Rattle.rst_block_state.proofs.part.inside.Goals as goal

pub returns-clause-lines : goal.returns-clause-lines
returns-clause-lines c = ap length c.part.ensures.block ∙ length-cut (block_of c.args.view.now) c.args.part.from c.args.part.to c.args.part.first_cut c.args.part.rest_cut c.requires.within

pub returns-clause-fewer : goal.returns-clause-fewer
returns-clause-fewer c =
    let is = ap length c.part.ensures.block ∙ length-cut (block_of c.args.view.now) c.args.part.from c.args.part.to c.args.part.first_cut c.args.part.rest_cut c.requires.within in
    omega (arith, is, c.requires.within)
