use Rattle.std.proofs.Common.{◌≡◌, ◌-◌, drop, length-drop, ◌∙◌, arith}
use Rattle.rst_text.specs.ViewBlock.{block_of}
use Rattle.rst_block_body.proofs.ParagraphLemmas.{one_line}
use Rattle.rst_block_body.proofs.paragraph.text_between.Goals as goal

pub returns-then-to-from-clause-text : goal.returns-then-to-from-clause-text
returns-then-to-from-clause-text c =
    let B = block_of c.args.view.now in
    let one : c.args.to - c.args.from ≡ 1 = omega (arith, c.if-to-from.true) in
    c.line.ensures.text ∙ one_line (drop c.args.from B) (c.args.to - c.args.from) (omega (arith, c.requires, length-drop c.args.from B)) one
