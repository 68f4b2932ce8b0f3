use Rattle.std.proofs.Common.{◌∙◌}
use Rattle.rst_text.proofs.Cuts.{boundary, drop_short}
use Rattle.rst_text.proofs.text.tail.Goals as goal

pub range_from-requires : goal.range_from-requires
range_from-requires c = λ _. boundary c.args.n c.min-skip.result c.args.text.now c.requires c.min-skip.ensures

pub returns : goal.returns
returns c = c.range_from.ensures.value ∙ drop_short c.args.n c.min-skip.result c.args.text.now c.min-skip.ensures
