use Rattle.std.proofs.Common.{◌∙◌, length, sym, ap}
use Rattle.rst_text.proofs.SpreadLemmas.{length-kept_lines}
use Rattle.rst_text.proofs.lines.Lines.count.Goals as goal

pub returns : goal.returns
returns c = sym (length-kept_lines c.self.inside.parts _ _ _ _ c.self.invariant.kept_so) ∙ ap length c.self.view_is
