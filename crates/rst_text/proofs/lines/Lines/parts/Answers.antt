use Rattle.std.proofs.Common.{◌≡◌, ◌∙◌, length, drop, sym, ap, arith}
use Rattle.rst_text.specs.Block.{Block, first_parts}
use Rattle.rst_text.proofs.SpreadLemmas.{length-kept_lines, parts-kept_lines}
use Rattle.rst_text.proofs.lines.Lines.parts.Goals as goal

pub returns : goal.returns
returns c = λ k within.
    let l = c.self.inside in
    let size : length c.args.self.now ≡ l.count = sym (ap length c.self.view_is) ∙ length-kept_lines l.parts _ _ _ _ c.self.invariant.kept_so in
    sym (parts-kept_lines l.parts _ _ k _ _ c.self.invariant.kept_so (omega arith)) ∙ ap (λ (B : Block). first_parts (drop k B)) c.self.view_is
