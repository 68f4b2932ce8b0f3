use Rattle.std.proofs.Common.{◌≡◌, ◌+◌, ◌∙◌, ◌<◌, length, drop, sym, ap, arith}
use Rattle.rst_text.specs.Block.{Block, first_number}
use Rattle.rst_text.proofs.SpreadLemmas.{length-kept_lines, number-kept_lines}
use Rattle.rst_text.proofs.lines.Lines.number.Goals as goal

pub overflow_add-result : goal.overflow_add-result
overflow_add-result c =
    let size : length c.args.self.now ≡ c.self.inside.count = sym (ap length c.self.view_is) ∙ length-kept_lines c.self.inside.parts _ _ _ _ c.self.invariant.kept_so in
    omega (arith, c.self.invariant.numbers, c.requires)

pub returns : goal.returns
returns c = λ k low.
    let size : length c.args.self.now ≡ c.self.inside.count = sym (ap length c.self.view_is) ∙ length-kept_lines c.self.inside.parts _ _ _ _ c.self.invariant.kept_so in
    let within : k < c.self.inside.count = omega (arith, c.requires) in
    let at : first_number (drop k c.args.self.now) ≡ c.self.inside.first + k = sym (ap (λ (B : Block). first_number (drop k B)) c.self.view_is) ∙ number-kept_lines c.self.inside.parts _ _ k _ _ c.self.invariant.kept_so within in
    omega arith
