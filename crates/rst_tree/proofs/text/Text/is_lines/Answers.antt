use Rattle.std.proofs.Common.{◌≡◌, true, sym, ◌∙◌, ap}
use Rattle.std.specs.List.{list_all}
use Rattle.std.proofs.lemmas.List.{take_all}
use Rattle.rst_tree.specs.Tree.{is_plain_byte}
use Rattle.rst_tree.proofs.Plain.{plain_lines}
use Rattle.rst_tree.proofs.text.Text.is_lines.Goals as goal

pub returns-then-plain : goal.returns-then-plain
returns-then-plain c =
    let all = take_all _ _ c.loop-byte-test.false ∙ c.as_bytes-byte-items.ensures in
    let plain : list_all is_plain_byte c.args.self.now ≡ true = ap (list_all is_plain_byte) (sym all) ∙ sym c.loop-byte.invariant ∙ c.if-plain.true in
    c.if-plain.true ∙ sym (plain_lines c.args.self.now plain)
