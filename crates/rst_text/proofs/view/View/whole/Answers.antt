use Rattle.std.proofs.Common.{◌≡◌, ◌∙◌, true, length, sym, ap, arith}
use Rattle.rst_text.specs.Lines.{are_lines}
use Rattle.rst_text.specs.MayCut.{are_texts}
use Rattle.rst_text.specs.ViewBlock.{block_of}
use Rattle.rst_text.proofs.Cuts.{whole_lines, whole_all}
use Rattle.rst_text.proofs.SpreadLemmas.{length-kept_lines}
use Rattle.rst_text.proofs.view.View.whole.Goals as goal

pub invariant_of-result : goal.invariant_of-result
invariant_of-result c =
    let holds = c.lines.invariant in
    let size : c.lines.inside.count ≡ length c.args.lines.now = sym (length-kept_lines c.lines.inside.parts _ _ _ _ holds.kept_so) ∙ ap length c.lines.view_is in
    let texts : are_texts c.args.lines.now ≡ true = sym (ap are_texts c.lines.view_is) ∙ holds.of_texts in
    record { ordered = omega arith; fits = omega arith; few = omega (arith, holds.few); may_cut = rw size (whole_all c.args.lines.now texts); of_lines = sym (ap are_lines c.lines.view_is) ∙ holds.of_lines; of_texts = texts }

pub returns : goal.returns
unfolding block_of
returns c =
    let holds = c.lines.invariant in
    let size : c.lines.inside.count ≡ length c.args.lines.now = sym (length-kept_lines c.lines.inside.parts _ _ _ _ holds.kept_so) ∙ ap length c.lines.view_is in
    let texts : are_texts c.args.lines.now ≡ true = sym (ap are_texts c.lines.view_is) ∙ holds.of_texts in
    record { block = rw size (whole_lines c.args.lines.now texts); lines = sym (ap are_lines c.lines.view_is) ∙ holds.of_lines; texts = texts }
