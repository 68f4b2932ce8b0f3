use Rattle.std.proofs.Common.{◌≡◌, ℕ, List, Some, true, false, drop, length-drop, ap, ap₂, sym, ◌∙◌, arith}
use Rattle.std.specs.Prelude.{Option}
use Rattle.std.specs.Str.{chars}
use Rattle.rst_text.specs.Block.{Block, first_text, is_blank}
use Rattle.rst_text.specs.ViewBlock.{block_of}
use Rattle.rst_markup_blocks.specs.Conditions.{next_text, after_text}
use Rattle.rst_markup_blocks.specs.Forms.{adorned_over}
use Rattle.rst_markup_blocks.specs.Sizes.{third_text}
use Rattle.rst_markup_blocks.proofs.AdornmentLemmas.{third_is, form_over}
use Rattle.rst_markup_blocks.proofs.LineLemmas.{drop_far}
use Rattle.rst_markup_blocks.proofs.adornment_line.adorned_at.Goals as goal

pub returns-then-len-i-gt2-clause-form : goal.returns-then-len-i-gt2-clause-form
returns-then-len-i-gt2-clause-form c =
    let B : Block = block_of c.args.view.now in
    let X : Block = drop c.args.i B in
    let third : third_text X ≡ Some (after_text X) = third_is X (omega (arith, length-drop c.args.i B)) in
    let after : chars c.line-after.result.now ≡ after_text X = c.line-after.ensures.text ∙ ap first_text (drop_far c.args.i 2 B) in
    let filled : is_blank (next_text X) ≡ false = ap is_blank (sym c.requires.next) ∙ sym c.is_blank.ensures ∙ c.if-is_blank.false in
    let titles : c.args.titles ≡ true = c.if-not-titles.false in
    c.adorned_over.ensures ∙ ap₂ (λ (n a : List ℕ). adorned_over c.args.mark n (Some a)) c.requires.next after
    ∙ ap (λ (o : Option (List ℕ)). adorned_over c.args.mark (next_text X) o) (sym third) ∙ sym (form_over c.args.titles c.args.mark (next_text X) (third_text X) titles filled)
