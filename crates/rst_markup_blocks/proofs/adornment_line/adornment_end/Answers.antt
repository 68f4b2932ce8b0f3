use Rattle.std.proofs.Common.{Bool, ◌≡◌, ℕ, ◌≤◌, Some, None, length, drop, length-drop, ap, sym, ◌∙◌, arith, subst}
use Rattle.std.specs.Prelude.{Option, unwrap_or}
use Rattle.rst_text.specs.Block.{Block, first_text}
use Rattle.rst_text.specs.Reach.{reach}
use Rattle.rst_text.specs.ViewBlock.{block_of}
use Rattle.rst_markup_lines.specs.Adornment.{adornment_of}
use Rattle.rst_markup_lines.specs.declared.adornment.Adornment.{Adornment}
use Rattle.rst_markup_blocks.specs.Conditions.{next_text}
use Rattle.rst_markup_blocks.specs.Forms.{adorned_form}
use Rattle.rst_markup_blocks.specs.Sizes.{fixed_size, third_text, adornment_size, text_size}
use Rattle.rst_markup_blocks.proofs.AdornmentLaws.{SizeWithin, form_sizes, adornment_is}
use Rattle.rst_markup_blocks.proofs.adornment_line.adornment_end.Goals as goal

-- how many lines a form with a fixed size has
sized : (titles : Bool) (X : Block) (mark : Adornment) (n : ℕ) → 1 ≤ length X → adornment_of (first_text X) ≡ Some mark → fixed_size (adorned_form titles mark (next_text X) (third_text X)) ≡ Some n
    → (adornment_size titles X ≡ n) × (1 ≤ n) × (n ≤ length X)
sized titles X mark n some e f =
    let P : Option ℕ → Type 0 = SizeWithin (length X) in
    let within : (1 ≤ n) × (n ≤ length X) = subst P f (form_sizes titles mark X some) in
    (adornment_is titles X mark e ∙ ap (λ o. unwrap_or o (text_size X)) f, within.0, within.1)

pub overflow_add-result : goal.overflow_add-result
overflow_add-result c =
    let B : Block = block_of c.args.view.now in
    let s = sized c.args.titles (drop c.args.i B) c.in-Some.mark c.in-Some-fixed_size.n (omega (arith, length-drop c.args.i B)) (ap adornment_of (sym c.line-text.ensures.text) ∙ sym c.adornment_of.ensures ∙ c.in-Some.is)
    (ap fixed_size (sym c.adorned_at-form.ensures.form) ∙ sym c.fixed_size.ensures ∙ c.in-Some-fixed_size.is) in
    omega (arith, s.2, length-drop c.args.i B)

pub returns-in-Some-fixed_size : goal.returns-in-Some-fixed_size
returns-in-Some-fixed_size c =
    let B : Block = block_of c.args.view.now in
    let s = sized c.args.titles (drop c.args.i B) c.in-Some.mark c.in-Some-fixed_size.n (omega (arith, length-drop c.args.i B)) (ap adornment_of (sym c.line-text.ensures.text) ∙ sym c.adornment_of.ensures ∙ c.in-Some.is)
    (ap fixed_size (sym c.adorned_at-form.ensures.form) ∙ sym c.fixed_size.ensures ∙ c.in-Some-fixed_size.is) in
    search (arith, ap (λ n. reach n (drop c.args.i B)) s.0, s.1)

pub returns-in-None : goal.returns-in-None
returns-in-None c =
    let B : Block = block_of c.args.view.now in
    let X : Block = drop c.args.i B in
    let e : adornment_of (first_text X) ≡ Some c.in-Some.mark = ap adornment_of (sym c.line-text.ensures.text) ∙ sym c.adornment_of.ensures ∙ c.in-Some.is in
    let f : fixed_size (adorned_form c.args.titles c.in-Some.mark (next_text X) (third_text X)) ≡ None = ap fixed_size (sym c.adorned_at-form.ensures.form) ∙ sym c.fixed_size.ensures ∙ c.in-None.is in
    let size : adornment_size c.args.titles X ≡ text_size X = adornment_is c.args.titles X c.in-Some.mark e ∙ ap (λ o. unwrap_or o (text_size X)) f in
    search (arith, ap (λ n. reach n X) size)
