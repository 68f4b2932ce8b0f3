use Rattle.std.proofs.Common.{◌≡◌, Some, length, arith, sym, ◌∙◌}
use Rattle.std.specs.Str.{chars}
use Rattle.rst_markup_lines.specs.OptionMarker.{option_at}
use Rattle.rst_markup_lines.proofs.OptionLemmas.{width_within, argument_len_below}
use Rattle.rst_text.proofs.LinesLemmas.{length-chars}
use Rattle.rst_markup_lines.proofs.option.option_tail.Goals as goal

pub argument_width-requires : goal.argument_width-requires
argument_width-requires c =
    let e : option_at (chars c.args.text.now) ≡ Some c.in-Some.option = sym c.option_at.ensures.value ∙ c.in-Some.is in
    let w = width_within (chars c.args.text.now) c.in-Some.option e in
    argument_len_below c.in-Some.option.argument (length (chars c.args.text.now)) _ (omega (arith, w.1)) (omega (arith, length-chars c.args.text.now c.utf8.text))

pub overflow_add-n : goal.overflow_add-n
overflow_add-n c =
    let e : option_at (chars c.args.text.now) ≡ Some c.in-Some.option = sym c.option_at.ensures.value ∙ c.in-Some.is in
    omega (arith, (width_within (chars c.args.text.now) c.in-Some.option e).1, length-chars c.args.text.now c.utf8.text, c.argument_width.ensures.value)

pub overflow_add-result : goal.overflow_add-result
overflow_add-result c =
    let e : option_at (chars c.args.text.now) ≡ Some c.in-Some.option = sym c.option_at.ensures.value ∙ c.in-Some.is in
    omega (arith, (width_within (chars c.args.text.now) c.in-Some.option e).1, length-chars c.args.text.now c.utf8.text, c.argument_width.ensures.value)
