use Rattle.std.proofs.Common.{◌∙◌, sym, ap, arith, length}
use Rattle.std.proofs.lemmas.List.{length-take-le}
use Rattle.rst_markup_lines.proofs.RomanLemmas.{letters_in, read_by}
use Rattle.rst_markup_lines.proofs.roman.roman.Goals as goal

pub slice_bounds-letters-end : goal.slice_bounds-letters-end
slice_bounds-letters-end c =
    let within = (letters_in c.args.text.now c.args.len c.utf8.text c.requires).1 in
    sym (length-take-le c.args.len c.as_bytes.result.now (omega (arith, within, ap length c.as_bytes.ensures.value)))

pub returns-then-not-is_empty : goal.returns-then-not-is_empty
returns-then-not-is_empty c =
    read_by c.args.case c.args.text.now _ _ _ _ _ c.args.len _ _ _ _ c.utf8.text c.requires c.as_bytes.ensures.value c.digit_at-thousands.ensures.digit
    c.digit_at-hundreds.ensures.digit c.digit_at-tens.ensures.digit c.digit_at-ones.ensures.digit _ (sym c.is_empty.ensures ∙ c.if-not-is_empty.true)

pub returns : goal.returns
returns c =
    read_by c.args.case c.args.text.now _ _ _ _ _ c.args.len _ _ _ _ c.utf8.text c.requires c.as_bytes.ensures.value c.digit_at-thousands.ensures.digit
    c.digit_at-hundreds.ensures.digit c.digit_at-tens.ensures.digit c.digit_at-ones.ensures.digit _ (sym c.is_empty.ensures ∙ c.if-not-is_empty.false)
