use Rattle.std.proofs.Common.{◌∙◌, sym, ap, Some, subst}
use Rattle.std.specs.Str.{chars, IsUtf8}
use Rattle.rst_text.proofs.TextLemmas.{text_of_none, text_of_some, chars-stripped}
use Rattle.rst_text.specs.Text.{without_mark}
use Rattle.rst_text.proofs.decoding.text_in.Goals as goal

pub returns-in-Err : goal.returns-in-Err
returns-in-Err c = (text_of_none _ c.in-Err.ensures.cases.0, c.valid_up_to.ensures ∙ c.in-Err.ensures.valid_len)

pub returns-in-Ok : goal.returns-in-Ok
returns-in-Ok c =
    let good = c.in-Ok.ensures.cases.1 in
    let same = c.in-Ok.ensures.cases.0 in
    let kept = chars-stripped c.in-Ok.text c.unwrap_or.result c.strip_prefix.result (subst IsUtf8 (sym same) good) c.strip_prefix.ensures.cases c.unwrap_or.ensures in
    text_of_some _ good ∙ ap Some (sym (ap (λ bs. without_mark (chars bs)) same) ∙ sym kept)
