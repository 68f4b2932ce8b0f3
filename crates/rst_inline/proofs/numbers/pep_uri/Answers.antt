use Rattle.std.proofs.Common.{◌∙◌, ◌++◌, ◌-◌, take, length, codes, refl}
use Rattle.std.proofs.lemmas.Result.{IfOk-weaker}
use Rattle.rst_inline.proofs.TextLemmas.{chars-text_bytes, joined}
use Rattle.rst_inline.proofs.numbers.pep_uri.Goals as goal

pub returns : goal.returns
unfolding lib.Utf8.encode
returns c =
    let digits = c.args.digits.now in
    let zeros = take (4 - length digits) (codes "0000") in
    let number = joined zeros digits _ _ c.in_ok-zeros.ensures.bytes c.in_ok-digits.ensures.bytes in
    IfOk-weaker c.format.result _ _ (λ uri h. chars-text_bytes uri _ (h ∙ joined (codes "https://peps.python.org/pep-") (zeros ++ digits) _ _ refl number)) c.format.ensures.ok
