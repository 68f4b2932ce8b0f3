use Rattle.std.proofs.Common.{◌∙◌, ◌++◌, append_assoc, codes, refl, sym, ap}
use Rattle.std.proofs.lemmas.Result.{IfOk-weaker}
use Rattle.rst_inline.proofs.TextLemmas.{chars-text_bytes, joined}
use Rattle.rst_inline.proofs.numbers.rfc_uri.Goals as goal

pub returns : goal.returns
unfolding lib.Utf8.encode
returns c =
    let digits = c.args.digits.now in
    let fragment = c.args.fragment.now in
    let front = codes "https://tools.ietf.org/html/rfc" in
    let back = codes ".html" in
    let rest = joined digits (back ++ fragment) _ _ c.in_ok-digits.ensures.bytes (joined back fragment _ _ refl c.in_ok-fragment.ensures.bytes) in
    IfOk-weaker c.format.result _ _
    (λ uri h. chars-text_bytes uri _ (h ∙ joined front (digits ++ (back ++ fragment)) _ _ refl rest) ∙ ap (λ t. front ++ t) (sym (append_assoc digits back fragment)))
    c.format.ensures.ok
