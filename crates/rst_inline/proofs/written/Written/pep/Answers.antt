use Rattle.std.proofs.Common.{◌≡◌, ◌∙◌, ◌++◌, ◌-◌, ◌≤◌, ◌==◌, IfOk, codes, length, take, sym, ap, subst}
use Rattle.std.specs.List.{list_all}
use Rattle.std.specs.Str.{chars}
use Rattle.rst_text.specs.Characters.{Text}
use Rattle.rst_text.specs.Escapes.{unescaped}
use Rattle.rst_inline.specs.Elements.{is_digit}
use Rattle.rst_inline.specs.Numbers.{pep_uri, without_zeros, wrong_number}
use Rattle.rst_inline.specs.Parts.{content, source, text_bytes}
use Rattle.rst_inline.proofs.NumberLemmas.{linked, pep-is, pep-shown}
use Rattle.rst_inline.proofs.written.Written.pep.Goals as goal

pub returns : goal.returns
returns c =
    let w = c.args.self.now in
    let t = unescaped (content w.characters.items c.args.piece) in
    let text = c.as_slice-text.ensures.value ∙ c.in_ok-text.ensures in
    let digits = c.without_zeros-digits.ensures ∙ ap without_zeros text in
    let some = ap (λ (t : Text). length t == 0) (sym text) ∙ sym c.is_empty.ensures ∙ c.if-is_empty.false in
    let all = ap (list_all is_digit) (sym text) ∙ sym c.are_digits.ensures ∙ c.if-not-are_digits.false in
    let is = pep-is t some all (subst (λ (d : Text). length d ≤ 4) digits c.if-digits-gt4.false) in
    let uri = ap chars c.as_str.ensures.value ∙ c.in_ok-uri.ensures ∙ ap (λ (d : Text). codes "https://peps.python.org/pep-" ++ take (4 - length d) (codes "0000") ++ d) digits in
    let shown = ap chars c.as_str-2.ensures.value ∙ pep-shown c.in_ok-display_text.display_text _ t c.in_ok-display_text.ensures.ok (c.in_ok-number.ensures.bytes ∙ ap text_bytes text) in
    let meaning = linked (source w.characters.items c.args.piece) _ _ (pep_uri t) (codes "PEP " ++ t) w.line _ (wrong_number (codes "PEP number must be a number from 0 to 9999") t) is uri shown in
    subst (λ m. IfOk c.link.result (λ reading. reading ≡ m)) meaning c.link.ensures
