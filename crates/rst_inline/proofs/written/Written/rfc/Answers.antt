use Rattle.std.proofs.Common.{◌≡◌, ◌∙◌, ◌++◌, ◌==◌, IfOk, codes, length, take, drop, sym, ap, ap₂, subst}
use Rattle.std.specs.List.{list_all}
use Rattle.std.specs.Str.{chars}
use Rattle.rst_text.specs.Characters.{Text}
use Rattle.rst_text.specs.Escapes.{unescaped}
use Rattle.rst_inline.specs.Elements.{is_digit}
use Rattle.rst_inline.specs.Numbers.{fragment, fragment_start, rfc_number, rfc_uri, without_zeros, wrong_number}
use Rattle.rst_inline.specs.Parts.{content, source, text_bytes}
use Rattle.rst_inline.proofs.NumberLemmas.{linked, rfc-is, rfc-shown}
use Rattle.rst_inline.proofs.written.Written.rfc.Goals as goal

pub returns : goal.returns
returns c =
    let w = c.args.self.now in
    let t = unescaped (content w.characters.items c.args.piece) in
    let text = c.as_slice-text.ensures.value ∙ c.in_ok-text.ensures in
    let start = c.fragment_start.ensures.value ∙ ap fragment_start text in
    let digits = c.without_zeros-digits.ensures ∙ ap without_zeros (c.split_at.ensures.front ∙ ap₂ (λ n (t : Text). take n t) start text) in
    let rest : c.split_at.result.1.now ≡ fragment t = c.split_at.ensures.back ∙ ap₂ (λ n (t : Text). drop n t) start text in
    let some = ap (λ (d : Text). length d == 0) (sym digits) ∙ sym c.is_empty.ensures ∙ c.if-is_empty.false in
    let all = ap (list_all is_digit) (sym digits) ∙ sym c.are_digits.ensures ∙ c.if-not-are_digits.false in
    let uri = ap chars c.as_str.ensures.value ∙ c.in_ok-uri.ensures ∙ ap₂ (λ (d f : Text). codes "https://tools.ietf.org/html/rfc" ++ d ++ codes ".html" ++ f) digits rest in
    let shown = ap chars c.as_str-2.ensures.value ∙ rfc-shown c.in_ok-display_text.display_text _ (rfc_number t) c.in_ok-display_text.ensures.ok (c.in_ok-number.ensures.bytes ∙ ap text_bytes digits) in
    let wrong = wrong_number (codes "RFC number must be a number greater than or equal to 1") t in
    let meaning = linked (source w.characters.items c.args.piece) _ _ (rfc_uri t) (codes "RFC " ++ rfc_number t) w.line _ wrong (rfc-is t some all) uri shown in
    subst (λ m. IfOk c.link.result (λ reading. reading ≡ m)) meaning c.link.ensures
