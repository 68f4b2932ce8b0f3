use Rattle.std.proofs.Common.{◌≡◌, ◌∙◌, ap, sym, subst, encode_utf8_all}
use Rattle.std.proofs.lemmas.Str.{IsUtf8-string_bytes}
use Rattle.std.specs.Str.{chars, IsAscii}
use Rattle.unicode_normalization.specs.Forms.{nfkd}
use Rattle.rst_text.specs.Names.{identifier_of, name_of}
use Rattle.rst_text.proofs.Ids.{chars-made, id_of-decomposed, nfkd-ascii}
use Rattle.rst_text.proofs.names.id_of.Goals as goal

pub returns-then-is_ascii : goal.returns-then-is_ascii
returns-then-is_ascii c =
    let name : chars c.as_str-then-is_ascii.result.now ≡ name_of (chars c.args.text.now) = ap chars c.as_str-then-is_ascii.ensures.value ∙ c.in_ok-name.ensures in
    let plain : IsAscii c.as_str-then-is_ascii.result.now = subst IsAscii (c.as_str.ensures.value ∙ sym c.as_str-then-is_ascii.ensures.value) c.if-is_ascii.ensures.cases in
    let decomposed : chars c.as_str-then-is_ascii.result.now ≡ nfkd (name_of (chars c.args.text.now)) = sym (nfkd-ascii c.as_str-then-is_ascii.result.now plain) ∙ ap nfkd name in
    chars-made _ _ (IsUtf8-string_bytes c.in_ok-identifier_of.field-0) (c.in_ok-identifier_of.ensures ∙ ap (λ cs. encode_utf8_all (identifier_of cs)) decomposed) ∙ sym (id_of-decomposed (chars c.args.text.now))

pub returns : goal.returns
returns c =
    let name : chars c.as_str-2.result.now ≡ name_of (chars c.args.text.now) = ap chars c.as_str-2.ensures.value ∙ c.in_ok-name.ensures in
    let decomposed : chars c.as_str-3.result.now ≡ nfkd (name_of (chars c.args.text.now)) =
    chars-made _ _ c.as_str-3.utf8 (c.as_str-3.ensures.value ∙ c.in_ok-decomposed.ensures ∙ ap (λ cs. encode_utf8_all (nfkd cs)) name) in
    chars-made _ _ (IsUtf8-string_bytes c.in_ok-identifier_of-2.field-0) (c.in_ok-identifier_of-2.ensures ∙ ap (λ cs. encode_utf8_all (identifier_of cs)) decomposed) ∙ sym (id_of-decomposed (chars c.args.text.now))
