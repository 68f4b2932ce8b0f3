use Rattle.std.proofs.Common.{◌≡◌, ◌∙◌, false, sym, ap, subst}
use Rattle.std.specs.Prelude.{encode_utf8_all}
use Rattle.std.specs.Str.{all_scalars}
use Rattle.std.proofs.lemmas.Str.{encodes-chars, scalars-chars}
use Rattle.rst_text.specs.Escapes.{has_backslash}
use Rattle.rst_inline.proofs.WrittenLemmas.{plain-chars}
use Rattle.rst_inline.proofs.written.Written.of.Goals as goal

pub invariant_of-result-clause-text_bytes : goal.invariant_of-result-clause-text_bytes
invariant_of-result-clause-text_bytes c = sym (encodes-chars c.args.text.now c.utf8.text) ∙ ap encode_utf8_all (sym c.in_ok-characters.ensures.characters)

pub invariant_of-result-clause-scalars : goal.invariant_of-result-clause-scalars
invariant_of-result-clause-scalars c = ap all_scalars c.in_ok-characters.ensures.characters ∙ scalars-chars c.args.text.now c.utf8.text

pub invariant_of-result-clause-plain : goal.invariant_of-result-clause-plain
invariant_of-result-clause-plain c none =
    let bytes = sym (ap has_backslash c.as_bytes.ensures.value) ∙ sym c.contains-escapes.ensures.value ∙ none in
    subst (λ t. has_backslash t ≡ false) (sym c.in_ok-characters.ensures.characters) (plain-chars c.args.text.now c.utf8.text bytes)
