-- The URIs of e-mail addresses.
use Rattle.std.proofs.Common.{◌≡◌, ℕ, List, ◌++◌, false, None, refl, sym, ap, ◌∙◌}
use Rattle.std.specs.Prelude.{codes, string_bytes}
use Rattle.std.specs.declared.string.String.{String}
use Rattle.std.specs.Str.{chars, IsUtf8}
use Rattle.std.proofs.Math.Utf8.{encodes}
use Rattle.std.proofs.lemmas.Str.{chars_from_encodes, encodes-chars, IsUtf8-string_bytes}
use Rattle.rst_text.specs.Characters.{Text}
use Rattle.rst_inline_scan.specs.Mail.{holds_at_sign}
use Rattle.rst_inline_scan.proofs.MailLemmas.{absent-chars, no-whole}
use Rattle.rst_inline.specs.Mail.{uri_of_address, mailto}

-- the bytes of the URI of an address are its scheme's and the address's
scheme-encoded : (cs : Text) → encodes (uri_of_address cs) ≡ codes "mailto:" ++ encodes cs
unfolding lib.Utf8.encode
scheme-encoded cs = refl

pub scheme-chars : {A : Type 0} (s : String A) (bs : List ℕ) → IsUtf8 bs → string_bytes s ≡ codes "mailto:" ++ bs → chars (string_bytes s) ≡ uri_of_address (chars bs)
scheme-chars s bs utf8 h =
    sym (chars_from_encodes (uri_of_address (chars bs)) (string_bytes s) (IsUtf8-string_bytes s)
    (scheme-encoded (chars bs) ∙ ap (λ bs. codes "mailto:" ++ bs) (encodes-chars bs utf8) ∙ sym h))

-- a text whose bytes hold no @ is no address
pub no-mailto : (bs : List ℕ) → IsUtf8 bs → holds_at_sign bs ≡ false → mailto (chars bs) ≡ None
no-mailto bs utf8 h = rw (no-whole (chars bs) (absent-chars bs utf8 h)) refl
