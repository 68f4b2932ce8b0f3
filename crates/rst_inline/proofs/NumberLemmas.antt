-- References by the number of a document.
use Rattle.std.proofs.Common.{◌≡◌, ◌≤◌, ◌==◌, ℕ, Bool, true, false, cond, List, ◌++◌, length, codes, refl, sym, ap, ap₂, ◌∙◌, arith}
use Rattle.std.specs.Prelude.{string_bytes}
use Rattle.std.specs.declared.string.String.{String}
use Rattle.std.specs.List.{list_all}
use Rattle.std.specs.Str.{chars}
use Rattle.std.proofs.lemmas.Bool.{lt-ltb, le-leb, eqb-false}
use Rattle.rst_text.specs.Characters.{Text}
use Rattle.rst_inline.specs.declared.reading.Meaning.{Meaning}
use Rattle.rst_inline.specs.declared.reading.Meaning.TheVariants.{One}
use Rattle.rst_inline.specs.Elements.{is_digit, link_node}
use Rattle.rst_inline.specs.Numbers.{is_pep, is_rfc, rfc_number, without_zeros}
use Rattle.rst_inline.specs.Parts.{text_bytes}
use Rattle.rst_inline.proofs.TextLemmas.{chars-text_bytes, joined}

-- what references to the two series show
pub pep-shown : {A : Type 0} (s : String A) (bs : List ℕ) (number : Text) → string_bytes s ≡ codes "PEP " ++ bs → bs ≡ text_bytes number → chars (string_bytes s) ≡ codes "PEP " ++ number
unfolding lib.Utf8.encode
pep-shown s bs number h e = chars-text_bytes s _ (h ∙ joined (codes "PEP ") number _ _ refl e)

pub rfc-shown : {A : Type 0} (s : String A) (bs : List ℕ) (number : Text) → string_bytes s ≡ codes "RFC " ++ bs → bs ≡ text_bytes number → chars (string_bytes s) ≡ codes "RFC " ++ number
unfolding lib.Utf8.encode
rfc-shown s bs number h e = chars-text_bytes s _ (h ∙ joined (codes "RFC ") number _ _ refl e)

pub pep-is : (t : Text) → (length t == 0) ≡ false → list_all is_digit t ≡ true → length (without_zeros t) ≤ 4 → is_pep t ≡ true
pep-is t some digits short =
    let less = lt-ltb 0 (length t) (omega (arith, eqb-false (length t) 0 some)) in
    rw (less, digits) (le-leb (length (without_zeros t)) 4 short)

pub rfc-is : (t : Text) → (length (rfc_number t) == 0) ≡ false → list_all is_digit (rfc_number t) ≡ true → is_rfc t ≡ true
rfc-is t some digits =
    let less = lt-ltb 0 (length (rfc_number t)) (omega (arith, eqb-false (length (rfc_number t)) 0 some)) in
    rw less digits

-- a text that is a number gives a reference
pub linked : (source uri shown uri′ shown′ : Text) (line : ℕ) (number : Bool) (wrong : Meaning) → number ≡ true → uri ≡ uri′ → shown ≡ shown′
    → One (link_node source uri shown line) ≡ cond number (One (link_node source uri′ shown′ line)) wrong
linked source uri shown uri′ shown′ line number wrong is first second =
    ap₂ (λ uri shown. One (link_node source uri shown line)) first second ∙ sym (ap (λ b. cond b (One (link_node source uri′ shown′ line)) wrong) is)
