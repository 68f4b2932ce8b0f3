-- The characters at the front of a text, counted or skipped one at a time.
use Rattle.std.proofs.Common.{◌≡◌, ℕ, suc, ◌+◌, ◌≤◌, ◌==◌, false, inl, inr, List, [], ◌++◌, append_assoc, length, drop, refl, sym, ap, ◌∙◌, arith, length-append}
use Rattle.std.specs.Str.{IsUtf8, chars}
use Rattle.std.proofs.Math.Utf8.{encode, encodes}
use Rattle.std.proofs.lemmas.Str.{encodes-chars, chars-nil, chars_past_char, length-encode, len_utf8_bounds}
use Rattle.std.proofs.lemmas.Bool.{ne_eqb, cases_lt}
use Rattle.std.proofs.lemmas.List.{nil_from_length}
use Rattle.rst_text.specs.Block.{indentation}
use Rattle.rst_text.proofs.Scanning.{past_char}

pub no_chars : (rest : List ℕ) → length rest ≡ 0 → chars rest ≡ []
no_chars rest h = ap chars (nil_from_length rest h) ∙ chars-nil

-- n characters are counted, and those of `rest` are left
pub record Counts (text rest : List ℕ) (n : ℕ) : Type 0 where
  pub value : n + indentation (chars rest) ≡ indentation (chars text)
  pub utf8 : IsUtf8 rest
  pub within : n + length rest ≤ length text

pub Counts-step : (text rest after : List ℕ) (n c : ℕ) → Counts text rest n → rest ≡ encode c ++ after → c ≡ 32 → Counts text after (n + 1)
Counts-step text rest after n c s e space = record {
  value = (let one : indentation (chars rest) ≡ suc (indentation (chars after)) = ap indentation (chars_past_char rest after c s.utf8 e) ∙ rw space refl in omega (arith, s.value));
  utf8 = (past_char rest after c s.utf8 e).1;
  within = omega (arith, s.within, ap length e, length-append (encode c) after, length-encode c, len_utf8_bounds c);
}

pub Counts-over : (text rest after : List ℕ) (n c : ℕ) → Counts text rest n → rest ≡ encode c ++ after → (c ≡ 32 → ⊥) → n ≡ indentation (chars text)
Counts-over text rest after n c s e dark =
    let none : indentation (chars rest) ≡ 0 = ap indentation (chars_past_char rest after c s.utf8 e) ∙ (let d : (c == 32) ≡ false = ne_eqb c 32 dark in rw d refl) in omega (arith, s.value)

pub Counts-end : (text rest : List ℕ) (n : ℕ) → Counts text rest n → length rest ≡ 0 → n ≡ indentation (chars text)
Counts-end text rest n s e =
    let none : indentation (chars rest) ≡ 0 = ap indentation (no_chars rest e) in omega (arith, s.value)

-- n characters are still to be skipped, and those of `rest` are left
pub record Skips (text rest : List ℕ) (left all : ℕ) : Type 0 where
  pub value : drop left (chars rest) ≡ drop all (chars text)
  pub utf8 : IsUtf8 rest
  pub suffix : (prefix : List ℕ) × (text ≡ prefix ++ rest)

pub Skips-step : (text rest after : List ℕ) (left next n c : ℕ) → Skips text rest left n → rest ≡ encode c ++ after → left ≡ suc next → Skips text after next n
Skips-step text rest after left next n c s e more =
    let v : drop left (chars rest) ≡ drop next (chars after) = rw (chars_past_char rest after c s.utf8 e, more) refl in
    record { value = sym v ∙ s.value; utf8 = (past_char rest after c s.utf8 e).1; suffix = (s.suffix.0 ++ encode c, s.suffix.1 ∙ ap (λ l. s.suffix.0 ++ l) e ∙ sym (append_assoc s.suffix.0 (encode c) after)) }

-- a text is empty just where it has no characters
pub empty_chars : (text prefix : List ℕ) → chars text ≡ prefix → length text ≡ 0 → length prefix ≡ 0
empty_chars text prefix e h = omega (arith, ap length (no_chars text h), ap length e)

pub some_chars : (text prefix : List ℕ) → IsUtf8 text → chars text ≡ prefix → 1 ≤ length text → 1 ≤ length prefix
some_chars text prefix good e h = elim (cases_lt 0 (length prefix)) [
  | inl some ↦ some
  | inr none ↦ absurd (let empty : text ≡ [] = sym (encodes-chars text good) ∙ ap encodes (e ∙ nil_from_length prefix (omega arith)) in omega (arith, ap length empty))
]
