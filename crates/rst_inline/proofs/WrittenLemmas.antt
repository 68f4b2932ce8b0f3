-- Parts of a text, which are cut out of its bytes.
use Rattle.std.proofs.Common.{◌≡◌, ⊎_elim, ℕ, zero, suc, ◌+◌, ◌-◌, ◌<◌, ◌≤◌, ◌==◌, true, false, List, [], ◌∷◌, ◌++◌, length, take, drop, get_or, refl, sym, ap, ◌∙◌, subst, arith}
use Rattle.std.specs.Str.{IsAscii, IsUtf8, IsCharBoundary, chars}
use Rattle.std.proofs.Math.Utf8.{scalars, encode, encodes}
use Rattle.std.proofs.Math.Nat.{min-le_left}
use Rattle.std.proofs.lemmas.Bool.{cases_lt, ne_eqb, or_parts}
use Rattle.std.proofs.lemmas.List.{append_assoc, append-nil, length-append, length-take, length-take-le, take-append-drop, take-append-le, take-take, take_all, drop-append-le, drop-take, drop_all, get_or-take, get_or_past}
use Rattle.std.proofs.lemmas.Str.{length-encode, len_utf8_bounds, chars-nil, chars_past_char, encode_ascii, encodes-append, encodes-IsAscii, encodes-chars, chars-encodes, IsCharBoundary-from_drop}
use Rattle.std.proofs.lemmas.List.Folds.{list_any-append}
use Rattle.rst_text.proofs.Cuts.{scalars-drop, scalars-take}
use Rattle.rst_text.proofs.LineTexts.{none-parts}
use Rattle.rst_text.proofs.Scanning.{past_char}
use Rattle.rst_text.specs.Characters.{Text}
use Rattle.rst_text.specs.Escapes.{has_backslash}
use Rattle.rst_inline.specs.Parts.{part, starts_of}

-- ---- the byte at which a character begins

-- how many bytes the first characters take
abbrev pub Byte : Text → ℕ → ℕ
Byte t i = length (encodes (take i t))

starts-at : (at : ℕ) (cs : Text) (i d : ℕ) → i ≤ length cs → get_or (starts_of at cs) i d ≡ at + Byte cs i
starts-at at [] zero d within = omega arith
starts-at at [] (suc i) d within = absurd (omega arith)
starts-at at (c ∷ cs) zero d within = omega arith
starts-at at (c ∷ cs) (suc i) d within = omega (arith, starts-at (at + length (encode c)) cs i d (omega arith), length-append (encode c) (encodes (take i cs)))

pub length-starts : (at : ℕ) (cs : Text) → length (starts_of at cs) ≡ length cs + 1
length-starts at [] = refl
length-starts at (c ∷ cs) = omega (arith, length-starts (at + length (encode c)) cs)

ascii-take : (t : Text) (i : ℕ) → IsAscii t → IsAscii (take i t)
ascii-take t i ascii k = ⊎_elim
    (λ inside. subst (λ c. c < 128) (sym (get_or-take i t k 0 inside)) (ascii k))
    (λ past. let none : get_or (take i t) k 0 ≡ 0 = get_or_past (take i t) k 0 (omega (arith, length-take i t, min-le_left i (length t))) in omega arith)
    (cases_lt k i)

-- where each character is a byte
pub byte-ascii : (t : Text) (i : ℕ) → IsAscii t → i ≤ length t → i ≡ Byte t i
byte-ascii t i ascii within = sym (ap length (encodes-IsAscii (take i t) (ascii-take t i ascii)) ∙ length-take-le i t within)

pub byte-start : (t : Text) (starts : List ℕ) (i d : ℕ) → starts ≡ starts_of 0 t → i ≤ length t → get_or starts i d ≡ Byte t i
byte-start t starts i d is within = omega (arith, ap (λ (ss : List ℕ). get_or ss i d) is, starts-at 0 t i d within)

pub start-within : (t : Text) (starts : List ℕ) (i : ℕ) → starts ≡ starts_of 0 t → i ≤ length t → i < length starts
start-within t starts i is within = omega (arith, ap length is, length-starts 0 t)

-- ---- a text read a character at a time

-- the characters that were read and where they begin, with what is left of the text and where that begins
pub record Split (text characters starts rest : List ℕ) (at : ℕ) : Type 0 where
  pub chars-read : characters ++ chars rest ≡ chars text
  pub begun : starts ++ starts_of at (chars rest) ≡ starts_of 0 (chars text)
  pub bytes : at + length rest ≡ length text
  pub utf8 : IsUtf8 rest

pub Split-start : (text characters starts rest : List ℕ) (at : ℕ) → IsUtf8 text → characters ≡ [] → starts ≡ [] → rest ≡ text → at ≡ 0 → Split text characters starts rest at
Split-start text characters starts rest at good none unbegun same first =
    rw (none, unbegun, same, first) (record { chars-read = refl; begun = refl; bytes = omega arith; utf8 = good })

pub Split-next : (text characters starts rest after : List ℕ) (at c : ℕ) → Split text characters starts rest at → rest ≡ encode c ++ after
    → Split text (characters ++ c ∷ []) (starts ++ at ∷ []) after (at + length (encode c))
Split-next text characters starts rest after at c h e =
    let one = chars_past_char rest after c h.utf8 e in
    record {
      chars-read = append_assoc characters (c ∷ []) (chars after) ∙ sym (ap (λ cs. characters ++ cs) one) ∙ h.chars-read;
      begun = append_assoc starts (at ∷ []) (starts_of (at + length (encode c)) (chars after)) ∙ sym (ap (λ cs. starts ++ starts_of at cs) one) ∙ h.begun;
      bytes = omega (arith, h.bytes, ap length e, length-append (encode c) after);
      utf8 = (past_char rest after c h.utf8 e).1;
    }

-- a character takes a byte at least
pub shorter : (rest after : List ℕ) (c : ℕ) → rest ≡ encode c ++ after → length after < length rest
shorter rest after c e = omega (arith, ap length e, length-append (encode c) after, length-encode c, (len_utf8_bounds c).0)

pub Split-characters : (text characters starts rest : List ℕ) (at : ℕ) → Split text characters starts rest at → length rest ≡ 0 → characters ≡ chars text
Split-characters text characters starts [] at h none = sym (append-nil characters) ∙ ap (λ cs. characters ++ cs) (sym chars-nil) ∙ h.chars-read
Split-characters text characters starts (b ∷ rest) at h none = absurd (omega arith)

pub Split-starts : (text characters starts rest : List ℕ) (at : ℕ) → Split text characters starts rest at → length rest ≡ 0 → starts ++ length text ∷ [] ≡ starts_of 0 (chars text)
Split-starts text characters starts [] at h none =
    let end : length text ≡ at = omega (arith, h.bytes) in
    ap (λ n. starts ++ n ∷ []) end ∙ ap (λ cs. starts ++ starts_of at cs) (sym chars-nil) ∙ h.begun
Split-starts text characters starts (b ∷ rest) at h none = absurd (omega arith)

-- ---- the bytes of a part

split : (t : Text) (i : ℕ) → encodes t ≡ encodes (take i t) ++ encodes (drop i t)
split t i = ap encodes (sym (take-append-drop i t)) ∙ encodes-append (take i t) (drop i t)

drop-bytes : (t : Text) (i : ℕ) → drop (Byte t i) (encodes t) ≡ encodes (drop i t)
drop-bytes t i =
    let prefix = encodes (take i t) in
    ap (drop (Byte t i)) (split t i) ∙ drop-append-le (Byte t i) prefix (encodes (drop i t)) (omega arith) ∙ ap (λ bs. bs ++ encodes (drop i t)) (drop_all (Byte t i) prefix (omega arith))

take-bytes : (t : Text) (i : ℕ) → take (Byte t i) (encodes t) ≡ encodes (take i t)
take-bytes t i =
    let prefix = encodes (take i t) in
    ap (take (Byte t i)) (split t i) ∙ take-append-le (Byte t i) prefix (encodes (drop i t)) (omega arith) ∙ take_all (Byte t i) prefix (omega arith)

-- the first characters of the first characters
byte-take : (t : Text) (low high : ℕ) → low ≤ high → Byte (take high t) low ≡ Byte t low
byte-take t low high order = ap (λ cs. length (encodes cs)) (take-take low high t order)

pub byte-order : (t : Text) (low high : ℕ) → low ≤ high → Byte t low ≤ Byte t high
byte-order t low high order =
    omega (arith, byte-take t low high order, ap length (split (take high t) low), length-append (encodes (take low (take high t))) (encodes (drop low (take high t))))

pub byte-within : (t : Text) (i : ℕ) → Byte t i ≤ length (encodes t)
byte-within t i = omega (arith, ap length (split t i), length-append (encodes (take i t)) (encodes (drop i t)))

part-bytes : (t : Text) (low high : ℕ) → low ≤ high → take (Byte t high - Byte t low) (drop (Byte t low) (encodes t)) ≡ encodes (drop low (take high t))
part-bytes t low high order =
    let e : Byte t low + (Byte t high - Byte t low) ≡ Byte t high = omega (arith, byte-order t low high order) in
    sym (drop-take (Byte t low) (Byte t high - Byte t low) (encodes t)) ∙ ap (λ n. drop (Byte t low) (take n (encodes t))) e
    ∙ ap (drop (Byte t low)) (take-bytes t high) ∙ ap (λ n. drop n (encodes (take high t))) (sym (byte-take t low high order)) ∙ drop-bytes (take high t) low

-- what the bytes between two characters spell
pub chars-part : (t : Text) (low high : ℕ) → scalars t ≡ true → low ≤ high → chars (take (Byte t high - Byte t low) (drop (Byte t low) (encodes t))) ≡ drop low (take high t)
chars-part t low high known order =
    ap chars (part-bytes t low high order) ∙ chars-encodes (drop low (take high t)) (scalars-drop low (take high t) (scalars-take high t known))

-- a character begins there
pub byte-boundary : (t : Text) (i : ℕ) → scalars t ≡ true → IsCharBoundary (encodes t) (Byte t i)
byte-boundary t i known = IsCharBoundary-from_drop (encodes t) (Byte t i) (byte-within t i) (drop i t, (scalars-drop i t known, sym (drop-bytes t i)))

-- ---- a text is without a backslash whose bytes are

plain-append : (xs ys : Text) → has_backslash (xs ++ ys) ≡ false → has_backslash ys ≡ false
plain-append xs ys h = (or_parts (has_backslash xs) (has_backslash ys) (sym (list_any-append (λ c. c == 92) xs ys) ∙ h)).1

plain-encoded : (cs : Text) → has_backslash (encodes cs) ≡ false → has_backslash cs ≡ false
plain-encoded [] h = refl
plain-encoded (c ∷ cs) h =
    let first : (c == 92) ≡ false = ⊎_elim
    (λ low. (or_parts (c == 92) (has_backslash (encodes cs)) (subst (λ bs. has_backslash (bs ++ encodes cs) ≡ false) (encode_ascii c low) h)).0)
    (λ high. ne_eqb c 92 (λ is. omega arith))
    (cases_lt c 128) in
    rw first (plain-encoded cs (plain-append (encode c) (encodes cs) h))

pub plain-chars : (bs : List ℕ) → IsUtf8 bs → has_backslash bs ≡ false → has_backslash (chars bs) ≡ false
plain-chars bs utf8 h = plain-encoded (chars bs) (subst (λ t. has_backslash t ≡ false) (sym (encodes-chars bs utf8)) h)

pub plain-part : (t : Text) (low high : ℕ) → has_backslash t ≡ false → has_backslash (part t low high) ≡ false
plain-part t low high h = (none-parts (λ c. c == 92) low (take high t) (none-parts (λ c. c == 92) high t h).0).1
