-- A text that is read a character at a time.
use Rattle.std.proofs.Common.{◌≡◌, ℕ, ◌+◌, Bool, true, List, [], ◌∷◌, ◌++◌, length, take, refl, sym, ap, ◌∙◌, subst, append_assoc, append-nil, length-append}
use Rattle.std.specs.Str.{IsUtf8, chars, NonePass, IsCharBoundary}
use Rattle.std.proofs.Math.Utf8.{scalar, scalars, encode, encodes}
use Rattle.std.proofs.Math.Seq.{take-append_seam}
use Rattle.std.proofs.lemmas.Str.{encodes-append, cons_from_encodes, chars-append, chars-encodes, chars-nil, chars_past_char, IsCharBoundary-at_seam}
use Rattle.std.proofs.lemmas.Bool.{and_parts}
use Rattle.std.proofs.lemmas.List.{nil_from_length}

-- the characters that were read, and the bytes that are left, make the text
pub record Scans (text prefix rest : List ℕ) : Type 0 where
  pub bytes : text ≡ encodes prefix ++ rest
  pub utf8 : IsUtf8 rest
  pub scalar : scalars prefix ≡ true

-- what follows a character of a text, and the character itself
pub past_char : (rest after : List ℕ) (c : ℕ) → IsUtf8 rest → rest ≡ encode c ++ after → (scalar c ≡ true) × IsUtf8 after
past_char rest after c good e =
    let f = cons_from_encodes good.0 after c (good.1.1 ∙ e) in
    let s : scalars (c ∷ f.0) ≡ true = sym (ap scalars f.1) ∙ good.1.0 in
    let t = and_parts (scalar c) (scalars f.0) s in
    (t.0, (f.0, (t.1, f.2)))

pub scalars-append : (prefix more : List ℕ) → scalars prefix ≡ true → scalars more ≡ true → scalars (prefix ++ more) ≡ true
scalars-append [] more s t = t
scalars-append (d ∷ prefix) more s t =
    let h = and_parts (scalar d) (scalars prefix) s in rw (h.0) (scalars-append prefix more h.1 t)

pub Scans-step : (text prefix rest after : List ℕ) (c : ℕ) → Scans text prefix rest → rest ≡ encode c ++ after → Scans text (prefix ++ c ∷ []) after
Scans-step text prefix rest after c s e =
    let p = past_char rest after c s.utf8 e in
    record {
      bytes = s.bytes ∙ ap (λ l. encodes prefix ++ l) e ∙ sym (append_assoc (encodes prefix) (encode c) after)
          ∙ ap (λ l. (encodes prefix ++ l) ++ after) (sym (append-nil (encode c))) ∙ ap (λ l. l ++ after) (sym (encodes-append prefix (c ∷ [])));
      utf8 = p.1;
      scalar = scalars-append prefix (c ∷ []) s.scalar (rw (p.0) refl);
    }

pub NonePass-append : (p : ℕ → Bool) (prefix more : List ℕ) → NonePass p prefix → NonePass p more → NonePass p (prefix ++ more)
NonePass-append p [] more clear next = next
NonePass-append p (d ∷ prefix) more clear next = (clear.0, NonePass-append p prefix more clear.1 next)

-- the characters of the text
pub chars-scanned : (text prefix rest : List ℕ) → Scans text prefix rest → chars text ≡ prefix ++ chars rest
chars-scanned text prefix rest s =
    ap chars s.bytes ∙ chars-append (encodes prefix) rest (prefix, (s.scalar, refl)) ∙ ap (λ l. l ++ chars rest) (chars-encodes prefix s.scalar)

-- how long the parts are, with a character after the front
pub length-scanned : (text prefix rest after : List ℕ) (c : ℕ) → Scans text prefix rest → rest ≡ encode c ++ after
    → length text ≡ length (encodes prefix) + (length (encode c) + length after)
length-scanned text prefix rest after c s e =
    ap length (s.bytes ∙ ap (λ l. encodes prefix ++ l) e) ∙ length-append (encodes prefix) (encode c ++ after)
    ∙ ap (λ n. length (encodes prefix) + n) (length-append (encode c) after)

-- the front is cut out by its length
pub take-scanned : (text prefix rest : List ℕ) (n : ℕ) → Scans text prefix rest → n ≡ length (encodes prefix) → chars (take n text) ≡ prefix
take-scanned text prefix rest n s e =
    ap chars (ap (λ k. take k text) e ∙ ap (take (length (encodes prefix))) s.bytes ∙ take-append_seam (encodes prefix) rest) ∙ chars-encodes prefix s.scalar

-- the text may be cut after the front
pub IsCharBoundary-scanned : (text prefix rest : List ℕ) (n : ℕ) → Scans text prefix rest → n ≡ length (encodes prefix) → IsCharBoundary text n
IsCharBoundary-scanned text prefix rest n s e = let P : ℕ → Type 0 = λ k. IsCharBoundary text k in subst P (sym e) (IsCharBoundary-at_seam text (encodes prefix) rest s.bytes s.utf8)

-- ---- what is written of it

-- what was written, with what F makes of the characters that are left, is a whole text
pub record Writes (F : List ℕ → List ℕ) (whole out rest : List ℕ) : Type 0 where
  pub bytes : out ++ encodes (F (chars rest)) ≡ encodes whole
  pub utf8 : IsUtf8 rest

pub Writes-start : (F : List ℕ → List ℕ) (whole text out rest : List ℕ) → IsUtf8 text → rest ≡ text → out ≡ [] → F (chars text) ≡ whole → Writes F whole out rest
Writes-start F whole text out rest good same none e = rw (none, same) (record { bytes = ap encodes e; utf8 = good })

-- some characters were read, and others written
pub Writes-read : (F G : List ℕ → List ℕ) (whole out made rest after cs more : List ℕ) → Writes F whole out rest → IsUtf8 after → chars rest ≡ cs ++ chars after
    → F (cs ++ chars after) ≡ more ++ G (chars after) → made ≡ out ++ encodes more → Writes G whole made after
Writes-read F G whole out made rest after cs more x good e step longer = record {
  bytes = ap (λ l. l ++ encodes (G (chars after))) longer ∙ append_assoc out (encodes more) (encodes (G (chars after))) ∙ ap (λ l. out ++ l) (sym (encodes-append more (G (chars after))))
      ∙ sym (ap (λ l. out ++ encodes l) (ap F e ∙ step)) ∙ x.bytes;
  utf8 = good;
}

module _ (F G : List ℕ → List ℕ) (whole out rest after : List ℕ) (c : ℕ) (x : Writes F whole out rest) (e : rest ≡ encode c ++ after) where
  pub Writes-char : (made more : List ℕ) → F (c ∷ chars after) ≡ more ++ G (chars after) → made ≡ out ++ encodes more → Writes G whole made after
  Writes-char made more step longer = Writes-read F G whole out made rest after (c ∷ []) more x (past_char rest after c x.utf8 e).1 (chars_past_char rest after c x.utf8 e) step longer

  -- nothing, one character, or two
  pub Writes-over : F (c ∷ chars after) ≡ G (chars after) → Writes G whole out after
  Writes-over step = Writes-char out [] step (sym (append-nil out))

  pub Writes-one : (d : ℕ) → F (c ∷ chars after) ≡ d ∷ G (chars after) → Writes G whole (out ++ encode d) after
  Writes-one d step = Writes-char (out ++ encode d) (d ∷ []) step (ap (λ l. out ++ l) (sym (append-nil (encode d))))

  pub Writes-two : (b d : ℕ) → F (c ∷ chars after) ≡ b ∷ d ∷ G (chars after) → Writes G whole ((out ++ encode b) ++ encode d) after
  Writes-two b d step =
      Writes-char ((out ++ encode b) ++ encode d) (b ∷ d ∷ []) step (append_assoc out (encode b) (encode d) ∙ ap (λ l. out ++ (encode b ++ l)) (sym (append-nil (encode d))))

pub Writes-end : (F : List ℕ → List ℕ) (whole out rest : List ℕ) → F [] ≡ [] → Writes F whole out rest → length rest ≡ 0 → out ≡ encodes whole
Writes-end F whole out rest none x e = sym (append-nil out) ∙ sym (ap (λ l. out ++ encodes l) (ap F (ap chars (nil_from_length rest e) ∙ chars-nil) ∙ none)) ∙ x.bytes
