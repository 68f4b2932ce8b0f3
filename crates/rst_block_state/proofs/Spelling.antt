-- Texts of lines, character by character and line by line.
use Rattle.std.proofs.Common.{◌≡◌, ℕ, zero, suc, ◌+◌, ◌-◌, ◌<◌, ◌≤◌, ◌⊎◌, inl, inr, List, [], ◌∷◌, ◌++◌, length, take, drop, map, refl, sym, ap, ◌∙◌, arith, append_assoc, append-nil, add-one, length-drop, min}
use Rattle.std.specs.Prelude.{encode_utf8_all, string_bytes}
use Rattle.std.specs.List.{join_with_byte}
use Rattle.std.specs.Str.{IsUtf8, chars}
use Rattle.std.proofs.Math.Utf8.{encode, encodes}
use Rattle.std.specs.declared.string.String.{String}
use Rattle.std.proofs.lemmas.Str.{encodes-append, encode_ascii, chars_past_char, chars_from_encodes, IsUtf8-string_bytes}
use Rattle.std.proofs.lemmas.Bool.{cases_lt}
use Rattle.std.proofs.lemmas.List.{take_all, drop_all, map-append, take-map}
use Rattle.rst_text.specs.Block.{Line, Block, first_text, shorten, shorten_all}
use Rattle.rst_text.specs.Text.{chars_of}
use Rattle.rst_text.proofs.Indenting.{no_chars}
use Rattle.rst_text.proofs.Scanning.{past_char}
use Rattle.rst_block_state.specs.Texts.{joined, spelled}
use Rattle.rst_block_state.proofs.Splitting.{take_none}

-- ---- characters

-- Of the characters of a text after the first ones, some are copied, and `left` of those that `rest` spells are still to be copied.
pub record Copies (from count : ℕ) (text part rest : List ℕ) (left : ℕ) : Type 0 where
  pub value : part ++ encode_utf8_all (take left (chars rest)) ≡ encode_utf8_all (take count (drop from (chars text)))
  pub utf8 : IsUtf8 rest

pub Copies-step : (from count left next c : ℕ) (text part rest after more : List ℕ) → Copies from count text part rest left → rest ≡ encode c ++ after → left ≡ suc next → more ≡ part ++ encode c
    → Copies from count text more after next
Copies-step from count left next c text part rest after more s e one is = record {
  value =
      let prefix : take left (chars rest) ≡ c ∷ take next (chars after) = rw (chars_past_char rest after c s.utf8 e, one) refl in
      ap (λ p. p ++ encode_utf8_all (take next (chars after))) is
      ∙ append_assoc part (encode c) (encode_utf8_all (take next (chars after)))
      ∙ ap (λ t. part ++ encode_utf8_all t) (sym prefix)
      ∙ s.value;
  utf8 = (past_char rest after c s.utf8 e).1;
}

pub Copies-over : (from count left : ℕ) (text part rest : List ℕ) → Copies from count text part rest left → length rest ≡ 0 → part ≡ encode_utf8_all (take count (drop from (chars text)))
Copies-over from count left text part rest s none =
    sym (append-nil part) ∙ ap (λ t. part ++ encode_utf8_all t) (sym (take_none left (chars rest) (no_chars rest none))) ∙ s.value

pub Copies-end : (from count left : ℕ) (text part rest : List ℕ) → Copies from count text part rest left → left ≡ 0 → part ≡ encode_utf8_all (take count (drop from (chars text)))
Copies-end from count left text part rest s none =
    sym (append-nil part) ∙ ap (λ n. part ++ encode_utf8_all (take n (chars rest))) (sym none) ∙ s.value

-- ---- lines

-- one more line
take_one_more : (i : ℕ) (B : Block) → i < length B → take (suc i) (map (λ (l : Line). l.text) B) ≡ take i (map (λ (l : Line). l.text) B) ++ first_text (drop i B) ∷ []
take_one_more i [] h = absurd (omega arith)
take_one_more zero (l ∷ ls) h = refl
take_one_more (suc i) (l ∷ ls) h = ap (λ ts. l.text ∷ ts) (take_one_more i ls (omega arith))

join_more : (c : ℕ) (t : List ℕ) (ts : List (List ℕ)) (u : List ℕ) (us : List (List ℕ)) → join_with_byte c ((t ∷ ts) ++ u ∷ us) ≡ join_with_byte c (t ∷ ts) ++ c ∷ join_with_byte c (u ∷ us)
join_more c t [] u us = refl
join_more c t (s ∷ ts) u us = ap (λ x. t ++ c ∷ x) (join_more c s ts u us) ∙ sym (append_assoc t (c ∷ join_with_byte c (s ∷ ts)) (c ∷ join_with_byte c (u ∷ us)))

-- two texts, one after the other
joined_append : (X Y : Block) → 0 < length X → 0 < length Y → joined (X ++ Y) ≡ joined X ++ 10 ∷ joined Y
joined_append [] Y x y = absurd (omega arith)
joined_append (l ∷ ls) [] x y = absurd (omega arith)
joined_append (l ∷ ls) (m ∷ ms) x y =
    ap (λ ts. join_with_byte 10 (l.text ∷ ts)) (map-append (λ (n : Line). n.text) ls (m ∷ ms)) ∙ join_more 10 l.text (map (λ (n : Line). n.text) ls) m.text (map (λ (n : Line). n.text) ms)

pub spelled_append : (X Y : Block) → 0 < length X → 0 < length Y → spelled (X ++ Y) ≡ (spelled X ++ 10 ∷ []) ++ spelled Y
spelled_append X Y x y =
    ap encodes (joined_append X Y x y) ∙ encodes-append (joined X) (10 ∷ joined Y) ∙ ap (λ t. encodes (joined X) ++ (t ++ encodes (joined Y))) (encode_ascii 10 (omega arith))
    ∙ sym (append_assoc (encodes (joined X)) (10 ∷ []) (encodes (joined Y)))

-- the texts of the first lines, joined
joined_taken : (i : ℕ) (B : Block) → joined (take i B) ≡ join_with_byte 10 (take i (map (λ (l : Line). l.text) B))
joined_taken i B = ap (join_with_byte 10) (sym (take-map (λ (l : Line). l.text) i B))

spelled_first : (B : Block) → 0 < length B → spelled (take 1 B) ≡ encode_utf8_all (first_text (drop 0 B))
spelled_first [] h = absurd (omega arith)
spelled_first (l ∷ ls) h = refl

joined_more : (i : ℕ) (B : Block) → 0 < i → i < length B → joined (take (suc i) B) ≡ joined (take i B) ++ 10 ∷ first_text (drop i B)
joined_more i [] z h = absurd (omega arith)
joined_more zero (l ∷ ls) z h = absurd (omega arith)
joined_more (suc i) (l ∷ ls) z h =
    joined_taken (suc (suc i)) (l ∷ ls)
    ∙ ap (λ ts. join_with_byte 10 (l.text ∷ ts)) (take_one_more i ls (omega arith))
    ∙ join_more 10 l.text (take i (map (λ (m : Line). m.text) ls)) (first_text (drop i ls)) []
    ∙ ap (λ t. t ++ 10 ∷ first_text (drop i ls)) (sym (joined_taken (suc i) (l ∷ ls)))

spelled_more : (i : ℕ) (B : Block) → 0 < i → i < length B → spelled (take (suc i) B) ≡ (spelled (take i B) ++ 10 ∷ []) ++ encode_utf8_all (first_text (drop i B))
spelled_more i B z h =
    let more : List ℕ = encodes (first_text (drop i B)) in
    ap encodes (joined_more i B z h)
    ∙ encodes-append (joined (take i B)) (10 ∷ first_text (drop i B))
    ∙ ap (λ x. encodes (joined (take i B)) ++ (x ++ more)) (encode_ascii 10 (omega arith))
    ∙ sym (append_assoc (encodes (joined (take i B))) (10 ∷ []) more)

-- The texts of the first lines with one more, whose text is put after a line feed unless it is the first.
pub spelled_step : (i : ℕ) (B : Block) (prefix between after line : List ℕ) → i < length B → prefix ≡ spelled (take i B) → line ≡ encode_utf8_all (first_text (drop i B))
    → (((0 < i) × (between ≡ prefix ++ 10 ∷ [])) ⊎ ((i ≡ 0) × (between ≡ prefix))) → after ≡ between ++ line → after ≡ spelled (take (i + 1) B)
spelled_step i B prefix between after line h f l (inl b) a =
    a ∙ ap (λ x. x ++ line) (b.1 ∙ ap (λ x. x ++ 10 ∷ []) f) ∙ ap (λ x. (spelled (take i B) ++ 10 ∷ []) ++ x) l ∙ rw add-one (sym (spelled_more i B b.0 h))
spelled_step i B prefix between after line h f l (inr b) a =
    let none : between ≡ [] = b.1 ∙ f ∙ ap (λ n. spelled (take n B)) b.0 in
    a ∙ ap (λ x. x ++ line) none ∙ l ∙ ap (λ n. encode_utf8_all (first_text (drop n B))) b.0 ∙ sym (spelled_first B (omega arith)) ∙ ap (λ n. spelled (take (n + 1) B)) (sym b.0)

-- the characters of a text that spells lines
pub chars_spelled : {A : Type 0} (s : String A) (B : Block) → string_bytes s ≡ spelled B → chars_of s ≡ joined B
chars_spelled s B e = sym (chars_from_encodes (joined B) (string_bytes s) (IsUtf8-string_bytes s) (sym e))

-- ---- some lines of a block

uncut_lines : (X : Block) → map (shorten 0) X ≡ X
uncut_lines [] = refl
uncut_lines (l ∷ ls) = ap (λ (x : Block). l ∷ x) (uncut_lines ls)

pub uncut_block : (X : Block) → shorten_all 0 0 X ≡ X
uncut_block [] = refl
uncut_block (l ∷ ls) = ap (λ (x : Block). l ∷ x) (uncut_lines ls)

-- the lines between two places, where those that don't exist are left out
pub lines_there : (B : Block) (from to f t : ℕ) → t ≡ min to (length B) → f ≡ min from t → take (t - f) (drop f B) ≡ take (to - from) (drop from B)
lines_there B from to f t et ef = by (cases_lt (length B) from) (cases_lt to from) (cases_lt (length B) to)
  where
    by : ((length B < from) ⊎ (from ≤ length B)) → ((to < from) ⊎ (from ≤ to)) → ((length B < to) ⊎ (to ≤ length B)) → take (t - f) (drop f B) ≡ take (to - from) (drop from B)
    by (inr a) (inr b) (inr d) =
        let p : f ≡ from = omega arith in
        let q : t ≡ to = omega arith in
        rw (p, q) refl
    by (inr a) (inr b) (inl d) =
        let p : f ≡ from = omega arith in
        rw p (take_all (t - from) (drop from B) (omega (arith, length-drop from B)) ∙ sym (take_all (to - from) (drop from B) (omega (arith, length-drop from B))))
    by x (inl b) y =
        let p : t - f ≡ 0 = omega arith in
        let q : to - from ≡ 0 = omega arith in
        rw (p, q) refl
    by (inl a) (inr b) y =
        let p : t - f ≡ 0 = omega arith in
        let none : drop from B ≡ [] = drop_all from B (omega arith) in
        rw p (sym (take_none (to - from) (drop from B) none))
