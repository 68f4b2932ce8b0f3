-- Lemmas on lines.
use Rattle.std.proofs.Common.{◌≡◌, ⊎_elim, inl, inr, ℕ, zero, suc, ◌+◌, ◌-◌, ◌%◌, ◌<◌, ◌≤◌, ◌==◌, true, false, List, [], ◌∷◌, ◌++◌, length, take, map, replicate, refl, sym, ap, ◌∙◌, subst, arith, append-nil, length-append, mod-lt, Option, None, Some, MatchOption, Bor, unwrap_or}
use Rattle.std.specs.Char.{is_whitespace}
use Rattle.std.specs.Str.{IsUtf8, chars, NonePass, trim_end, drop_trailing_whitespace}
use Rattle.std.specs.Str.Pattern.{FindsCharPrefix, StripsPrefix}
use Rattle.std.proofs.Math.Utf8.{encode, encodes}
use Rattle.std.proofs.lemmas.Bool.{and_right, cases_Bool, cases_lt, cond_both, ne_eqb}
use Rattle.std.proofs.lemmas.List.{length-replicate, nil_from_length}
use Rattle.std.proofs.lemmas.Str.{chars_from_encodes, chars_past_char, encodes-chars, length-le-encodes}
use Rattle.rst_text.specs.Lines.{is_line_end, pieces, line_character, expanded, tidied}
use Rattle.std.specs.List.{onto_first}
use Rattle.rst_text.proofs.Indenting.{no_chars, some_chars}
use Rattle.rst_text.proofs.Tabs.{expanded_from, expanded_from-start, line_character-keeps}
use Rattle.rst_text.proofs.Scanning.{Scans, chars-scanned, take-scanned, length-scanned}

-- ---- cutting a text

-- a character that ends no line goes onto the first piece
pieces-cons : (c : ℕ) (cs : List ℕ) → is_line_end c ≡ false → pieces (c ∷ cs) ≡ onto_first c (pieces cs)
pieces-cons c cs inside =
    let e : (c == 13) ≡ false = ne_eqb c 13 (λ same. let f : true ≡ false = sym (ap is_line_end same) ∙ inside in cc) in rw (inside, e) refl

-- the front of a line
pieces-append : (prefix rest p : List ℕ) (ps : List (List ℕ)) → NonePass is_line_end prefix → pieces rest ≡ p ∷ ps → pieces (prefix ++ rest) ≡ (prefix ++ p) ∷ ps
pieces-append [] rest p ps clear e = e
pieces-append (c ∷ prefix) rest p ps clear e =
    pieces-cons c (prefix ++ rest) clear.0 ∙ ap (onto_first c) (pieces-append prefix rest p ps clear.1 e)

-- a last line with no end
pieces-unended : (cs : List ℕ) → NonePass is_line_end cs → 0 < length cs → pieces cs ≡ cs ∷ []
pieces-unended [] clear some = absurd (omega arith)
pieces-unended (c ∷ []) clear some = pieces-cons c [] clear.0
pieces-unended (c ∷ d ∷ ds) clear some = pieces-cons c (d ∷ ds) clear.0 ∙ ap (onto_first c) (pieces-unended (d ∷ ds) clear.1 (omega arith))

-- a line end that isn't CR
pub pieces-end : (c : ℕ) (cs : List ℕ) → is_line_end c ≡ true → (c ≡ 13 → ⊥) → pieces (c ∷ cs) ≡ [] ∷ pieces cs
pieces-end c cs ends other = let e : (c == 13) ≡ false = ne_eqb c 13 other in rw (ends, e) refl

pieces-cr : (cs : List ℕ) → ((ds : List ℕ) → cs ≡ 10 ∷ ds → ⊥) → pieces (13 ∷ cs) ≡ [] ∷ pieces cs
pieces-cr [] absent = refl
pieces-cr (d ∷ ds) absent =
    let e : (d == 10) ≡ false = ne_eqb d 10 (λ same. absent ds (ap (λ x. x ∷ ds) same)) in rw e refl

-- CR, and then LF or not
pub pieces-after_cr : (whole kept : Bor (List ℕ)) (r : Option (Bor (List ℕ))) → IsUtf8 whole.now
    → MatchOption r (FindsCharPrefix 10 whole.now None) (λ x. StripsPrefix (FindsCharPrefix 10) whole.now x.now)
    → kept ≡ unwrap_or r whole → (pieces (13 ∷ chars whole.now) ≡ [] ∷ pieces (chars kept.now)) × (length kept.now ≤ length whole.now)
pieces-after_cr whole kept None good found is = (
  pieces-cr (chars whole.now) (λ ds e. found (encodes ds) (sym (encodes-chars whole.now good) ∙ ap encodes e)) ∙ ap (λ k. [] ∷ pieces (chars k.now)) (sym is),
  omega (arith, ap (λ k. length k.now) is),
)
pieces-after_cr whole kept (Some rest) good found is =
    let split : whole.now ≡ encode 10 ++ rest.now = found.1.split ∙ ap (λ l. encode 10 ++ l) (sym found.2) in (
      ap (λ l. pieces (13 ∷ l)) (chars_past_char whole.now rest.now 10 good split) ∙ ap (λ k. [] ∷ pieces (chars k.now)) (sym is),
      omega (arith, found.3, ap (λ k. length k.now) is),
    )

-- the first piece of a text, and what follows its end
pub pieces-scanned : (text prefix rest after kept : List ℕ) (c width : ℕ) → Scans text prefix rest → NonePass is_line_end prefix → rest ≡ encode c ++ after
    → width ≡ length (encode c) → pieces (c ∷ chars after) ≡ [] ∷ pieces (chars kept)
    → pieces (chars text) ≡ chars (take (length text - length after - width) text) ∷ pieces (chars kept)
pieces-scanned text prefix rest after kept c width s clear e wide ends =
    let here : length text - length after - width ≡ length (encodes prefix) = omega (arith, wide, length-scanned text prefix rest after c s e) in
    ap pieces (chars-scanned text prefix rest s ∙ ap (λ l. prefix ++ l) (chars_past_char rest after c s.utf8 e))
    ∙ pieces-append prefix (c ∷ chars after) [] (pieces (chars kept)) clear ends
    ∙ ap (λ l. l ∷ pieces (chars kept)) (append-nil prefix ∙ sym (take-scanned text prefix rest _ s here))

-- a text that was read to its end with no line end
pub pieces-whole : (text prefix rest : List ℕ) → Scans text prefix rest → NonePass is_line_end prefix → length rest ≡ 0 → 0 < length text
    → pieces (chars text) ≡ chars text ∷ pieces (chars [])
unfolding chars
pieces-whole text prefix [] s clear none some =
    let whole : chars text ≡ prefix = chars-scanned text prefix [] s ∙ append-nil prefix in
    let n : 0 < length prefix = some_chars text prefix (prefix, (s.scalar, sym (s.bytes ∙ append-nil (encodes prefix)))) whole some in
    ap pieces whole ∙ pieces-unended prefix clear n ∙ ap (λ l. l ∷ []) (sym whole)
pieces-whole text prefix (x ∷ rest) s clear none some = absurd (omega arith)

-- ---- trimming

trim-dark : (c : ℕ) (cs : List ℕ) → is_whitespace c ≡ false → drop_trailing_whitespace (c ∷ cs) ≡ c ∷ drop_trailing_whitespace cs
trim-dark c cs dark = rw dark refl

trim-white : (c : ℕ) (cs : List ℕ) → is_whitespace c ≡ true → drop_trailing_whitespace cs ≡ [] → drop_trailing_whitespace (c ∷ cs) ≡ []
trim-white c cs white gone = rw (white, gone) refl

trim-kept : (c : ℕ) (cs : List ℕ) → 0 < length (drop_trailing_whitespace cs) → drop_trailing_whitespace (c ∷ cs) ≡ c ∷ drop_trailing_whitespace cs
trim-kept c cs some =
    rw (and_right (is_whitespace c) (length (drop_trailing_whitespace cs) == 0) (ne_eqb (length (drop_trailing_whitespace cs)) 0 (λ e. omega arith))) refl

trim-spaces_white : (n : ℕ) (cs : List ℕ) → drop_trailing_whitespace cs ≡ [] → drop_trailing_whitespace (replicate n 32 ++ cs) ≡ []
trim-spaces_white zero cs gone = gone
trim-spaces_white (suc n) cs gone = trim-white 32 (replicate n 32 ++ cs) refl (trim-spaces_white n cs gone)

-- spaces before something are kept
trim-spaces_kept : (n : ℕ) (cs : List ℕ) → 0 < length (drop_trailing_whitespace cs) → drop_trailing_whitespace (replicate n 32 ++ cs) ≡ replicate n 32 ++ drop_trailing_whitespace cs
trim-spaces_kept zero cs some = refl
trim-spaces_kept (suc n) cs some =
    let e = trim-spaces_kept n cs some in
    trim-kept 32 (replicate n 32 ++ cs) (omega (arith, ap length e, length-append (replicate n 32) (drop_trailing_whitespace cs))) ∙ ap (λ l. 32 ∷ l) e

-- what is not empty stays so
expanded_some : (tab column : ℕ) (ds : List ℕ) → 0 < tab → 0 < length ds → 0 < length (expanded_from tab column ds)
expanded_some tab column [] wide some = absurd (omega arith)
expanded_some tab column (d ∷ ds) wide some =
    let n : ℕ = tab - column % tab in
    let spaces : 0 < n = omega (arith, mod-lt column wide) in
    cond_both (d == 9) (replicate n 32 ++ expanded_from tab (column + n) ds) (line_character d ∷ expanded_from tab (column + 1) ds) (λ (l : List ℕ). 0 < length l)
    (λ e. omega (arith, length-append (replicate n 32) (expanded_from tab (column + n) ds), length-replicate {A = ℕ} n 32)) (λ e. omega arith)

-- one character, with what is kept of the rest
module _ (tab column c : ℕ) (cs : List ℕ) (wide : 0 < tab) (before : (k : ℕ) → drop_trailing_whitespace (expanded_from tab k cs) ≡ expanded_from tab k (drop_trailing_whitespace cs)) where
  abbrev Trims : Type 0
  Trims = drop_trailing_whitespace (expanded_from tab column (c ∷ cs)) ≡ expanded_from tab column (drop_trailing_whitespace (c ∷ cs))

  trim_dark : is_whitespace c ≡ false → Trims
  trim_dark dark =
      let other : (c == 9) ≡ false = ne_eqb c 9 (λ same. let f : true ≡ false = sym (ap is_whitespace same) ∙ dark in cc) in
      rw (dark, other) (trim-dark (line_character c) (expanded_from tab (column + 1) cs) (line_character-keeps is_whitespace c refl refl ∙ dark) ∙ ap (λ l. line_character c ∷ l) (before (column + 1)))

  trim_none : is_whitespace c ≡ true → drop_trailing_whitespace cs ≡ [] → Trims
  trim_none white none =
      let n : ℕ = tab - column % tab in
      cond_both (c == 9) (replicate n 32 ++ expanded_from tab (column + n) cs) (line_character c ∷ expanded_from tab (column + 1) cs) (λ (l : List ℕ). drop_trailing_whitespace l ≡ [])
      (λ e. trim-spaces_white n (expanded_from tab (column + n) cs) (before (column + n) ∙ ap (expanded_from tab (column + n)) none))
      (λ e. trim-white (line_character c) (expanded_from tab (column + 1) cs) (line_character-keeps is_whitespace c refl refl ∙ white) (before (column + 1) ∙ ap (expanded_from tab (column + 1)) none))
      ∙ sym (ap (expanded_from tab column) (trim-white c cs white none))

  trim_some : 0 < length (drop_trailing_whitespace cs) → Trims
  trim_some some =
      let n : ℕ = tab - column % tab in
      let kept : (k : ℕ) → 0 < length (drop_trailing_whitespace (expanded_from tab k cs)) = λ k. omega (arith, ap length (before k), expanded_some tab k (drop_trailing_whitespace cs) wide some) in
      elim (cases_Bool (c == 9)) [
        | inl e ↦ rw (trim-kept c cs some, e) (trim-spaces_kept n (expanded_from tab (column + n) cs) (kept (column + n)) ∙ ap (λ l. replicate n 32 ++ l) (before (column + n)))
        | inr e ↦ rw (trim-kept c cs some, e) (trim-kept (line_character c) (expanded_from tab (column + 1) cs) (kept (column + 1)) ∙ ap (λ l. line_character c ∷ l) (before (column + 1)))
      ]

-- Trimming a piece first gives the same line.
trim-expanded : (tab column : ℕ) (cs : List ℕ) → 0 < tab → drop_trailing_whitespace (expanded_from tab column cs) ≡ expanded_from tab column (drop_trailing_whitespace cs)
trim-expanded tab column [] wide = refl
trim-expanded tab column (c ∷ cs) wide = let before : (k : ℕ) → drop_trailing_whitespace (expanded_from tab k cs) ≡ expanded_from tab k (drop_trailing_whitespace cs) = λ k. trim-expanded tab k cs wide in ⊎_elim
    (λ white. ⊎_elim
    (λ some. trim_some tab column c cs wide before some)
    (λ none. trim_none tab column c cs wide before white (nil_from_length (drop_trailing_whitespace cs) (omega arith)))
    (cases_lt 0 (length (drop_trailing_whitespace cs))))
    (λ dark. trim_dark tab column c cs wide before dark)
    (cases_Bool (is_whitespace c))

pub chars-trim_end : (text trimmed : List ℕ) → IsUtf8 trimmed → trimmed ≡ trim_end text → chars trimmed ≡ drop_trailing_whitespace (chars text)
unfolding trim_end
chars-trim_end text trimmed good e = sym (chars_from_encodes (drop_trailing_whitespace (chars text)) trimmed good (sym e))

pub tidied-trim_end : (tab : ℕ) (piece trimmed : List ℕ) → IsUtf8 trimmed → trimmed ≡ trim_end piece → 0 < tab → expanded tab (chars trimmed) ≡ tidied tab (chars piece)
tidied-trim_end tab piece trimmed good e wide =
    ap (expanded tab) (chars-trim_end piece trimmed good e)
    ∙ sym (expanded_from-start tab (drop_trailing_whitespace (chars piece)) wide)
    ∙ sym (trim-expanded tab 0 (chars piece) wide)
    ∙ ap drop_trailing_whitespace (expanded_from-start tab (chars piece) wide)

-- ---- the texts so far, and those to come

-- no text is left
pub all_read : (tab : ℕ) (so_far all : List (List ℕ)) (rest : List ℕ) → so_far ++ map (tidied tab) (pieces (chars rest)) ≡ all → length rest ≡ 0 → so_far ≡ all
all_read tab so_far all rest e none = sym (append-nil so_far) ∙ ap (λ l. so_far ++ map (tidied tab) (pieces l)) (sym (no_chars rest none)) ∙ e

-- a character is a byte at least
pub length-chars : (text : List ℕ) → IsUtf8 text → length (chars text) ≤ length text
length-chars text good = subst (λ n. length (chars text) ≤ n) (ap length (encodes-chars text good)) (length-le-encodes (chars text))
