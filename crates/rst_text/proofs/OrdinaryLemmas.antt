-- Texts of ordinary bytes.
use Rattle.std.proofs.Common.{map, ◌≡◌, ◌≢◌, inl, inr, ℕ, ◌+◌, ◌-◌, ◌<◌, ◌≤◌, ◌==◌, ◌||◌, true, false, List, [], ◌∷◌, ◌++◌, length, take, drop, get_or, length-append, append_assoc, refl, sym, ap, ◌∙◌, subst, arith}
use Rattle.std.specs.Str.{IsUtf8, chars, NonePass, IsCharBoundary, trim_end, drop_trailing_whitespace}
use Rattle.std.proofs.Math.Utf8.{encode, encodes}
use Rattle.std.proofs.lemmas.Bool.{cases_lt}
use Rattle.std.proofs.lemmas.Bool.Decides.{nat_tests}
use Rattle.std.proofs.lemmas.List.{get_or_append_left, get_or-append-add, take-append-drop, length-take-le}
use Rattle.std.proofs.lemmas.Str.{encode_ascii, encodes-chars, scalars-chars, encodes-append, IsUtf8-take, IsUtf8-drop}
use Rattle.rst_text.specs.Lines.{is_line_end, is_tab, pieces, line_character, with_tabs, expanded, tidied}
use Rattle.std.specs.List.{slice_split}
use Rattle.rst_text.specs.Ordinary.{is_ordinary, AreOrdinary, IsOrdinaryTo}
use Rattle.rst_text.proofs.Scanning.{Scans, Writes-read, scalars-append, NonePass-append, chars-scanned, length-scanned}
use Rattle.rst_text.proofs.Tabs.{expanded_from}
use Rattle.rst_text.proofs.Expanding.{Expands}
use Rattle.rst_text.proofs.LinesLemmas.{pieces-end, pieces-scanned, chars-trim_end, length-chars}

-- ---- characters of ordinary bytes

ordinary-left : (xs ys : List ℕ) → AreOrdinary (xs ++ ys) → AreOrdinary xs
ordinary-left xs ys plain i inside =
    ap is_ordinary (sym (get_or_append_left xs ys 0 i inside)) ∙ plain i (omega (arith, length-append xs ys))

ordinary-right : (xs ys : List ℕ) → AreOrdinary (xs ++ ys) → AreOrdinary ys
ordinary-right xs ys plain i inside =
    ap is_ordinary (sym (get_or-append-add xs ys i 0)) ∙ plain (length xs + i) (omega (arith, length-append xs ys))

high-of : (b : ℕ) → is_ordinary b ≡ true → 31 < b
high-of b h = grind (arith, nat_tests)

-- a character of ordinary bytes is no control character, and none of those at which another byte begins
above : (c : ℕ) → AreOrdinary (encode c) → 31 < c
above c plain = elim (cases_lt 31 c) [
  | inl high ↦ high
  | inr low ↦ high-of c (subst AreOrdinary (encode_ascii c (omega arith)) plain 0 (omega arith))
]

not-this : (d c : ℕ) → 0 < length (encode d) → is_ordinary (get_or (encode d) 0 0) ≡ false → AreOrdinary (encode c) → c ≢ d
not-this d c some bad plain e = let f : false ≡ true = sym bad ∙ subst (λ x. AreOrdinary (encode x)) e plain 0 some in cc

inside-by : (c : ℕ) → 31 < c → c ≢ 0x85 → c ≢ 0x2028 → c ≢ 0x2029 → is_line_end c ≡ false
inside-by c low next line paragraph = grind (arith, nat_tests)

inside-of : (c : ℕ) → AreOrdinary (encode c) → is_line_end c ≡ false
unfolding encode
inside-of c plain = inside-by c (above c plain) (not-this 0x85 c (omega arith) refl plain) (not-this 0x2028 c (omega arith) refl plain) (not-this 0x2029 c (omega arith) refl plain)

plain-of : (c : ℕ) → 31 < c → ((c == 9) ≡ false) × ((c == 11 || c == 12) ≡ false)
plain-of c h = (grind (arith, nat_tests), grind (arith, nat_tests))

clear-of : (cs : List ℕ) → AreOrdinary (encodes cs) → NonePass is_line_end cs
clear-of [] plain = tt
clear-of (c ∷ cs) plain = (inside-of c (ordinary-left (encode c) (encodes cs) plain), clear-of cs (ordinary-right (encode c) (encodes cs) plain))

-- ---- their front

stops-high : (b : ℕ) → is_ordinary b ≡ false → 128 ≤ b → 192 ≤ b
stops-high b h high = grind (arith, nat_tests)

pub IsCharBoundary-ordinary : (text : List ℕ) (n : ℕ) → IsOrdinaryTo text n → IsCharBoundary text n
IsCharBoundary-ordinary text n p = (p.within, λ inside high. stops-high (get_or text n 0) (p.stops inside) high)

utf8-prefix : (text : List ℕ) (n : ℕ) → IsUtf8 text → IsOrdinaryTo text n → IsUtf8 (take n text)
utf8-prefix text n good p = IsUtf8-take text n good (IsCharBoundary-ordinary text n p)

codes-prefix : (text : List ℕ) (n : ℕ) → IsUtf8 text → IsOrdinaryTo text n → encodes (chars (take n text)) ≡ take n text
codes-prefix text n good p = encodes-chars (take n text) (utf8-prefix text n good p)

-- the characters of the front were read
scans-prefix : (text : List ℕ) (n : ℕ) → IsUtf8 text → IsOrdinaryTo text n → Scans text (chars (take n text)) (drop n text)
scans-prefix text n good p = record {
  bytes = sym (take-append-drop n text) ∙ ap (λ l. l ++ drop n text) (sym (codes-prefix text n good p));
  utf8 = IsUtf8-drop text n good (IsCharBoundary-ordinary text n p);
  scalar = scalars-chars (take n text) (utf8-prefix text n good p);
}

prefix-len : (text : List ℕ) (n : ℕ) → IsUtf8 text → IsOrdinaryTo text n → n ≡ length (encodes (chars (take n text)))
prefix-len text n good p = sym (length-take-le n text p.within) ∙ ap length (sym (codes-prefix text n good p))

ordinary-prefix : (text : List ℕ) (n : ℕ) → IsOrdinaryTo text n → AreOrdinary (take n text)
ordinary-prefix text n p i inside =
    let long : length (take n text) ≡ n = length-take-le n text p.within in
    let here : get_or (take n text) i 0 ≡ get_or text i 0 = sym (get_or_append_left (take n text) (drop n text) 0 i inside) ∙ ap (λ l. get_or l i 0) (take-append-drop n text) in
    ap is_ordinary here ∙ p.pass i (omega arith) (omega arith)

coded-prefix : (text : List ℕ) (n : ℕ) → IsUtf8 text → IsOrdinaryTo text n → AreOrdinary (encodes (chars (take n text)))
coded-prefix text n good p = subst AreOrdinary (sym (codes-prefix text n good p)) (ordinary-prefix text n p)

clear-prefix : (text : List ℕ) (n : ℕ) → IsUtf8 text → IsOrdinaryTo text n → NonePass is_line_end (chars (take n text))
clear-prefix text n good p = clear-of (chars (take n text)) (coded-prefix text n good p)

-- characters were read of which none ends a line
abbrev pub ScansLine : List ℕ → List ℕ → Type 0
ScansLine text rest = (prefix : List ℕ) × (Scans text prefix rest × NonePass is_line_end prefix)

-- and ordinary bytes more
pub ScansLine-run : (text rest : List ℕ) (n : ℕ) → ScansLine text rest → IsOrdinaryTo rest n → ScansLine text (drop n rest)
ScansLine-run text rest n (prefix, (s, clear)) p =
    let run = scans-prefix rest n s.utf8 p in
    let more = chars (take n rest) in (
      prefix ++ more,
      (
        record {
          bytes = s.bytes ∙ ap (λ l. encodes prefix ++ l) run.bytes ∙ sym (append_assoc (encodes prefix) (encodes more) (drop n rest)) ∙ ap (λ l. l ++ drop n rest) (sym (encodes-append prefix more));
          utf8 = run.utf8;
          scalar = scalars-append prefix more s.scalar run.scalar;
        },
        NonePass-append is_line_end prefix more clear (clear-prefix rest n s.utf8 p),
      ),
    )

-- a line feed after it ends the first piece
pub pieces-ordinary : (text after : List ℕ) (n : ℕ) → IsUtf8 text → IsOrdinaryTo text n → drop n text ≡ encode 10 ++ after → pieces (chars text) ≡ chars (take n text) ∷ pieces (chars after)
pieces-ordinary text after n good p e =
    let s = scans-prefix text n good p in
    let low : length (encode 10) ≡ 1 = ap length (encode_ascii 10 (omega arith)) in
    let len = length-scanned text (chars (take n text)) (drop n text) after 10 s e in
    let here : length text - length after - 1 ≡ n = omega (arith, len, low, prefix-len text n good p) in
    pieces-scanned text (chars (take n text)) (drop n text) after after 10 1 s (clear-prefix text n good p) e (sym low)
    (pieces-end 10 (chars after) refl (λ e. absurd (omega arith))) ∙ ap (λ k. chars (take k text) ∷ pieces (chars after)) here

-- ---- the whole

one-part : (cs : List ℕ) → AreOrdinary (encodes cs) → slice_split is_tab (map line_character cs) ≡ cs ∷ []
one-part [] plain = refl
one-part (c ∷ cs) plain =
    let p = plain-of c (above c (ordinary-left (encode c) (encodes cs) plain)) in
    rw (p.1, p.0, one-part cs (ordinary-right (encode c) (encodes cs) plain)) refl

-- a text of ordinary bytes stays as it is
expanded-line : (tab : ℕ) (text : List ℕ) → IsUtf8 text → AreOrdinary text → expanded tab (chars text) ≡ chars text
unfolding expanded
expanded-line tab text good plain = ap (with_tabs tab) (one-part (chars text) (subst AreOrdinary (sym (encodes-chars text good)) plain))

-- ordinary bytes become themselves
expanded-run : (tab column : ℕ) (cs ds : List ℕ) → AreOrdinary (encodes cs) → expanded_from tab column (cs ++ ds) ≡ cs ++ expanded_from tab (column + length cs) ds
expanded-run tab column [] ds plain = let e : column ≡ column + 0 = omega arith in ap (λ k. expanded_from tab k ds) e
expanded-run tab column (c ∷ cs) ds plain =
    let p = plain-of c (above c (ordinary-left (encode c) (encodes cs) plain)) in
    let e : column + 1 + length cs ≡ column + length (c ∷ cs) = omega arith in
    rw (p.1, p.0) (ap (λ l. c ∷ l) (expanded-run tab (column + 1) cs ds (ordinary-right (encode c) (encodes cs) plain) ∙ ap (λ k. cs ++ expanded_from tab k ds) e))

-- ordinary bytes more are expanded
pub Expands-run : (tab column n count : ℕ) (line rest piece run made : List ℕ) → Expands tab column line rest piece → IsOrdinaryTo rest n → run ≡ take n rest → count ≡ length (chars run)
    → made ≡ line ++ run → Expands tab (column + count) made (drop n rest) piece
Expands-run tab column n count line rest piece run made x p is counted longer =
    let cs : List ℕ = chars (take n rest) in
    let prefix = scans-prefix rest n x.utf8 p in
    rw (longer, counted, is)
    (Writes-read (expanded_from tab column) (expanded_from tab (column + length cs)) _ line (line ++ take n rest) rest (drop n rest) cs cs x prefix.utf8 (chars-scanned rest cs (drop n rest) prefix)
    (expanded-run tab column cs (chars (drop n rest)) (coded-prefix rest n x.utf8 p)) (ap (λ l. line ++ l) (sym (codes-prefix rest n x.utf8 p))))

pub count-run : (n count : ℕ) (rest run : List ℕ) → IsUtf8 rest → IsOrdinaryTo rest n → run ≡ take n rest → count ≡ length (chars run) → count ≤ length run
count-run n count rest run good p is counted = rw (counted, is) (length-chars (take n rest) (utf8-prefix rest n good p))

-- A text without white characters at its end is its line, whatever the width of tabs: there is none in it.
pub trimmed-line : (text trimmed : List ℕ) → IsUtf8 text → IsUtf8 trimmed → AreOrdinary text → trimmed ≡ trim_end text → (tab : ℕ) → chars trimmed ≡ tidied tab (chars text)
trimmed-line text trimmed good kept plain e tab = chars-trim_end text trimmed kept e ∙ ap drop_trailing_whitespace (sym (expanded-line tab text good plain))
