-- A line that is expanded part by part.
use Rattle.std.proofs.Common.{◌≡◌, ℕ, zero, suc, ◌+◌, ◌-◌, ◌%◌, ◌<◌, ◌==◌, false, List, ◌∷◌, ◌++◌, length, replicate, refl, sym, ap, ◌∙◌, arith}
use Rattle.std.specs.Str.{IsUtf8, chars}
use Rattle.std.proofs.Math.Utf8.{encode, encodes}
use Rattle.std.proofs.lemmas.Bool.{ne_eqb}
use Rattle.std.proofs.lemmas.Str.{chars_from_encodes, encode_ascii}
use Rattle.rst_text.specs.Lines.{line_character, expanded}
use Rattle.rst_text.proofs.Tabs.{expanded_from, expanded_from-start}
use Rattle.rst_text.proofs.Scanning.{Writes, Writes-char, Writes-one, Writes-end}

-- the line so far, and what the rest of the piece becomes, make the whole line
abbrev pub Expands : ℕ → ℕ → List ℕ → List ℕ → List ℕ → Type 0
Expands tab column line rest piece = Writes (expanded_from tab column) (expanded_from tab 0 piece) line rest

pub Expands-char : (tab column : ℕ) (line rest piece after : List ℕ) (c : ℕ) → Expands tab column line rest piece → rest ≡ encode c ++ after → (c ≡ 9 → ⊥)
    → Expands tab (column + 1) (line ++ encode (line_character c)) after piece
Expands-char tab column line rest piece after c x e other =
    Writes-one (expanded_from tab column) (expanded_from tab (column + 1)) _ line rest after c x e (line_character c) (let t : (c == 9) ≡ false = ne_eqb c 9 other in rw t refl)

encodes-spaces : (n : ℕ) → encodes (replicate n 32) ≡ replicate n 32
encodes-spaces zero = refl
encodes-spaces (suc n) = ap (λ l. l ++ encodes (replicate n 32)) (encode_ascii 32 (omega arith)) ∙ ap (λ l. 32 ∷ l) (encodes-spaces n)

pub Expands-tab : (tab column wide : ℕ) (line rest piece after : List ℕ) (c : ℕ) → Expands tab column line rest piece → rest ≡ encode c ++ after → c ≡ 9
    → wide ≡ tab - column % tab → Expands tab (column + wide) (line ++ replicate wide 32) after piece
Expands-tab tab column wide line rest piece after c x e is w =
    Writes-char (expanded_from tab column) (expanded_from tab (column + wide)) _ line rest after c x e (line ++ replicate wide 32) (replicate wide 32) (rw (is, w) refl)
    (ap (λ l. line ++ l) (sym (encodes-spaces wide)))

-- the line at the end
pub Expands-end : (tab column : ℕ) (line rest text : List ℕ) → Expands tab column line rest (chars text) → length rest ≡ 0 → IsUtf8 line
    → 0 < tab → chars line ≡ expanded tab (chars text)
Expands-end tab column line rest text x none good wide =
    sym (chars_from_encodes (expanded_from tab 0 (chars text)) line good (sym (Writes-end (expanded_from tab column) _ line rest refl x none))) ∙ expanded_from-start tab (chars text) wide
