-- Texts that can occur in a line.
use Rattle.std.proofs.Common.{◌≡◌, inl, inr, ℕ, zero, suc, ◌+◌, ◌-◌, ◌%◌, ◌<◌, ◌==◌, Bool, true, false, cond, ◌&&◌, List, [], ◌∷◌, ◌++◌, length, take, drop, map, replicate, refl, sym, ap, ◌∙◌, arith}
use Rattle.std.proofs.Math.Bool.{not}
use Rattle.std.specs.Char.{is_whitespace}
use Rattle.std.specs.List.{list_any}
use Rattle.std.specs.Str.{drop_trailing_whitespace}
use Rattle.std.proofs.lemmas.List.Folds.{list_any-append}
use Rattle.rst_settings.specs.declared.Parts.{Parts}
use Rattle.rst_text.specs.Block.{Line, Block, first_text, is_blank}
use Rattle.std.specs.List.{onto_first}
use Rattle.rst_text.proofs.Tabs.{expanded_from, expanded_from-start, line_character-keeps}
use Rattle.rst_text.proofs.TextLemmas.{all-parts}
use Rattle.rst_text.specs.Lines.{is_line_end, pieces, begins_with, line_character, expanded, tidied, numbered_from, lines_of, ends_white, is_line_text, are_lines}
use Rattle.std.proofs.lemmas.Bool.{eqb-true, not-true, and_parts, and_from, or_parts, false_from_ne_true, cases_Bool, cond_both}
use Rattle.std.proofs.lemmas.List.{take-append-drop}

pub is_line_text-parts : (cs : List ℕ) → is_line_text cs ≡ true → (list_any is_line_end cs ≡ false) × (ends_white cs ≡ false)
unfolding is_line_text
is_line_text-parts cs h =
    let both = and_parts (not (list_any is_line_end cs)) (not (ends_white cs)) h in
    (not-true (list_any is_line_end cs) both.0, not-true (ends_white cs) both.1)

pub is_line_text-from_parts : (cs : List ℕ) → list_any is_line_end cs ≡ false → ends_white cs ≡ false → is_line_text cs ≡ true
unfolding is_line_text
is_line_text-from_parts cs p q = rw (p, q) refl

pub is_line_text-nil : is_line_text [] ≡ true
unfolding is_line_text
is_line_text-nil = refl

-- ---- a part of a text

ends_white-suffix : (xs ys : List ℕ) → ends_white (xs ++ ys) ≡ false → ends_white ys ≡ false
ends_white-suffix [] ys h = h
ends_white-suffix (x ∷ xs) ys h = ends_white-suffix xs ys (or_parts (is_whitespace x && is_blank (xs ++ ys)) (ends_white (xs ++ ys)) h).1

-- what follows a front of a line's text can occur in a line
pub is_line_text-suffix : (xs ys : List ℕ) → is_line_text (xs ++ ys) ≡ true → is_line_text ys ≡ true
is_line_text-suffix xs ys h =
    let parts = is_line_text-parts (xs ++ ys) h in
    is_line_text-from_parts ys (or_parts (list_any is_line_end xs) (list_any is_line_end ys) (sym (list_any-append is_line_end xs ys) ∙ parts.0)).1 (ends_white-suffix xs ys parts.1)

pub is_line_text-drop : (n : ℕ) (cs : List ℕ) → is_line_text cs ≡ true → is_line_text (drop n cs) ≡ true
is_line_text-drop n cs h = is_line_text-suffix (take n cs) (drop n cs) (ap is_line_text (take-append-drop n cs) ∙ h)

-- where no character passes a test, none does of a front, and none of the rest
pub none-parts : (p : ℕ → Bool) (n : ℕ) (cs : List ℕ) → list_any p cs ≡ false → (list_any p (take n cs) ≡ false) × (list_any p (drop n cs) ≡ false)
none-parts p n cs h = or_parts (list_any p (take n cs)) (list_any p (drop n cs)) (sym (list_any-append p (take n cs) (drop n cs)) ∙ ap (list_any p) (take-append-drop n cs) ∙ h)

-- ---- a text without white characters at its end

is_blank-length : (cs : List ℕ) → is_blank cs ≡ (length cs == 0)
is_blank-length [] = refl
is_blank-length (c ∷ cs) = sym (false_from_ne_true (length (c ∷ cs) == 0) (λ t. absurd (omega (arith, eqb-true (length (c ∷ cs)) 0 t))))

pub ends_white-trimmed : (cs : List ℕ) → ends_white (drop_trailing_whitespace cs) ≡ false
ends_white-trimmed [] = refl
ends_white-trimmed (c ∷ cs) =
    let rest : List ℕ = drop_trailing_whitespace cs in elim (cases_Bool (is_whitespace c && length rest == 0)) [
      | inl gone ↦ rw gone refl
      | inr kept ↦
          (let dark : (is_whitespace c && is_blank rest) ≡ false = ap (λ b. is_whitespace c && b) (is_blank-length rest) ∙ kept in
          rw (kept, dark, ends_white-trimmed cs) refl)
    ]

pub unended-trimmed : (cs : List ℕ) → list_any is_line_end cs ≡ false → list_any is_line_end (drop_trailing_whitespace cs) ≡ false
unended-trimmed [] h = refl
unended-trimmed (c ∷ cs) h =
    let t = or_parts (is_line_end c) (list_any is_line_end cs) h in
    cond_both (is_whitespace c && length (drop_trailing_whitespace cs) == 0) [] (c ∷ drop_trailing_whitespace cs) (λ (l : List ℕ). list_any is_line_end l ≡ false)
    (λ e. refl) (λ e. rw (t.0, unended-trimmed cs t.1) refl)

-- a text without line ends can occur in a line, once it is trimmed
pub is_line_text-trimmed : (cs : List ℕ) → list_any is_line_end cs ≡ false → is_line_text (drop_trailing_whitespace cs) ≡ true
is_line_text-trimmed cs h = is_line_text-from_parts (drop_trailing_whitespace cs) (unended-trimmed cs h) (ends_white-trimmed cs)

-- ---- the lines of a text

unended-spaces : (n : ℕ) (cs : List ℕ) → list_any is_line_end cs ≡ false → list_any is_line_end (replicate n 32 ++ cs) ≡ false
unended-spaces zero cs h = h
unended-spaces (suc n) cs h = unended-spaces n cs h

unended-expanded : (tab column : ℕ) (cs : List ℕ) → list_any is_line_end cs ≡ false → list_any is_line_end (expanded_from tab column cs) ≡ false
unended-expanded tab column [] h = refl
unended-expanded tab column (c ∷ cs) h =
    let t = or_parts (is_line_end c) (list_any is_line_end cs) h in
    let wide = tab - column % tab in
    cond_both (c == 9) (replicate wide 32 ++ expanded_from tab (column + wide) cs) (line_character c ∷ expanded_from tab (column + 1) cs) (λ (l : List ℕ). list_any is_line_end l ≡ false)
    (λ e. unended-spaces wide (expanded_from tab (column + wide) cs) (unended-expanded tab (column + wide) cs t.1))
    (λ e. rw (line_character-keeps is_line_end c refl refl, t.0, unended-expanded tab (column + 1) cs t.1) refl)

-- no piece holds a line end
abbrev AreUnended : List (List ℕ) → Type 0
AreUnended [] = Unit {0}
AreUnended (p ∷ ps) = (list_any is_line_end p ≡ false) × AreUnended ps

AreUnended-pieces : (cs : List ℕ) → AreUnended (pieces cs)
AreUnended-pieces [] = tt
AreUnended-pieces (c ∷ cs) = by (c == 13 && begins_with 10 cs) (is_line_end c) refl (pieces cs) (AreUnended-pieces cs)
  where
    onto : is_line_end c ≡ false → (ps : List (List ℕ)) → AreUnended ps → AreUnended (onto_first c ps)
    onto e [] h = (rw e refl, tt)
    onto e (p ∷ ps) h = (rw (e, h.0) refl, h.1)

    by : (a b : Bool) → is_line_end c ≡ b → (ps : List (List ℕ)) → AreUnended ps → AreUnended (cond a ps (cond b ([] ∷ ps) (onto_first c ps)))
    by true b e ps h = h
    by false true e ps h = (refl, h)
    by false false e ps h = onto e ps h

pub is_line_text-tidied : (tab : ℕ) (piece : List ℕ) → 0 < tab → list_any is_line_end piece ≡ false → is_line_text (tidied tab piece) ≡ true
is_line_text-tidied tab piece wide h = is_line_text-trimmed (expanded tab piece) (ap (list_any is_line_end) (sym (expanded_from-start tab piece wide)) ∙ unended-expanded tab 0 piece h)

are_lines-numbered : (parts : Parts) (tab n : ℕ) (ps : List (List ℕ)) → 0 < tab → AreUnended ps → are_lines (numbered_from parts n (map (tidied tab) ps)) ≡ true
are_lines-numbered parts tab n [] wide h = refl
are_lines-numbered parts tab n (p ∷ ps) wide h = and_from (is_line_text (tidied tab p)) (are_lines (numbered_from parts (n + 1) (map (tidied tab) ps))) (is_line_text-tidied tab p wide h.0) (are_lines-numbered parts tab (n + 1) ps wide h.1)

pub are_lines-lines_of : (parts : Parts) (tab : ℕ) (text : List ℕ) → 0 < tab → are_lines (lines_of parts tab text) ≡ true
are_lines-lines_of parts tab text wide = are_lines-numbered parts tab 1 (pieces text) wide (AreUnended-pieces text)

-- each line of lines
pub is_line_text-first : (i : ℕ) (B : Block) → are_lines B ≡ true → is_line_text (first_text (drop i B)) ≡ true
is_line_text-first i B h = of_first (drop i B) (all-parts (λ (l : Line). is_line_text l.text) i B h).1
  where
    of_first : (X : Block) → are_lines X ≡ true → is_line_text (first_text X) ≡ true
    of_first [] h = is_line_text-nil
    of_first (l ∷ ls) h = (and_parts (is_line_text l.text) (are_lines ls) h).0
