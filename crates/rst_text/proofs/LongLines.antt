-- Lines that are too long.
use Rattle.std.proofs.Common.{◌≡◌, ℕ, suc, ◌+◌, ◌-◌, ◌*◌, ◌/◌, ◌%◌, ◌<◌, ◌≤◌, ◌==◌, nat_lt, Bool, true, false, cond, if◌then◌else◌, List, [], ◌∷◌, ◌++◌, length, length-append, map, replicate, refl, sym, ap, ◌∙◌, subst, arith, append_assoc, option_map, None, Some}
use Rattle.std.specs.List.{find}
use Rattle.std.specs.Str.{IsUtf8, chars}
use Rattle.std.proofs.Math.Utf8.{encode}
use Rattle.std.proofs.Math.Nat.{div-mul-le_self, suc-mul}
use Rattle.std.proofs.lemmas.Bool.{eqb-true, lt-ltb, le-ltb, false_from_ne_true}
use Rattle.std.proofs.lemmas.List.{length-replicate}
use Rattle.std.proofs.lemmas.Nat.{mul-le}
use Rattle.std.proofs.lemmas.Str.{chars_past_char}
use Rattle.rst_settings.specs.declared.Parts.{Parts}
use Rattle.rst_text.specs.Block.{Line}
use Rattle.rst_text.specs.Lines.{expanded, first_longer, numbered_from, pieces, line_character, tidied}
use Rattle.rst_text.proofs.Indenting.{no_chars}
use Rattle.rst_text.proofs.LinesLemmas.{length-chars}
use Rattle.rst_text.proofs.Scanning.{past_char}
use Rattle.rst_text.proofs.Tabs.{expanded_from, expanded_from-start}

-- how many columns a character takes at a column
abbrev pub width : ℕ → ℕ → ℕ → ℕ
width tab column c = if c == 9 then tab - column % tab else 1

pub width-tab : (tab column c : ℕ) → c ≡ 9 → tab - column % tab ≡ width tab column c
width-tab tab column c is = rw is refl

pub width-other : (tab column c : ℕ) → (c ≡ 9 → ⊥) → 1 ≡ width tab column c
width-other tab column c other = rw (false_from_ne_true (c == 9) (λ t. other (eqb-true c 9 t))) refl

expanded-width : (tab column c : ℕ) (cs : List ℕ) → length (expanded_from tab column (c ∷ cs)) ≡ width tab column c + length (expanded_from tab (column + width tab column c) cs)
expanded-width tab column c cs = by (c == 9)
  where
    by : (b : Bool) → length (cond b (replicate (tab - column % tab) 32 ++ expanded_from tab (column + (tab - column % tab)) cs) (line_character c ∷ expanded_from tab (column + 1) cs))
        ≡ cond b (tab - column % tab) 1 + length (expanded_from tab (column + cond b (tab - column % tab) 1) cs)
    by true =
        length-append (replicate (tab - column % tab) 32) (expanded_from tab (column + (tab - column % tab)) cs)
        ∙ ap (λ n. n + length (expanded_from tab (column + (tab - column % tab)) cs)) (length-replicate (tab - column % tab) 32)
    by false = omega arith

narrow : (tab column c : ℕ) → 0 < tab → width tab column c ≤ tab
narrow tab column c some = by (c == 9)
  where
    by : (b : Bool) → cond b (tab - column % tab) 1 ≤ tab
    by true = omega arith
    by false = omega arith

-- each character takes as many columns as a tab at most
expanded-narrow : (tab column : ℕ) (cs : List ℕ) → 0 < tab → length (expanded_from tab column cs) ≤ length cs * tab
expanded-narrow tab column [] some = omega arith
expanded-narrow tab column (c ∷ cs) some =
    omega (arith, expanded-width tab column c cs, narrow tab column c some, expanded-narrow tab (column + width tab column c) cs some, suc-mul (length cs) tab)

-- a piece of so few bytes is not too long
pub short-piece : (limit tab : ℕ) (piece : List ℕ) → IsUtf8 piece → 0 < tab → length piece ≤ limit / tab → false ≡ nat_lt limit (length (expanded tab (chars piece)))
short-piece limit tab piece good some short =
    sym (le-ltb limit _ (omega (
      arith,
      ap length (expanded_from-start tab (chars piece) some),
      expanded-narrow tab 0 (chars piece) some,
      mul-le (length (chars piece)) tab (limit / tab) tab (omega (arith, length-chars piece good, short)) (omega arith),
      div-mul-le_self limit tab,
    )))

-- What is left of a piece begins at a column.
pub record Measures (limit tab column : ℕ) (piece rest : List ℕ) : Type 0 where
  pub within : column ≤ limit
  pub value : length (expanded tab (chars piece)) ≡ column + length (expanded_from tab column (chars rest))
  pub utf8 : IsUtf8 rest

pub Measures-start : (limit tab : ℕ) (piece rest : List ℕ) → IsUtf8 piece → rest ≡ piece → 0 < tab → Measures limit tab 0 piece rest
Measures-start limit tab piece rest good same some = record {
  within = omega arith;
  value = omega (arith, ap (λ l. length (expanded_from tab 0 (chars l))) same, ap length (expanded_from-start tab (chars piece) some));
  utf8 = subst IsUtf8 (sym same) good;
}

measured : (limit tab column : ℕ) (piece rest after : List ℕ) (c : ℕ) → Measures limit tab column piece rest → rest ≡ encode c ++ after
    → length (expanded tab (chars piece)) ≡ (column + width tab column c) + length (expanded_from tab (column + width tab column c) (chars after))
measured limit tab column piece rest after c m split =
    omega (arith, m.value, ap (λ l. length (expanded_from tab column l)) (chars_past_char rest after c m.utf8 split), expanded-width tab column c (chars after))

pub Measures-step : (limit tab column wide : ℕ) (piece rest after : List ℕ) (c : ℕ) → Measures limit tab column piece rest → rest ≡ encode c ++ after
    → wide ≡ width tab column c → wide ≤ limit - column → Measures limit tab (column + wide) piece after
Measures-step limit tab column wide piece rest after c m split is low = record {
  within = omega (arith, m.within);
  value = rw is (measured limit tab column piece rest after c m split);
  utf8 = (past_char rest after c m.utf8 split).1;
}

pub Measures-over : (limit tab column wide : ℕ) (piece rest after : List ℕ) (c : ℕ) → Measures limit tab column piece rest → rest ≡ encode c ++ after
    → wide ≡ width tab column c → limit - column < wide → true ≡ nat_lt limit (length (expanded tab (chars piece)))
Measures-over limit tab column wide piece rest after c m split is high = sym (lt-ltb limit _ (omega (arith, m.within, is, measured limit tab column piece rest after c m split)))

pub Measures-end : (limit tab column : ℕ) (piece rest : List ℕ) → Measures limit tab column piece rest → length rest ≡ 0 → false ≡ nat_lt limit (length (expanded tab (chars piece)))
Measures-end limit tab column piece rest m none =
    sym (le-ltb limit _ (omega (arith, m.within, m.value, ap (λ l. length (expanded_from tab column l)) (no_chars rest none))))

-- ---- the first of some lines

-- Where none is too long, the first is among those after it.
longer-after : (parts : Parts) (limit n : ℕ) (before after : List (List ℕ)) → first_longer limit (numbered_from parts n before) ≡ None
    → first_longer limit (numbered_from parts n (before ++ after)) ≡ first_longer limit (numbered_from parts (n + length before) after)
longer-after parts limit n [] after none = let same : n ≡ n + 0 = omega arith in ap (λ k. first_longer limit (numbered_from parts k after)) same
longer-after parts limit n (text ∷ before) after none = by (nat_lt limit (length text)) (longer-after parts limit (n + 1) before after) none
  where
    by : (b : Bool) → (first_longer limit (numbered_from parts (n + 1) before) ≡ None → first_longer limit (numbered_from parts (n + 1) (before ++ after)) ≡ first_longer limit (numbered_from parts ((n + 1) + length before) after))
        → option_map (λ (l : Line). l.number) (cond b (Some (record { number = n; text = text; parts = parts })) (find (λ (l : Line). nat_lt limit (length l.text)) (numbered_from parts (n + 1) before))) ≡ None
        → option_map (λ (l : Line). l.number) (cond b (Some (record { number = n; text = text; parts = parts })) (find (λ (l : Line). nat_lt limit (length l.text)) (numbered_from parts (n + 1) (before ++ after))))
        ≡ first_longer limit (numbered_from parts (n + suc (length before)) after)
    by true go none = absurd cc
    by false go none = let same : (n + 1) + length before ≡ n + suc (length before) = omega arith in go none ∙ ap (λ k. first_longer limit (numbered_from parts k after)) same

-- The next line is not too long.
pub with_next : (parts : Parts) (limit tab : ℕ) (kept now all : List (List ℕ)) (rest piece after line : List ℕ) → kept ++ map (tidied tab) (pieces (chars rest)) ≡ all
    → first_longer limit (numbered_from parts 1 kept) ≡ None → pieces (chars rest) ≡ piece ∷ pieces (chars after) → line ≡ tidied tab piece
    → nat_lt limit (length (tidied tab piece)) ≡ false → now ≡ kept ++ line ∷ []
    → (now ++ map (tidied tab) (pieces (chars after)) ≡ all) × (first_longer limit (numbered_from parts 1 now) ≡ None)
with_next parts limit tab kept now all rest piece after line read none cut is short are = rw (are, is) (
  append_assoc kept (tidied tab piece ∷ []) (map (tidied tab) (pieces (chars after))) ∙ ap (λ l. kept ++ map (tidied tab) l) (sym cut) ∙ read,
  longer-after parts limit 1 kept (tidied tab piece ∷ []) none ∙ rw short refl,
)

-- The next line is too long.
pub first_is : (parts : Parts) (limit tab : ℕ) (kept all : List (List ℕ)) (rest piece after : List ℕ) → kept ++ map (tidied tab) (pieces (chars rest)) ≡ all
    → first_longer limit (numbered_from parts 1 kept) ≡ None → pieces (chars rest) ≡ piece ∷ pieces (chars after)
    → nat_lt limit (length (tidied tab piece)) ≡ true → first_longer limit (numbered_from parts 1 all) ≡ Some (1 + length kept)
first_is parts limit tab kept all rest piece after read none cut long =
    ap (λ l. first_longer limit (numbered_from parts 1 l)) (sym read ∙ ap (λ l. kept ++ map (tidied tab) l) cut)
    ∙ longer-after parts limit 1 kept (map (tidied tab) (piece ∷ pieces (chars after))) none ∙ rw long refl
