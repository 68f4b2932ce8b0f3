-- Titles have at most 64 styles.
use Rattle.std.proofs.Common.{◌≡◌, ◌∙◌, ℕ, zero, suc, ◌+◌, ◌≤◌, ◌<◌, true, false, List, [], ◌∷◌, ◌++◌, length, arith, refl}
use Rattle.std.specs.Prelude.{if◌then◌else◌, ◌==◌, nat_lt}
use Rattle.std.specs.Cmp.{IsEquivalence, nat_eq_equiv, bool_eq_equiv}
use Rattle.std.specs.List.{AllByRecursion, IsDistinct}
use Rattle.std.specs.Set.{is_member}
use Rattle.std.proofs.lemmas.Bool.Decides.{nat_tests}
use Rattle.std.proofs.lemmas.Bool.{or_from, eqb-false, ltb-true, ltb-false, cond_both}
use Rattle.std.proofs.lemmas.Cmp.{on_equiv, and_equiv}
use Rattle.std.proofs.lemmas.List.{length-append}
use Rattle.std.proofs.lemmas.Map.Keys.{IsDistinct-push}
use Rattle.std.proofs.lemmas.Map.Made.{length-le_from_is_member}
use Rattle.rst_markup_lines.specs.Adornment.{is_punctuation}
use Rattle.rst_block_nodes.specs.Sections.{same_style, level_of, with_style}
use Rattle.rst_block_nodes.specs.declared.heading.Style.{Style}
use Rattle.rst_tree_laws.proofs.Lists.{all_append}

same_laws : IsEquivalence same_style
same_laws = and_equiv (on_equiv (λ (s : Style). s.character) nat_eq_equiv) (on_equiv (λ (s : Style). s.overlined) bool_eq_equiv)

-- ---- all styles

-- those of the characters below n
styles_below : ℕ → List Style
styles_below zero = []
styles_below (suc n) =
    if is_punctuation n then record { character = n; overlined = false } ∷ record { character = n; overlined = true } ∷ styles_below n else styles_below n

below_has : (n : ℕ) (s : Style) → s.character < n → is_punctuation s.character ≡ true → is_member same_style (styles_below n) s ≡ true
unfolding styles_below
below_has zero s g p = absurd (omega arith)
below_has (suc n) s g p =
    let more = λ (d : (s.character == n) ≡ false). below_has n s (omega (arith, eqb-false s.character n d)) p in
    cond_both (is_punctuation n) _ _ (λ ss. is_member same_style ss s ≡ true) (λ q. grind (arith, more)) (λ q. grind (arith, nat_tests, more, p, q))

-- ---- the styles in use

-- they are different, and of punctuation characters
abbrev pub InUse : List Style → Type 0
InUse styles = IsDistinct same_style styles × AllByRecursion (λ (s : Style). is_punctuation s.character ≡ true) styles

member_has : (styles : List Style) (q : Style) → AllByRecursion (λ (s : Style). is_punctuation s.character ≡ true) styles → is_member same_style styles q ≡ true → is_punctuation q.character ≡ true
member_has [] q u m = absurd (cc)
member_has (t ∷ ts) q u m = let more = member_has ts q u.1 in grind (arith, nat_tests, more, u.0, m)

in_use : (styles : List Style) → InUse styles → length styles ≤ 64
unfolding styles_below
in_use styles u =
    length-le_from_is_member same_laws styles (styles_below 127) u.0
    (λ q m. let p = member_has styles q u.1 m in let ascii : q.character < 127 = grind (arith, nat_tests, p) in below_has 127 q ascii p)

-- a style has a level up to the number of those in use, or the next if it isn't in use
level_fits : (s : Style) (ts : List Style) → (level_of s ts ≤ length ts + 1) × (length ts < level_of s ts → is_member same_style ts s ≡ false)
unfolding level_of
level_fits s [] = (omega arith, λ l. refl)
level_fits s (t ∷ ts) =
    let more = level_fits s ts in
    cond_both (same_style t s) 1 (suc (level_of s ts)) (λ l. (l ≤ length (t ∷ ts) + 1) × (length (t ∷ ts) < l → is_member same_style (t ∷ ts) s ≡ false)) (λ e. (omega arith, λ l. absurd (omega arith)))
    (λ e. (omega (arith, more.0), λ l. or_from (same_style s t) _ (same_laws.symm s t ∙ e) (more.1 (omega arith))))

pub with_fits : (s : Style) (styles : List Style) → InUse styles → is_punctuation s.character ≡ true → (level_of s styles ≤ 64) × InUse (with_style s styles)
with_fits s styles u h =
    let level = level_fits s styles in
    cond_both (nat_lt (length styles) (level_of s styles)) _ _ (λ ss. (level_of s styles ≤ 64) × InUse ss)
    (λ e. let v : InUse (styles ++ s ∷ []) = (IsDistinct-push same_laws styles s u.0 (level.1 (ltb-true (length styles) (level_of s styles) e)), all_append _ styles (s ∷ []) u.1 (h, tt)) in
    (omega (arith, level.0, in_use (styles ++ s ∷ []) v, length-append styles (s ∷ [])), v))
    (λ e. (omega (arith, in_use styles u, ltb-false (length styles) (level_of s styles) e), u))
