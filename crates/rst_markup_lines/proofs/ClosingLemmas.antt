-- What closes is looked for from the front.
use Rattle.std.proofs.Common.{◌≡◌, ℕ, ◌+◌, ◌-◌, ◌<◌, ◌≤◌, Bool, true, not, ◌&&◌, List, [], ◌∷◌, length, length-drop, drop, Option, None, Some, arith, refl, sym, ap, ◌∙◌}
use Rattle.std.proofs.lemmas.Bool.{and_parts, lt-ltb}
use Rattle.std.proofs.lemmas.List.{drop-drop}
use Rattle.rst_text.specs.Characters.{is_white}
use Rattle.rst_text.specs.Places.{first_from, IsFirst}
use Rattle.rst_text.proofs.PlacesLemmas.{first_from-is, first_from-IsFirst}
use Rattle.rst_text.specs.Escapes.{escapes, is_escaped}
use Rattle.rst_text.proofs.EscapeLemmas.{is_escaped-more}
use Rattle.rst_markup_lines.specs.Closing.{is_closing, is_after_dark, closes, closed}
use Rattle.rst_markup_lines.specs.TextStart.{first}
use Rattle.rst_markup_lines.specs.declared.closing.Closing.{Closing}
use Rattle.rst_markup_lines.specs.declared.closing.Closing.TheVariants.{QuotedColon}
use Rattle.rst_markup_lines.proofs.OptionLemmas.{there}
use Rattle.rst_markup_lines.proofs.SimpleNames.{at-first, inside}

-- ---- a step

-- the character reached, by what precedes it
pub closes-here : (closing : Closing) (t cs : List ℕ) (c n : ℕ) (escaped dark : Bool) → drop n t ≡ cs → first cs ≡ Some c → escaped ≡ is_escaped t 0 n → dark ≡ is_after_dark t n
    → closes closing t n ≡ (not escaped && is_closing closing dark c (drop 1 cs))
unfolding closes
closes-here closing t cs c n escaped dark e f g h =
    let following : drop (n + 1) t ≡ drop 1 cs = sym (drop-drop 1 n t) ∙ ap (drop 1) e in
    rw (at-first t cs c n e f, following, ← g, ← h) refl

-- what precedes the character after it
pub escaped-next : (t cs : List ℕ) (c n : ℕ) (escaped : Bool) → drop n t ≡ cs → first cs ≡ Some c → escaped ≡ is_escaped t 0 n → escapes c escaped ≡ is_escaped t 0 (n + 1)
escaped-next t cs c n escaped e f g = ap (escapes c) g ∙ ap (λ d. escapes d (is_escaped t 0 n)) (sym (at-first t cs c n e f)) ∙ sym (is_escaped-more t 0 n (omega arith))

pub dark-next : (t cs : List ℕ) (c n : ℕ) → drop n t ≡ cs → first cs ≡ Some c → not (is_white c) ≡ is_after_dark t (n + 1)
dark-next t cs c n e f =
    let place : n + 1 - 1 ≡ n = omega arith in
    rw (lt-ltb 0 (n + 1) (omega arith), place, lt-ltb n (length t) (inside t cs c n e f), at-first t cs c n e f) refl

-- ---- the first that closes

pub closed-is : (closing : Closing) (t : List ℕ) (r : Option ℕ) → IsFirst (closes closing t) 0 (length t) r → r ≡ closed closing t
closed-is closing t r h = let all : length t - 0 ≡ length t = omega arith in first_from-is (closes closing t) 0 (length t) r h ∙ ap (first_from (closes closing t) 0) all

pub past-end : (t cs : List ℕ) (n : ℕ) → drop n t ≡ cs → first cs ≡ None → length t ≤ n
past-end t [] n e f = let following : length t - n ≡ 0 = sym (length-drop n t) ∙ ap length e in omega arith
past-end t (c ∷ cs) n e f = cc

found : (closing : Closing) (t : List ℕ) (n : ℕ) → closed closing t ≡ Some n → (n < length t) × (closes closing t n ≡ true)
found closing t n e = go (closed closing t) (first_from-IsFirst (closes closing t) 0 (length t)) e
  where
    go : (r : Option ℕ) → IsFirst (closes closing t) 0 (0 + length t) r → r ≡ Some n → (n < length t) × (closes closing t n ≡ true)
    go (Some i) h e =
        let same : i ≡ n = cc in
        let below : i < 0 + length t = h.1 in
        (omega arith, ap (closes closing t) (sym same) ∙ h.2)
    go None h e = cc

pub closed_within : (closing : Closing) (t : List ℕ) (n : ℕ) → closed closing t ≡ Some n → n < length t
closed_within closing t n e = (found closing t n e).0

-- a quote has a colon after it
pub quoted_within : (t : List ℕ) (n : ℕ) → closed QuotedColon t ≡ Some n → n + 1 < length t
unfolding closes is_closing
quoted_within t n e =
    let quote = (and_parts _ _ (found QuotedColon t n e).1).1 in
    there 58 (n + 1) t (and_parts _ _ (and_parts _ _ quote).1).0
