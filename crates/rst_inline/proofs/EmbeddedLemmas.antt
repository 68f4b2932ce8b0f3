-- Angle brackets at the end of a phrase.
use Rattle.std.proofs.Common.{◌≡◌, ℕ, ◌+◌, ◌-◌, ◌<◌, ◌≤◌, Bool, true, false, not, ◌&&◌, ◌==◌, nat_lt, [], ◌∷◌, Option, Some, None, IfSome, length, take, drop, get_or, unwrap_or, refl, sym, ap, ap₂, subst, cond, ◌∙◌, arith}
use Rattle.std.specs.List.{list_any}
use Rattle.std.proofs.lemmas.Bool.{lt-ltb, ltb-true, and_parts, or_parts, cond_both}
use Rattle.std.proofs.lemmas.List.{drop-take, drop-drop, take-take, length-take-le, length-drop}
use Rattle.rst_settings.specs.declared.Parts.{Parts}
use Rattle.rst_text.specs.Characters.{is_white, Text, has, without_white}
use Rattle.rst_text.specs.Places.{last_from, IsLast}
use Rattle.rst_text.proofs.PlacesLemmas.{last_from-is}
use Rattle.rst_text.specs.Escapes.{is_escaped, unescaped}
use Rattle.rst_text.proofs.EscapeLemmas.{unescaped_from, unescaped-read}
use Rattle.rst_inline.specs.Embedded.{opens_angle, ends_with, last_angle, embedded_at, dark_end, enclosed, is_alias, meant, phrase_display_text}
use Rattle.rst_inline.specs.Readings.{embedded_reading, phrase_reading_at, phrase_reading}
use Rattle.rst_inline_scan.specs.declared.piece.Suffix.{Suffix}
use Rattle.rst_inline.specs.Parts.{part, content}
use Rattle.rst_inline_scan.specs.Pieces.{IsWithin}
use Rattle.rst_inline_scan.specs.declared.piece.Piece.{Piece}

-- the last character, where it has been reached
pub ends_with-is : (t : Text) (c place : ℕ) (escaped : Bool) → place ≡ length t - 1 → escaped ≡ is_escaped t 0 place → (has t place c && not escaped) ≡ ends_with t c
unfolding ends_with
ends_with-is t c place escaped last known =
    ap (λ b. has t place c && not b) known ∙ ap (λ n. has t n c && not (is_escaped t 0 n)) last

pub opens_angle-is : (t : Text) (place c : ℕ) (escaped : Bool) → place < length t → get_or t place 0 ≡ c → escaped ≡ is_escaped t 0 place → opens_angle t place ≡ (c == 60 && not escaped)
unfolding opens_angle
opens_angle-is t place c escaped less here known =
    ap (λ b. (b && get_or t place 0 == 60) && not (is_escaped t 0 place)) (lt-ltb place (length t) less)
    ∙ ap (λ x. x == 60 && not (is_escaped t 0 place)) here ∙ ap (λ b. c == 60 && not b) (sym known)

pub last_angle-is : (t : Text) (r : Option ℕ) → IsLast (opens_angle t) 0 (length t) r → r ≡ last_angle t
unfolding last_angle
last_angle-is t r h = last_from-is (opens_angle t) 0 (length t) r h ∙ ap (last_from (opens_angle t) 0) (let e : length t - 0 ≡ length t = omega arith in e)

pub last-below : (p : ℕ → Bool) (low high : ℕ) (r : Option ℕ) → IsLast p low high r → IfSome r (λ place. place < high)
last-below p low high (Some i) h = h.1
last-below p low high None h = tt

-- ---- the end of what is not white

abbrev pub DarkTest : Text → ℕ → Bool
DarkTest t e = not (is_white (get_or t (e - 1) 0))

pub dark_end-by : (t : Text) (k : ℕ) (r : Option ℕ) → IsLast (DarkTest t) 1 (k + 1) r → unwrap_or r 0 ≡ dark_end t k
unfolding dark_end
dark_end-by t k r h =
    let e : k + 1 - 1 ≡ k = omega arith in
    ap (λ r. unwrap_or r 0) (last_from-is (DarkTest t) 1 (k + 1) r h ∙ ap (last_from (DarkTest t) 1) e)

pub alias-some : (u : Text) → is_alias u ≡ true → 1 ≤ length u
unfolding is_alias
alias-some u h = let less : 1 < length u = ltb-true 1 (length u) (and_parts (nat_lt 1 (length u)) (ends_with u 95) h).0 in omega arith

-- ---- parts of a phrase

-- a part of a part
pub part-part : (t : Text) (from to low high : ℕ) → from + high ≤ to → part (part t from to) low high ≡ part t (from + low) (from + high)
part-part t from to low high within =
    let e : from + high ≤ to = within in
    ap (drop low) (sym (drop-take from high (take to t))) ∙ drop-drop low from (take (from + high) (take to t)) ∙ ap (drop (from + low)) (take-take (from + high) to t e)

-- a text without white has none without its escapes
dark-more : (c : ℕ) (t : Text) → is_white c ≡ false → without_white t ≡ t → without_white (c ∷ t) ≡ c ∷ t
dark-more c t dark rest = ap (λ b. cond (not b) (c ∷ without_white t) (without_white t)) dark ∙ ap (λ t. c ∷ t) rest

dark-from : (escaped : Bool) (t : Text) → list_any is_white t ≡ false → without_white (unescaped_from escaped t) ≡ unescaped_from escaped t
dark-from escaped [] h = refl
dark-from true (c ∷ cs) h =
    let parts = or_parts (is_white c) (list_any is_white cs) h in
    let rest = unescaped_from false cs in
    subst (λ b. without_white (cond b rest (c ∷ rest)) ≡ cond b rest (c ∷ rest)) (sym parts.0) (dark-more c rest parts.0 (dark-from false cs parts.1))
dark-from false (c ∷ cs) h =
    let parts = or_parts (is_white c) (list_any is_white cs) h in
    cond_both (c == 92) (unescaped_from true cs) (c ∷ unescaped_from false cs) (λ t. without_white t ≡ t)
    (λ e. dark-from true cs parts.1)
    (λ e. dark-more c (unescaped_from false cs) parts.0 (dark-from false cs parts.1))

pub dark-unescaped : (t : Text) → list_any is_white t ≡ false → unescaped t ≡ without_white (unescaped t)
dark-unescaped t h = sym (ap without_white (sym (unescaped-read t)) ∙ dark-from false t h ∙ unescaped-read t)

-- the length of a part
length-part : (t : Text) (low high : ℕ) → high ≤ length t → length (part t low high) ≡ high - low
length-part t low high within = length-drop low (take high t) ∙ ap (λ n. n - low) (length-take-le high t within)

-- an alias without its underscore
pub alias-part : (t : Text) (low high : ℕ) → high ≤ length t → 1 ≤ length (part t low high) → part t low (high - 1) ≡ part (part t low high) 0 (length (part t low high) - 1)
alias-part t low high within some =
    let long = length-part t low high within in
    let e : low + (length (part t low high) - 1) ≡ high - 1 = omega (arith, long) in
    let from : low + 0 ≡ low = omega arith in
    sym (part-part t low high 0 (length (part t low high) - 1) (omega (arith, long)) ∙ ap₂ (part t) from e)

-- what the angle brackets of a piece's phrase hold
pub enclosed-part : (t : Text) (p : Piece) (place : ℕ) → IsWithin t p → place + 2 < length (content t p)
    → part t (p.content_from + place + 1) (p.content_to - 1) ≡ enclosed (content t p) place
enclosed-part t p place within h =
    let ends : p.content_to ≤ length t = omega (arith, within.limit, within.within) in
    let long = length-part t p.content_from p.content_to ends in
    let from : p.content_from + (place + 1) ≡ p.content_from + place + 1 = omega arith in
    let to : p.content_from + (length (content t p) - 1) ≡ p.content_to - 1 = omega (arith, long) in
    sym (part-part t p.content_from p.content_to (place + 1) (length (content t p) - 1) (omega (arith, long)) ∙ ap₂ (part t) from to)

-- what precedes them
pub before-part : (t : Text) (p : Piece) (end : ℕ) → IsWithin t p → end ≤ length (content t p) → part t p.content_from (p.content_from + end) ≡ part (content t p) 0 end
before-part t p end within h =
    let ends : p.content_to ≤ length t = omega (arith, within.limit, within.within) in
    let from : p.content_from + 0 ≡ p.content_from = omega arith in
    sym (part-part t p.content_from p.content_to 0 end (omega (arith, length-part t p.content_from p.content_to ends)) ∙ ap (λ from. part t from (p.content_from + end)) from)

pub phrase-embedded : (parts : Parts) (suffix : Suffix) (from phrase source display_text meaning : Text) (place line : ℕ) (alias : Bool) → source ≡ from → display_text ≡ phrase_display_text parts.mail phrase place
    → meaning ≡ meant parts.mail (enclosed phrase place) → alias ≡ is_alias (enclosed phrase place) → Some place ≡ embedded_at phrase
    → embedded_reading parts.unmarked suffix source display_text meaning alias line ≡ phrase_reading parts suffix from phrase line
phrase-embedded parts suffix from phrase source display_text meaning place line alias first second third fourth at =
    rw (first, second, third, fourth) (ap (λ place. phrase_reading_at parts suffix from phrase place line) at)
