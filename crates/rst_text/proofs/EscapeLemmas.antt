-- How far escapes reach.
use Rattle.std.proofs.Common.{◌≡◌, ℕ, zero, suc, ◌+◌, ◌-◌, ◌<◌, ◌≤◌, Bool, true, false, ◌&&◌, ◌==◌, cond, if◌then◌else◌, [], ◌∷◌, leb, get_or, refl, sym, ap, ap₂, ◌∙◌, subst, arith, add-one}
use Rattle.std.proofs.lemmas.Bool.{le-leb, eqb-true, and_parts, or_parts}
use Rattle.std.proofs.lemmas.Bool.Decides.{nat_tests}
use Rattle.rst_text.specs.Characters.{is_white, Text, has}
use Rattle.rst_text.specs.Escapes.{escapes, is_escaped, has_backslash, unescaped}

pub is_escaped-start : (t : Text) (from : ℕ) → is_escaped t from from ≡ false
unfolding is_escaped
is_escaped-start t zero = refl
is_escaped-start t (suc n) = grind (arith, nat_tests)

is_escaped-step : (t : Text) (from i : ℕ) → is_escaped t from (i + 1) ≡ (leb from i && escapes (get_or t i 0) (is_escaped t from i))
unfolding is_escaped
is_escaped-step t from i = rw add-one refl

pub is_escaped-more : (t : Text) (from i : ℕ) → from ≤ i → is_escaped t from (i + 1) ≡ escapes (get_or t i 0) (is_escaped t from i)
is_escaped-more t from i h = rw is_escaped-step (rw (le-leb from i h) refl)

-- a character that is no backslash escapes nothing
pub IsBare : Text → ℕ → Type 0
IsBare t i = (b : Bool) → escapes (get_or t i 0) b ≡ false

bare_at : (c b : ℕ) → c ≡ b → (b == 92) ≡ false → (x : Bool) → escapes c x ≡ false
bare_at c b h k x = rw (h, k) refl

pub has-bare : (t : Text) (i c : ℕ) → (c == 92) ≡ false → has t i c ≡ true → IsBare t i
unfolding IsBare
has-bare t i c e h = bare_at (get_or t i 0) c (eqb-true _ _ (and_parts _ _ h).1) e

pub other-bare : (t : Text) (i : ℕ) → (get_or t i 0 == 92) ≡ false → IsBare t i
unfolding IsBare
other-bare t i h = bare_at (get_or t i 0) (get_or t i 0) refl h

pub is_escaped-bare : (t : Text) (from i : ℕ) → from ≤ i → IsBare t i → is_escaped t from (i + 1) ≡ false
unfolding IsBare
is_escaped-bare t from i h bare = is_escaped-more t from i h ∙ bare (is_escaped t from i)

-- after a character that is no backslash it is the same how far back escapes are counted
agree : (t : Text) (s i n : ℕ) → s ≤ i → IsBare t i → is_escaped t s (i + 1 + n) ≡ is_escaped t i (i + 1 + n)
agree t s i zero h bare =
    let e : i + 1 + 0 ≡ i + 1 = omega arith in
    rw e (is_escaped-bare t s i h bare ∙ sym (is_escaped-bare t i i (omega arith) bare))
agree t s i (suc n) h bare =
    let e : i + 1 + suc n ≡ i + 1 + n + 1 = omega arith in
    rw e (is_escaped-more t s (i + 1 + n) (omega arith) ∙ ap (escapes (get_or t (i + 1 + n) 0)) (agree t s i n h bare) ∙ sym (is_escaped-more t i (i + 1 + n) (omega arith)))

pub is_escaped-agree : (t : Text) (s i k : ℕ) → s ≤ i → i < k → IsBare t i → is_escaped t s k ≡ is_escaped t i k
is_escaped-agree t s i k h less bare =
    let e : i + 1 + (k - (i + 1)) ≡ k = omega arith in subst (λ k. is_escaped t s k ≡ is_escaped t i k) e (agree t s i (k - (i + 1)) h bare)

-- without a backslash a text has no escapes
pub unescaped-plain : (t : Text) → has_backslash t ≡ false → unescaped t ≡ t
unescaped-plain [] h = refl
unescaped-plain (c ∷ []) h = ap (λ b. cond b [] (c ∷ [])) (or_parts (c == 92) false h).0
unescaped-plain (c ∷ d ∷ cs) h =
    let parts = or_parts (c == 92) (has_backslash (d ∷ cs)) h in
    ap (λ b. cond b (cond (is_white d) (unescaped cs) (d ∷ unescaped cs)) (c ∷ unescaped (d ∷ cs))) parts.0 ∙ ap (λ rest. c ∷ rest) (unescaped-plain (d ∷ cs) parts.1)

-- what is left of characters after a backslash that isn't itself escaped, or after none
abbrev pub unescaped_from : Bool → Text → Text
unescaped_from escaped [] = []
unescaped_from true (c ∷ cs) = if is_white c then unescaped_from false cs else c ∷ unescaped_from false cs
unescaped_from false (c ∷ cs) = if c == 92 then unescaped_from true cs else c ∷ unescaped_from false cs

-- so a text without its escapes can be read a character at a time
pub unescaped-read : (t : Text) → unescaped_from false t ≡ unescaped t
unescaped-read [] = refl
unescaped-read (c ∷ []) = refl
unescaped-read (c ∷ d ∷ cs) =
    ap₂ (λ rest all. cond (c == 92) (cond (is_white d) rest (d ∷ rest)) (c ∷ all)) (unescaped-read cs) (unescaped-read (d ∷ cs))
