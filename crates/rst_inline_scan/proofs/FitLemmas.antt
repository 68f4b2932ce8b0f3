-- Pieces lie within the text, and are not empty.
use Rattle.std.proofs.Common.{◌≡◌, ℕ, ◌+◌, ◌<◌, ◌≤◌, Bool, true, ◌&&◌, cond, Option, Some, None, length, refl, subst, arith}
use Rattle.std.specs.Option.{option_or}
use Rattle.std.proofs.lemmas.Bool.{ltb-true, and_parts}
use Rattle.rst_text.specs.Characters.{Text, has}
use Rattle.rst_text.proofs.Choices.{either, none_is, some_is}
use Rattle.rst_inline_scan.specs.Characters.{is_free_after}
use Rattle.rst_inline_scan.specs.Tails.{anonymous_tail, named_tail, name_tail, role_tail, bare_tail}
use Rattle.rst_inline_scan.specs.declared.piece.Piece.{Piece}
use Rattle.rst_inline_scan.specs.declared.piece.Tail.{Tail}
use Rattle.rst_inline_scan.specs.declared.piece.Suffix.TheVariants.{Bare, Role, Named, Anonymous}

pub record Fits (t : Text) (i : ℕ) (p : Piece) : Type 0 where
  pub begins : p.from ≡ i
  pub some : i < p.to
  pub within : p.to ≤ length t
  pub above : i ≤ p.content_from
  pub order : p.content_from ≤ p.content_to
  pub limit : p.content_to ≤ p.to

-- each piece that there may be fits
abbrev pub Fit : Text → ℕ → Option Piece → Type 0
Fit t i r = (p : Piece) → r ≡ Some p → Fits t i p

pub has-lt : (t : Text) (i c : ℕ) → has t i c ≡ true → i < length t
has-lt t i c h = ltb-true i (length t) (and_parts _ _ h).0

pub Fit-none : (t : Text) (i : ℕ) → Fit t i None
Fit-none t i p h = absurd (none_is h)

pub Fit-some : (t : Text) (i : ℕ) (q : Piece) → Fits t i q → Fit t i (Some q)
Fit-some t i q fits p h = subst (Fits t i) (some_is h) fits

pub Fit-or : (t : Text) (i : ℕ) (r s : Option Piece) → Fit t i r → Fit t i s → Fit t i (option_or r s)
Fit-or t i (Some q) s first second p h = first p h
Fit-or t i None s first second p h = second p h

-- ---- tails

-- a tail that there may be ends at or past the place, and within the text
abbrev pub TailFits : Text → ℕ → Option Tail → Type 0
TailFits t e r = (tail : Tail) → r ≡ Some tail → (e ≤ tail.to) × (tail.to ≤ length t)

no_tail : (t : Text) (e : ℕ) → TailFits t e None
no_tail t e tail h = absurd (none_is h)

tail_if : (t : Text) (e : ℕ) (b : Bool) (made : Tail) → (b ≡ true → (e ≤ made.to) × (made.to ≤ length t)) → TailFits t e (cond b (Some made) None)
tail_if t e b made fits = either b (Some made) None (TailFits t e) (λ yes tail h. subst (λ (tail : Tail). (e ≤ tail.to) × (tail.to ≤ length t)) (some_is h) (fits yes)) (no_tail t e)

pub TailFits-or : (t : Text) (e : ℕ) (r s : Option Tail) → TailFits t e r → TailFits t e s → TailFits t e (option_or r s)
TailFits-or t e (Some q) s first second tail h = first tail h
TailFits-or t e None s first second tail h = second tail h

pub bare_tail-fits : (t : Text) (e : ℕ) → e ≤ length t → TailFits t e (bare_tail t e)
bare_tail-fits t e h = tail_if t e (is_free_after t e) (record { suffix = Bare; to = e }) (λ free. (omega arith, h))

named_tail-fits : (t : Text) (e : ℕ) → TailFits t e (named_tail t e)
named_tail-fits t e = tail_if t e (has t e 95 && is_free_after t (e + 1)) (record { suffix = Named; to = e + 1 })
    (λ fits. let l : e < length t = has-lt t e 95 (and_parts (has t e 95) (is_free_after t (e + 1)) fits).0 in (omega arith, omega arith))

anonymous_tail-fits : (t : Text) (e : ℕ) → TailFits t e (anonymous_tail t e)
anonymous_tail-fits t e = tail_if t e (has t e 95 && (has t (e + 1) 95 && is_free_after t (e + 2))) (record { suffix = Anonymous; to = e + 2 })
    (λ fits.
    let second = (and_parts (has t e 95) (has t (e + 1) 95 && is_free_after t (e + 2)) fits).1 in
    let l : e + 1 < length t = has-lt t (e + 1) 95 (and_parts (has t (e + 1) 95) (is_free_after t (e + 2)) second).0 in
    (omega arith, omega arith))

pub name_tail-fits : (t : Text) (e : ℕ) → TailFits t e (name_tail t e)
unfolding name_tail
name_tail-fits t e = TailFits-or t e (anonymous_tail t e) (named_tail t e) (anonymous_tail-fits t e) (named_tail-fits t e)

pub role_tail-fits : (t : Text) (e : ℕ) (r : Option ℕ) → ((k : ℕ) → r ≡ Some k → (e < k) × (k ≤ length t)) → TailFits t e (role_tail t r)
role_tail-fits t e (Some k) h = tail_if t e (is_free_after t k) (record { suffix = Role; to = k }) (λ free. let above : e < k = (h k refl).0 in (omega arith, (h k refl).1))
role_tail-fits t e None h = no_tail t e
