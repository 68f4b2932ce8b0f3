-- A backquote that isn't escaped, looked for from the front.
use Rattle.std.proofs.Common.{◌≡◌, ℕ, ◌-◌, ◌<◌, ◌≤◌, ◌==◌, Bool, true, false, not, ◌&&◌, get_or, List, length, Option, Some, None, ap, ◌∙◌, arith}
use Rattle.std.proofs.lemmas.Bool.{lt-ltb}
use Rattle.std.specs.Option.{is_some}
use Rattle.rst_text.specs.Places.{first_from, NoneFrom, IsFirst}
use Rattle.rst_text.proofs.PlacesLemmas.{first_from-is}
use Rattle.rst_text.specs.Escapes.{is_escaped}
use Rattle.rst_markup_directives.specs.Escapes.{is_bare_backquote, has_bare_backquote}

pub bare-at : (t : List ℕ) (i c : ℕ) (escaped b : Bool) → i < length t → c ≡ get_or t i 0 → escaped ≡ is_escaped t 0 i → (c == 96 && not escaped) ≡ b → is_bare_backquote t i ≡ b
bare-at t i c escaped b within here e h = rw (lt-ltb i (length t) within, ← here, ← e) h

has-first : (t : List ℕ) (r : Option ℕ) → IsFirst (is_bare_backquote t) 0 (length t) r → is_some r ≡ has_bare_backquote t
has-first t r h = let all : length t - 0 ≡ length t = omega arith in ap is_some (first_from-is (is_bare_backquote t) 0 (length t) r h ∙ ap (first_from (is_bare_backquote t) 0) all)

pub bare-some : (t : List ℕ) (i : ℕ) → i < length t → is_bare_backquote t i ≡ true → NoneFrom (is_bare_backquote t) 0 i → true ≡ has_bare_backquote t
bare-some t i within here none = has-first t (Some i) (omega arith, within, here, none)

pub bare-none : (t : List ℕ) (i : ℕ) → length t ≤ i → NoneFrom (is_bare_backquote t) 0 i → false ≡ has_bare_backquote t
bare-none t i past none = has-first t None (λ k low high. none k low (omega arith))
