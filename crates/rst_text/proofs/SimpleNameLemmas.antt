-- Simple reference names, read place by place.
use Rattle.std.proofs.Common.{◌≡◌, ℕ, ltb, ◌-◌, ◌<◌, ◌≤◌, true, false, not, Option, None, length, refl, sym, ap, ◌∙◌, arith}
use Rattle.std.proofs.lemmas.Bool.Decides.{nat_tests}
use Rattle.rst_text.specs.Characters.{Text, is_alnum_at}
use Rattle.rst_text.specs.Places.{all_from, IsFirst}
use Rattle.rst_text.specs.SimpleNames.{is_name_at, is_simple_name, name_stop}
use Rattle.rst_text.proofs.PlacesLemmas.{first_from-is, all_from-all, all_from-stop}

-- a text with a place that can't be one of a simple name is none
pub not_simple : (t : Text) (i : ℕ) → i < length t → is_name_at t i ≡ false → is_simple_name t ≡ false
unfolding is_simple_name
not_simple t i within h =
    let all : length t - 0 ≡ length t = omega arith in
    let none : all_from (is_name_at t) 0 (length t) ≡ false = ap (all_from (is_name_at t) 0) (sym all) ∙ all_from-stop (is_name_at t) 0 i (length t) (omega arith) within h in
    rw none (grind (arith, nat_tests))

-- a text of which each place may be one of a simple name is one, unless it is empty
pub simple-where : (t : Text) (i : ℕ) → length t ≤ i → ((k : ℕ) → k < i → is_name_at t k ≡ true) → ltb 0 (length t) ≡ is_simple_name t
unfolding is_simple_name
simple-where t i past h = rw (all_from-all (is_name_at t) 0 (length t) (λ k above below. h k (omega arith))) (grind (arith, nat_tests))

-- what a search for the name's end found, where it begins with a letter or a number
pub name_stop-is : (t : Text) (i : ℕ) (r : Option ℕ) → is_alnum_at t i ≡ true → IsFirst (λ k. not (is_name_at t k)) i (length t) r → r ≡ name_stop t i
unfolding name_stop
name_stop-is t i r alnum h = rw alnum (first_from-is (λ k. not (is_name_at t k)) i (length t) r h)

pub name_stop-none : (t : Text) (i : ℕ) → is_alnum_at t i ≡ false → name_stop t i ≡ None
unfolding name_stop
name_stop-none t i h = rw h refl
