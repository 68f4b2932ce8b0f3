-- A Roman numeral has only some letters.
use Rattle.std.proofs.Common.{◌≡◌, ℕ, zero, suc, ◌+◌, ◌<◌, ⊎_elim, Bool, true, false, List, None, true≢false, refl, sym, ap, ◌∙◌, arith}
use Rattle.std.specs.Str.{bytes_eq}
use Rattle.std.specs.List.{list_all}
use Rattle.rst_text.specs.Places.{all_from, first_from}
use Rattle.rst_text.proofs.PlacesLemmas.{all_from-at, cases_bool}
use Rattle.rst_markup_lines.specs.Roman.{numeral_of, roman, is_numeral_letter}
use Rattle.rst_markup_lines.specs.declared.enumerator.Case.{Case}
use Rattle.rst_markup_lines.specs.declared.enumerator.Case.TheVariants.{Lower, Upper}
use Rattle.rst_markup_lines.proofs.RomanLemmas.{same_bytes}

in_numeral : (case : Case) → all_from (λ n. list_all is_numeral_letter (numeral_of case n)) 0 5000 ≡ true
in_numeral Lower = refl
in_numeral Upper = refl

none_first : (p : ℕ → Bool) (low n : ℕ) → ((k : ℕ) → k < low + n → p k ≡ false) → first_from p low n ≡ None
none_first p low zero h = refl
none_first p low (suc n) h = rw (h low (omega arith)) (none_first p (low + 1) n (λ k less. h k (omega (arith, less))))

-- letters that aren't all of such are no numeral
pub other_letter : (case : Case) (ls : List ℕ) → list_all is_numeral_letter ls ≡ false → roman case ls ≡ None
unfolding roman
other_letter case ls h = none_first test 0 5000 no
  where
    test : ℕ → Bool
    test n = bytes_eq (numeral_of case n) ls

    no : (n : ℕ) → n < 5000 → test n ≡ false
    no n less = ⊎_elim
        (λ yes.
        let inside = all_from-at (λ k. list_all is_numeral_letter (numeral_of case k)) 0 5000 (in_numeral case) n (omega arith) less in
        absurd (true≢false (sym inside ∙ ap (list_all is_numeral_letter) (same_bytes (numeral_of case n) ls yes) ∙ h)))
        (λ f. f)
        (cases_bool (test n))
