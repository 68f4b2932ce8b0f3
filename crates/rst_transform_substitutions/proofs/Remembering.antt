-- What names find is remembered.
use Rattle.std.proofs.Common.{◌≡◌, ℕ, List, Bool, true, false, refl, sym, ◌∙◌}
use Rattle.std.specs.Prelude.{if◌then◌else◌, Option, Some}
use Rattle.std.specs.Str.{bytes_eq}
use Rattle.std.proofs.lemmas.Slice.Eq.{bytes_eq-Decides}

-- what one more name finds is remembered
right-case : (right : List ℕ → Option ℕ) (name other : List ℕ) (found place : Option ℕ) (before : Option (Option ℕ)) (same : Bool) → bytes_eq other name ≡ same → (if same then Some found else before) ≡ Some place
    → found ≡ right name → (before ≡ Some place → place ≡ right other) → place ≡ right other
right-case right name other found place before true same put is was = let at = (bytes_eq-Decides other name).0 same in cc
right-case right name other found place before false same put is was = was put

pub right-more : (right : List ℕ → Option ℕ) (old new : List ℕ → Option (Option ℕ)) (name : List ℕ) (found : Option ℕ) → ((other : List ℕ) → new other ≡ (if bytes_eq other name then Some found else old other)) → found ≡ right name
    → ((other : List ℕ) (place : Option ℕ) → old other ≡ Some place → place ≡ right other) → (other : List ℕ) (place : Option ℕ) → new other ≡ Some place → place ≡ right other
right-more right old new name found put is before = λ other place at. right-case right name other found place (old other) (bytes_eq other name) refl (sym (put other) ∙ at) is (before other place)
