-- Texts that are compared a character at a time.
use Rattle.std.proofs.Common.{◌≡◌, ℕ, ◌&&◌, Bool, true, false, cond, eqb, List, [], ◌∷◌, map, length, refl, sym, ap, ap₂, ◌∙◌, arith}
use Rattle.std.proofs.lemmas.Bool.{and_right}
use Rattle.std.specs.List.{list_all, zip}
use Rattle.std.proofs.lemmas.List.{map-id, length-map}
use Rattle.std.specs.Char.{to_ascii_lowercase}
use Rattle.std.specs.Str.{bytes_eq}
use Rattle.rst_markup_directives.specs.Characters.{is_exactly, is_word}

-- texts of one length are the same, by what f and g make of their characters, where each pair is
pub pairs-same : (f g : ℕ → ℕ) (t u : List ℕ) → length t ≡ length u → list_all (λ (p : ℕ × ℕ). eqb (f p.0) (g p.1)) (zip t u) ≡ bytes_eq (map f t) (map g u)
pairs-same f g [] [] e = refl
pairs-same f g [] (d ∷ ds) e = absurd (omega arith)
pairs-same f g (c ∷ cs) [] e = absurd (omega arith)
pairs-same f g (c ∷ cs) (d ∷ ds) e = ap (λ b. eqb (f c) (g d) && b) (pairs-same f g cs ds (omega arith))

pub lengths-apart : (t u : List ℕ) → (length t ≡ length u → ⊥) → bytes_eq t u ≡ false
lengths-apart [] [] h = absurd (h refl)
lengths-apart [] (d ∷ ds) h = refl
lengths-apart (c ∷ cs) [] h = refl
lengths-apart (c ∷ cs) (d ∷ ds) h = and_right _ _ (lengths-apart cs ds (λ e. h (omega arith)))

pub word-pairs : (exactly : Bool) (t u : List ℕ) → length t ≡ length u → list_all (λ (p : ℕ × ℕ). eqb (cond exactly p.0 (to_ascii_lowercase p.0)) p.1) (zip t u) ≡ cond exactly (is_exactly t) (is_word t) u
unfolding is_exactly is_word
word-pairs true t u e = pairs-same (λ c. c) (λ d. d) t u e ∙ ap₂ bytes_eq (map-id t) (map-id u)
word-pairs false t u e = pairs-same to_ascii_lowercase (λ d. d) t u e ∙ ap (bytes_eq (map to_ascii_lowercase t)) (map-id u)

pub word-apart : (exactly : Bool) (t u : List ℕ) → (length t ≡ length u → ⊥) → false ≡ cond exactly (is_exactly t) (is_word t) u
unfolding is_exactly is_word
word-apart true t u h = sym (lengths-apart t u h)
word-apart false t u h = sym (lengths-apart (map to_ascii_lowercase t) u (λ e. h (sym (length-map t to_ascii_lowercase) ∙ e)))
