-- Decimal digits are fixed texts.
use Rattle.std.proofs.Common.{◌≡◌, ℕ, zero, suc, ◌+◌, ◌/◌, ◌%◌, Bool, true, false, List, [], ◌∷◌, ◌++◌, arith, refl, subst, decimal}
use Rattle.std.specs.Prelude.{◌==◌}
use Rattle.std.specs.List.{list_all}
use Rattle.std.specs.Fmt.{digit_glyph, digits, digits_onto}
use Rattle.std.proofs.lemmas.Bool.{and_from, cond_both, le-leb, lt-ltb}
use Rattle.std.proofs.lemmas.List.{append-nil}
use Rattle.rst_tree_laws.proofs.Properties.{Suited, fixed_has}
use Rattle.rst_tree_laws.specs.Texts.{is_fixed}

onto_fixed : (k n : ℕ) (ds t : List ℕ) → list_all is_fixed (ds ++ t) ≡ true → list_all is_fixed (digits_onto k 10 false n ds ++ t) ≡ true
onto_fixed zero n ds t h = h
onto_fixed (suc k) n ds t h =
    let d : ℕ = n % 10 in
    let digit : is_fixed (digit_glyph false d) ≡ true = rw (lt-ltb d 10 (omega arith), le-leb (48 + d) 126 (omega arith), le-leb 32 (48 + d) (omega arith)) refl in
    let more = and_from (is_fixed (digit_glyph false d)) (list_all is_fixed (ds ++ t)) digit h in
    cond_both (n / 10 == 0) _ _ (λ es. list_all is_fixed (es ++ t) ≡ true) (λ e. more) (λ e. onto_fixed k (n / 10) (digit_glyph false d ∷ ds) t more)

-- a number before a fixed text
pub decimal_fixed : (n : ℕ) (t : List ℕ) → list_all is_fixed t ≡ true → list_all is_fixed (decimal n ++ t) ≡ true
unfolding digits
decimal_fixed n t h = onto_fixed 64 n [] t h

module _ (P : ℕ → Bool) (T : List ℕ → Type 0) (s : Suited P T) where
  pub decimal_has : (n : ℕ) → T (decimal n)
  decimal_has n = subst T (append-nil (decimal n)) (fixed_has P T s (decimal n ++ []) (decimal_fixed n [] refl))
