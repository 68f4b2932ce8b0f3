-- Parts of texts between ASCII characters, and texts without white space at their ends, consist of characters that pass a test.
use Rattle.std.proofs.Common.{◌≡◌, ℕ, suc, ◌<◌, ◌≤◌, Bool, false, List, [], ◌∷◌, ◌++◌, length, get_or, arith, refl, sym, ap, ◌∙◌, append-nil, ⊎_elim}
use Rattle.std.specs.Prelude.{◌==◌, encode_utf8, encode_utf8_all}
use Rattle.std.specs.Char.{is_whitespace}
use Rattle.std.specs.List.{AllByRecursion, onto_first, slice_split}
use Rattle.std.specs.Str.{drop_trailing_whitespace, skip_leading_whitespace}
use Rattle.std.proofs.lemmas.Bool.{cases_Bool, cond_both, eqb-false, eqb-true, ne_eqb}
use Rattle.std.proofs.lemmas.List.Splits.{slice_split-cons_no, slice_split-cons_yes}
use Rattle.std.proofs.lemmas.Str.{encode_ascii, inside_one}
use Rattle.rst_text.specs.Characters.{Text}
use Rattle.rst_tree_laws.specs.Texts.{Kept, Spells}

-- where bytes stand before a text that aren't the separator, they are the start of the first part
split_after : (test : ℕ → Bool) (xs ys part : List ℕ) (parts : List (List ℕ)) → ((k : ℕ) → k < length xs → test (get_or xs k 0) ≡ false) → slice_split test ys ≡ part ∷ parts
    → slice_split test (xs ++ ys) ≡ (xs ++ part) ∷ parts
split_after test [] ys part parts h e = e
split_after test (x ∷ xs) ys part parts h e = slice_split-cons_no test x (xs ++ ys) (h 0 (omega arith)) ∙ ap (onto_first x) (split_after test xs ys part parts (λ k l. h (suc k) (omega (arith, l))) e)

module _ (P : ℕ → Bool) where
  split_parts : (c : ℕ) → c ≤ 127 → (cs : Text) → Kept P cs → (part : List ℕ) × (parts : List (List ℕ)) × (slice_split (λ x. x == c) (encode_utf8_all cs) ≡ part ∷ parts) × AllByRecursion (Spells P) (part ∷ parts)
  split_parts c low [] h = ([], [], refl, (([], refl, tt), tt))
  split_parts c low (d ∷ ds) h =
      let (part, parts, e, all) = split_parts c low ds h.1 in
      let cut = λ (bs : List ℕ). slice_split (λ x. x == c) (bs ++ encode_utf8_all ds) in
      let seen = λ (differ : (d == c) ≡ false) (k : ℕ) (l : k < length (encode_utf8 d)) (same : get_or (encode_utf8 d) k 0 ≡ c). eqb-false d c differ (inside_one d [] _ k (sym (append-nil (encode_utf8 d))) l (omega (arith, low, same)) ∙ same) in
      ⊎_elim
      (λ same. ([], part ∷ parts, ap cut (encode_ascii d (omega (arith, low, eqb-true d c same))) ∙ slice_split-cons_yes (λ x. x == c) d _ same ∙ ap (λ all. [] ∷ all) e, (([], refl, tt), all)))
      (λ differ. (encode_utf8 d ++ part, parts, split_after (λ x. x == c) (encode_utf8 d) _ part parts (λ k l. ne_eqb _ c (seen differ k l)) e, ((d ∷ all.0.0, ap (λ bs. encode_utf8 d ++ bs) all.0.1, (h.0, all.0.2)), all.1)))
      (cases_Bool (d == c))

  pub split_spelled : (c : ℕ) (t : List ℕ) → c ≤ 127 → Spells P t → AllByRecursion (Spells P) (slice_split (λ x. x == c) t)
  split_spelled c t low h = let cut = split_parts c low h.0 h.2 in rw (h.1, cut.2) cut.3

  pub skipped_kept : (cs : Text) → Kept P cs → Kept P (skip_leading_whitespace cs)
  skipped_kept [] h = tt
  skipped_kept (c ∷ cs) h = cond_both (is_whitespace c) _ _ (Kept P) (λ e. skipped_kept cs h.1) (λ e. h)

  pub dropped_kept : (cs : Text) → Kept P cs → Kept P (drop_trailing_whitespace cs)
  dropped_kept [] h = tt
  dropped_kept (c ∷ cs) h = cond_both _ [] (c ∷ drop_trailing_whitespace cs) (Kept P) (λ e. tt) (λ e. (h.0, dropped_kept cs h.1))
