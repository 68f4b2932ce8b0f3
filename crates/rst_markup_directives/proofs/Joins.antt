-- Lines that are joined one after the other.
use Rattle.std.proofs.Common.{◌≡◌, ℕ, not, List, [], ◌∷◌, ◌++◌, map, drop, filter, refl, ap, ◌∙◌}
use Rattle.std.specs.List.{join_with_byte, fold}
use Rattle.std.proofs.lemmas.List.{append_assoc, map-id}
use Rattle.rst_text.specs.Block.{is_blank}
use Rattle.rst_markup_directives.specs.Lines.{joined_nonempty, with_line}

joined_after : (d : ℕ) (ds : List ℕ) (ts : List (List ℕ)) → fold with_line (d ∷ ds) ts ≡ join_with_byte 10 ((d ∷ ds) ∷ filter (λ (t : List ℕ). not (is_blank t)) ts)
joined_after d ds [] = refl
joined_after d ds ([] ∷ ts) = joined_after d ds ts
joined_after d ds ((c ∷ cs) ∷ ts) = joined_after d (ds ++ 10 ∷ c ∷ cs) ts ∙ by (filter (λ (t : List ℕ). not (is_blank t)) ts)
  where
    by : (ls : List (List ℕ)) → join_with_byte 10 ((d ∷ (ds ++ 10 ∷ c ∷ cs)) ∷ ls) ≡ join_with_byte 10 ((d ∷ ds) ∷ (c ∷ cs) ∷ ls)
    by [] = refl
    by (l ∷ ls) = append_assoc (d ∷ ds) (10 ∷ c ∷ cs) (10 ∷ join_with_byte 10 (l ∷ ls))

-- lines that are added to a text one after the other are joined with it
pub joined_onto : (text : List ℕ) (ts : List (List ℕ)) → fold with_line text ts ≡ joined_nonempty (text ∷ ts)
unfolding joined_nonempty
joined_onto [] [] = refl
joined_onto [] ([] ∷ ts) = joined_onto [] ts
joined_onto [] ((c ∷ cs) ∷ ts) = joined_after c cs ts
joined_onto (c ∷ cs) ts = joined_after c cs ts

-- an empty text before whole lines is left out
pub joined_alone : (ts : List (List ℕ)) → joined_nonempty ([] ∷ map (drop 0) ts) ≡ joined_nonempty ts
unfolding joined_nonempty
joined_alone ts = ap joined_nonempty (map-id ts)
