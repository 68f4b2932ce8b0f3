-- The count that bounds the quotes of some lines may be any that is large enough.
use Rattle.std.proofs.Common.{◌≡◌, ℕ, zero, suc, ◌+◌, ◌-◌, ◌<◌, ◌≤◌, List, [], ◌∷◌, ◌++◌, length, length-drop, drop, take, Option, Some, None, arith, refl, ap, option_map, option_and_then, is_some}
use Rattle.std.specs.Option.{option_map_or}
use Rattle.rst_text.proofs.Choices.{chosen, none_is}
use Rattle.rst_text.specs.Block.{Block, first_text, is_blank, first_number, indentation, first_parts}
use Rattle.rst_text.specs.Places.{first_from, IsFirst}
use Rattle.rst_text.proofs.PlacesLemmas.{first_from-IsFirst}
use Rattle.rst_tree.specs.declared.node.Node.{Node}
use Rattle.rst_tree.specs.declared.tag.Tag.TheVariants.{Attribution as AttributionTag}
use Rattle.rst_markup_lines.specs.Attribution.{attribution_of}
use Rattle.rst_markup_blocks.specs.Attributions.{level_lines, attribution_with, attribution_after, attribution_by, attribution_at, attribution_part}
use Rattle.rst_markup_blocks.specs.Conditions.{text_at, next_text}
use Rattle.rst_markup_blocks.specs.Lines.{lines_while}
use Rattle.rst_markup_blocks.specs.declared.lines.LineTest.TheVariants.{Blank}
use Rattle.rst_markup_blocks.specs.declared.attribution.Attribution.{Attribution}
use Rattle.rst_markup_blocks.proofs.AttributionLemmas.{level_lines-le}
use Rattle.rst_block_state.specs.Numbered.{Numbered, then_read, ◌>>=◌, just}
use Rattle.rst_block_state.specs.Quotes.{attribution_in, first_attribution, quote_after, quote_node, quotes_by, quotes}
use Rattle.rst_block_state.specs.Texts.{joined, lines_in, texted}
use Rattle.rst_block_state.specs.Within.{Within}
use Rattle.rst_block_state.proofs.NumberedLemmas.{same_after}

-- an attribution at place k, before m lines in all, has a line and ends with the last of them or before
abbrev IsInside : ℕ → ℕ → Attribution → Type 0
IsInside k m a = (k < a.end) × (a.end ≤ k + m)

inside_with : (k marker indent : ℕ) (o : Option ℕ) (X : Block) (a : Attribution) → 1 ≤ length X → level_lines indent (drop 1 X) ≡ o → attribution_with k marker indent o ≡ Some a
    → IsInside k (length X) a
inside_with k marker indent None X a some h e = absurd (none_is e)
inside_with k marker indent (Some n) X a some h e =
    let f : k + 1 + n ≡ a.end = ap (λ o. option_map_or (λ (x : Attribution). x.end) o 0) e in
    (omega (arith, f), omega (arith, f, some, level_lines-le indent n (drop 1 X) h, length-drop 1 X))

inside_by : (o : Option ℕ) (k : ℕ) (X : Block) (a : Attribution) → 1 ≤ length X → attribution_by o k X ≡ Some a → IsInside k (length X) a
unfolding attribution_after
inside_by None k X a some e = absurd (none_is e)
inside_by (Some marker) k X a some e = inside_with k marker (indentation (next_text X)) (level_lines (indentation (next_text X)) (drop 1 X)) X a some refl e

inside_at : (k : ℕ) (X : Block) (a : Attribution) → 1 ≤ length X → attribution_at k X ≡ Some a → IsInside k (length X) a
unfolding attribution_at
inside_at k X a some e = inside_by (attribution_of (first_text X)) k X a some e

inside_in : (Q : Block) (o : Option Attribution) (i k : ℕ) (a : Attribution) → i < length Q → attribution_in Q i ≡ o → option_map {U = ℕ × Attribution} (λ b. (i, b)) o ≡ Some (k, a)
    → (k < a.end) × (a.end ≤ length Q)
inside_in Q None i k a h is e = absurd (none_is e)
inside_in Q (Some b) i k a h is e =
    let place : i ≡ k = ap (λ o. option_map_or (λ (x : ℕ × Attribution). x.0) o 0) e in
    let end : b.end ≡ a.end = ap (λ o. option_map_or (λ (x : ℕ × Attribution). x.1.end) o 0) e in
    let w = inside_at i (drop i Q) b (omega (arith, h, length-drop i Q)) (chosen (is_blank (text_at Q (i - 1))) _ b is).1 in
    (omega (arith, place, end, w.0), omega (arith, end, w.1, h, length-drop i Q))

inside_from : (Q : Block) (o : Option ℕ) (k : ℕ) (a : Attribution) → IsFirst (λ i. is_some (attribution_in Q i)) 1 (1 + (length Q - 1)) o
    → option_and_then {U = ℕ × Attribution} (λ (i : ℕ). option_map {U = ℕ × Attribution} (λ b. (i, b)) (attribution_in Q i)) o ≡ Some (k, a) → (k < a.end) × (a.end ≤ length Q)
inside_from Q None k a first e = absurd (none_is e)
inside_from Q (Some i) k a first e = inside_in Q (attribution_in Q i) i k a (omega (arith, first.0, first.1)) refl e

-- the first attribution of a quote ends after its first line, and within the quote
pub attribution_within : (Q : Block) (k : ℕ) (a : Attribution) → first_attribution Q ≡ Some (k, a) → (k < a.end) × (a.end ≤ length Q)
attribution_within Q k a e =
    inside_from Q (first_from (λ i. is_some (attribution_in Q i)) 1 (length Q - 1)) k a (first_from-IsFirst (λ i. is_some (attribution_in Q i)) 1 (length Q - 1)) e

-- fewer lines are left after a quote
fewer : (Q : Block) (a : Attribution) → 1 ≤ a.end → length (quote_after Q a) ≤ length Q - 1
fewer Q a h =
    omega (arith, length-drop (lines_while Blank (drop a.end Q)) (drop a.end Q), length-drop a.end Q, h)

pub quotes_same : (c : Within) (f g : Block → Numbered (List Node)) (Q : Block) (n : ℕ) (o : Option (ℕ × Attribution)) → first_attribution Q ≡ o
    → ((a : Attribution) → length (quote_after Q a) ≤ length Q - 1 → (m : ℕ) → f (quote_after Q a) m ≡ g (quote_after Q a) m) → quotes_by c f Q o n ≡ quotes_by c g Q o n
quotes_same c f g Q n None e h = refl
quotes_same c f g Q n (Some (k, a)) e h =
    same_after (texted (first_parts (drop k Q)) AttributionTag (first_number (drop k Q)) (joined (lines_in Q (attribution_part k a))) (first_number (drop k Q)) n)
    (λ (made : Node × List Node). c.inner (take k Q) >>= λ nodes. f (quote_after Q a) >>= λ more. just (quote_node Q (nodes ++ made.0 ∷ []) ∷ made.1 ++ more))
    (λ (made : Node × List Node). c.inner (take k Q) >>= λ nodes. g (quote_after Q a) >>= λ more. just (quote_node Q (nodes ++ made.0 ∷ []) ∷ made.1 ++ more))
    (λ made i. same_after (c.inner (take k Q) i)
    (λ nodes. f (quote_after Q a) >>= λ more. just (quote_node Q (nodes ++ made.0 ∷ []) ∷ made.1 ++ more))
    (λ nodes. g (quote_after Q a) >>= λ more. just (quote_node Q (nodes ++ made.0 ∷ []) ∷ made.1 ++ more))
    (λ nodes j. ap (then_read (λ more. just (quote_node Q (nodes ++ made.0 ∷ []) ∷ made.1 ++ more))) (h a (fewer Q a (omega (arith, attribution_within Q k a e))) j)))

-- two counts that are large enough give the same quotes
pub quotes_enough : (c : Within) (m k : ℕ) (Q : Block) (n : ℕ) → length Q ≤ m → length Q ≤ k → quotes c m Q n ≡ quotes c k Q n
quotes_enough c zero (suc k) (l ∷ ls) n h i = absurd (omega (arith, h))
quotes_enough c (suc m) zero (l ∷ ls) n h i = absurd (omega (arith, i))
quotes_enough c (suc m) (suc k) (l ∷ ls) n h i =
    quotes_same c (quotes c m) (quotes c k) (l ∷ ls) n (first_attribution (l ∷ ls)) refl (λ a some j.
    quotes_enough c m k (quote_after (l ∷ ls) a) j (omega (arith, h, some)) (omega (arith, i, some)))
quotes_enough c _ _ _ n h i = refl
