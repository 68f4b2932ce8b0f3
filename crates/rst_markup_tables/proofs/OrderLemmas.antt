-- Spans in order.
use Rattle.std.proofs.Common.{◌≡◌, ℕ, zero, suc, ◌+◌, ◌-◌, ◌≤◌, true, eqb, List, [], ◌∷◌, length, drop, map, filter, unwrap_or, Option, Some, None, refl, subst, arith, IfSome, ◌<◌}
use Rattle.std.specs.Prelude.{option_map, option_and_then}
use Rattle.std.specs.List.{range_with_len}
use Rattle.std.proofs.lemmas.List.{drop_all}
use lib.Seq.{take-nil}
use Rattle.std.proofs.lemmas.Bool.{and_from, cond_both}
use Rattle.rst_text.specs.Places.{first_from, IsFirst}
use Rattle.rst_text.proofs.PlacesLemmas.{first_from-first}
use Rattle.rst_markup_tables.specs.Places.{Grid, row_at}
use Rattle.rst_markup_tables.specs.SimpleTable.{AreInOrder, is_space, begins_span, span_end, span_at, spans_of, columns_of, last_joined, joining, spans_with_columns, rule_spans, row_spans, is_clear, are_clear, span_of}
use Rattle.rst_markup_tables.specs.declared.places.Place.{Place}
use Rattle.rst_markup_tables.specs.declared.simple_rows.RowLines.{RowLines}
use Rattle.rst_markup_tables.specs.declared.spans.RuleSpan.{RuleSpan}

order-from : (low high : ℕ) (ss : List RuleSpan) → low ≤ high → AreInOrder high ss → AreInOrder low ss
order-from low high [] h order = order
order-from low high (s ∷ ss) h order = (omega (arith, h, order.0), order.1, order.2)

span_end-above : (row : List Place) (k : ℕ) → k ≤ length row → k ≤ span_end row k
span_end-above row k h = by (first_from (is_space row) k (length row - k)) (first_from-first (is_space row) k (length row) h)
  where
    by : (r : Option ℕ) → IsFirst (is_space row) k (length row) r → k ≤ unwrap_or r (length row)
    by (Some i) f = f.0
    by None f = h

spans-order : (row : List Place) (low n : ℕ) → low + n ≤ length row → AreInOrder low (map (span_at row) (filter (begins_span row) (range_with_len low n)))
spans-order row low zero h = tt
spans-order row low (suc n) h =
    let rest = order-from low (low + 1) _ (omega arith) (spans-order row (low + 1) n (omega (arith, h))) in
    cond_both (begins_span row low) _ _ (λ l. AreInOrder low (map (span_at row) l)) (λ _. (omega arith, span_end-above row low (omega (arith, h)), rest)) (λ _. rest)

spans_with_columns-order : (columns : List RuleSpan) (low : ℕ) (ss : List RuleSpan) → AreInOrder low ss → IfSome (spans_with_columns columns ss) (AreInOrder low)
spans_with_columns-order [] low [] h = tt
spans_with_columns-order (c ∷ cs) low [] h = tt
spans_with_columns-order columns low (s ∷ ss) h = by (last_joined columns s) (λ last. spans_with_columns-order (drop (last + 1) columns) s.from ss h.2)
  where
    joined : (last : ℕ) (o : Option (List RuleSpan)) → IfSome o (AreInOrder s.from) → IfSome (option_map (λ others. joining s (last + 1) ∷ others) o) (AreInOrder low)
    joined last None i = tt
    joined last (Some wide) i = (h.0, h.1, i)

    by : (o : Option ℕ) → ((last : ℕ) → IfSome (spans_with_columns (drop (last + 1) columns) ss) (AreInOrder s.from))
        → IfSome (option_and_then (λ last. option_map (λ others. joining s (last + 1) ∷ others) (spans_with_columns (drop (last + 1) columns) ss)) o) (AreInOrder low)
    by None rest = tt
    by (Some last) rest = joined last (spans_with_columns (drop (last + 1) columns) ss) (rest last)

columns-order : (row : List Place) → AreInOrder 0 (spans_of row)
columns-order row = spans-order row 0 (length row) (omega arith)

pub row_spans-order : (T : Grid) (r : RowLines) → AreInOrder 0 (row_spans T r)
row_spans-order T r = cond_both (eqb r.rule 0) (columns_of T) (unwrap_or (rule_spans T r.rule) []) (AreInOrder 0) (λ _. columns-order (row_at T 0))
    (λ _. by (rule_spans T r.rule) (spans_with_columns-order (columns_of T) 0 (spans_of (row_at T r.rule)) (columns-order (row_at T r.rule))))
  where
    by : (o : Option (List RuleSpan)) → IfSome o (AreInOrder 0) → AreInOrder 0 (unwrap_or o [])
    by None h = tt
    by (Some wide) h = h

-- past its end a row is clear
clear-past : (row : List Place) (from to : ℕ) → length row ≤ from → is_clear from to row ≡ true
clear-past row from to h = rw (drop_all from row h, take-nil {A = Place} (to - from)) refl

pub are_clear-past : (row : List Place) (low : ℕ) (s : RuleSpan) (ss : List RuleSpan) → AreInOrder low (s ∷ ss) → length row ≤ s.from → are_clear (s ∷ ss) row ≡ true
are_clear-past row low s [] order h = refl
are_clear-past row low s (t ∷ ss) order h =
    and_from (is_clear s.to t.from row) (are_clear (t ∷ ss) row) (clear-past row s.to t.from (omega (arith, h, order.1))) (are_clear-past row s.from t ss order.2 (omega (arith, h, order.2.0)))

order-at : (low k : ℕ) (ss : List RuleSpan) → AreInOrder low ss → suc k < length ss → (span_of ss k).from ≤ (span_of ss (suc k)).from
order-at low k [] order h = absurd (omega (arith, h))
order-at low zero (s ∷ []) order h = absurd (omega (arith, h))
order-at low zero (s ∷ t ∷ ss) order h = order.2.0
order-at low (suc k) (s ∷ ss) order h = order-at s.from k ss order.2 (omega (arith, h))

-- a span begins no earlier than the one before it
pub order-before : (k : ℕ) (ss : List RuleSpan) → AreInOrder 0 ss → 0 < k → k < length ss → (span_of ss (k - 1)).from ≤ (span_of ss k).from
order-before k ss order some h =
    let e : suc (k - 1) ≡ k = omega (arith, some) in
    subst (λ j. (span_of ss (k - 1)).from ≤ (span_of ss j).from) e (order-at 0 (k - 1) ss order (omega (arith, some, h)))
