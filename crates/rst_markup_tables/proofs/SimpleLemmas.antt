-- Simple tables.
use Rattle.std.proofs.Common.{◌≡◌, ℕ, ◌+◌, ◌-◌, ◌<◌, ◌≤◌, Bool, true, false, cond, List, [], ◌∷◌, ◌++◌, drop, append_assoc, option_map, map, filter, refl, sym, ap, ap₂, ◌∙◌, arith, Option, Some, None}
use Rattle.std.proofs.lemmas.Bool.{ne_eqb}
use Rattle.std.specs.Prelude.{option_and_then, flat_map}
use Rattle.std.specs.List.{range_with_len}
use Rattle.rst_markup_tables.specs.Neighbours.{neighbours}
use Rattle.rst_markup_tables.specs.declared.simple_rows.RowLines.{RowLines}
use Rattle.rst_markup_tables.proofs.Lists.{all_from-take, all_from-more}
use Rattle.rst_markup_tables.specs.Places.{Grid}
use Rattle.rst_markup_tables.specs.SimpleTable.{begins_row, row_lines, row_between, section_rows, last_joined, joining, spans_with_columns}
use Rattle.rst_markup_tables.specs.declared.spans.RuleSpan.{RuleSpan}

-- ---- the spans of a rule

pub spread_more : (wide new left : List RuleSpan) (s : RuleSpan) (ss : List RuleSpan) (last : ℕ) → last_joined left s ≡ Some last → new ≡ wide ++ joining s (last + 1) ∷ []
    → option_map (λ others. new ++ others) (spans_with_columns (drop (last + 1) left) ss) ≡ option_map (λ others. wide ++ others) (spans_with_columns left (s ∷ ss))
spread_more wide new left s ss last e is =
    by (spans_with_columns (drop (last + 1) left) ss)
    ∙ sym (ap (λ o. option_map (λ others. wide ++ others) (option_and_then (λ k. option_map (λ others. joining s (k + 1) ∷ others) (spans_with_columns (drop (k + 1) left) ss)) o)) e)
  where
    by : (o : Option (List RuleSpan)) → option_map (λ others. new ++ others) o ≡ option_map (λ others. wide ++ others) (option_map (λ others. joining s (last + 1) ∷ others) o)
    by None = refl
    by (Some others) = ap Some (ap (λ l. l ++ others) is ∙ append_assoc wide (joining s (last + 1) ∷ []) others)

-- ---- rows

-- the rows from place `from` on, where the lines before place `to` begin no other
abbrev pub rows_left : Grid → ℕ → ℕ → ℕ → List RowLines
rows_left T from to rule = map (row_between rule) (neighbours (from ∷ (filter (begins_row T) (range_with_len to (rule - to)) ++ rule ∷ [])))

pub rows_left-take : (T : Grid) (from to rule : ℕ) → to < rule → begins_row T to ≡ true → rows_left T from to rule ≡ row_lines from to 0 ∷ rows_left T to (to + 1) rule
rows_left-take T from to rule h e =
    ap (λ l. map (row_between rule) (neighbours (from ∷ (l ++ rule ∷ [])))) (all_from-take (begins_row T) to rule h e)
    ∙ ap (λ b. row_lines from to (cond b rule 0) ∷ rows_left T to (to + 1) rule) (ne_eqb to rule (λ same. absurd (omega (arith, same, h))))

pub rows_left-more : (T : Grid) (from to rule : ℕ) → to < rule → begins_row T to ≡ false → rows_left T from to rule ≡ rows_left T from (to + 1) rule
rows_left-more T from to rule h e = ap (λ l. map (row_between rule) (neighbours (from ∷ (l ++ rule ∷ [])))) (all_from-more (begins_row T) to rule h e)

-- the rows of the lines from `low` on, cut at rules
abbrev pub sections_left : Bool → Grid → ℕ → List ℕ → List RowLines
sections_left unmarked T low rules = flat_map (λ (p : ℕ × ℕ). section_rows unmarked T (p.0 + 1) p.1) (neighbours ((low - 1) ∷ rules))

pub sections_left-more : (unmarked : Bool) (T : Grid) (low rule : ℕ) (rules : List ℕ) → 1 ≤ low
    → sections_left unmarked T low (rule ∷ rules) ≡ section_rows unmarked T low rule ++ sections_left unmarked T (rule + 1) rules
sections_left-more unmarked T low rule rules h =
    let before : low - 1 + 1 ≡ low = omega arith in
    let after_rule : rule ≡ rule + 1 - 1 = omega arith in
    ap₂ (λ n m. section_rows unmarked T n rule ++ flat_map (λ (p : ℕ × ℕ). section_rows unmarked T (p.0 + 1) p.1) (neighbours (m ∷ rules))) before after_rule
