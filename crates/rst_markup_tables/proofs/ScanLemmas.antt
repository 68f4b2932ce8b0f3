-- What a scan for a table goes over after it.
use Rattle.std.proofs.Common.{⊎_elim, ◌≡◌, ℕ, ◌+◌, ◌-◌, ◌<◌, ◌≤◌, false, List, [], ◌∷◌, length, drop, refl, sym, ap, ◌∙◌, arith, Option, Some, None}
use Rattle.std.specs.Prelude.{unwrap_or}
use Rattle.std.specs.Option.{option_or}
use Rattle.std.proofs.lemmas.Bool.{cases_lt}
use Rattle.rst_text.specs.Block.{Block, first_text}
use Rattle.rst_text.specs.Places.{IsFirst, IsLast}
use Rattle.rst_text.proofs.PlacesLemmas.{first_from-IsFirst, last_from-IsLast}
use Rattle.rst_markup_lines.specs.Border.{is_grid_border}
use Rattle.rst_markup_blocks.specs.declared.lines.LineTest.TheVariants.{Drawn}
use Rattle.rst_markup_blocks.specs.TableLines.{is_drawn}
use Rattle.rst_markup_blocks.specs.Lines.{lines_while}
use Rattle.rst_markup_blocks.proofs.TableLaws.{grid_drawn}
use Rattle.rst_markup_blocks.specs.TableRows.{lines_through, is_border_at, grid_bottom, grid_size, grid_scan, is_lower_border_at, border_below, head_border, simple_bottom, simple_size, simple_scan}

-- ---- grid tables

-- the line that stops a scan is no border
stop_line : (X : Block) → lines_while Drawn X < length X → is_drawn (first_text (drop (lines_while Drawn X) X)) ≡ false
unfolding lines_while
stop_line [] h = absurd (omega arith)
stop_line (l ∷ ls) h = grind (arith, stop_line ls)

no_border : (t : List ℕ) → is_drawn t ≡ false → is_grid_border t ≡ false
no_border t e = grind (arith, grid_drawn t)

-- of the lines that begin with `+` or `|` none after the bottom border is one
past_bottom : (X : Block) (k : ℕ) (o : Option ℕ) → IsLast (is_border_at X) 2 (2 + (lines_while Drawn X - 2)) o → lines_through (lines_while Drawn X) o ≤ k → k < lines_while Drawn X → is_border_at X k ≡ false
past_bottom X k None h beyond inside = absurd (omega arith)
past_bottom X k (Some b) h beyond inside = h.3 k beyond (omega arith)

pub no_grid : (X : Block) (k : ℕ) → grid_size X ≤ k → k < grid_scan X → is_grid_border (first_text (drop k X)) ≡ false
unfolding grid_size grid_scan
no_grid X k beyond inside = ⊎_elim
    (λ drawn. past_bottom X k (grid_bottom X) (last_from-IsLast (is_border_at X) 2 (lines_while Drawn X - 2)) beyond drawn)
    (λ past.
    let stop : lines_while Drawn X ≡ k = omega arith in
    no_border (first_text (drop k X)) (ap (λ n. is_drawn (first_text (drop n X))) (sym stop) ∙ stop_line X (omega arith)))
    (cases_lt k (lines_while Drawn X))

-- ---- simple tables

-- without a bottom border there is none after the one that closes the head
past_head : (X : Block) (h k : ℕ) (o : Option ℕ) → IsFirst (is_lower_border_at X) (h + 1) (h + 1 + (length X - (h + 1))) o → o ≡ None → h + 1 ≤ k → k < length X → is_lower_border_at X k ≡ false
past_head X h k None none e beyond inside = none k beyond (omega arith)
past_head X h k (Some b) none e beyond inside = cc

pub no_simple : (X : Block) (k : ℕ) → simple_size X ≤ k → k < simple_scan X → is_lower_border_at X k ≡ false
unfolding simple_size simple_scan
no_simple X k beyond inside = by (simple_bottom X) (head_border X) refl refl beyond inside
  where
    by : (o p : Option ℕ) → simple_bottom X ≡ o → head_border X ≡ p → lines_through (length X) (option_or o p) ≤ k → k < lines_through (length X) o → is_lower_border_at X k ≡ false
    by (Some b) p e f beyond inside = absurd (omega arith)
    by None None e f beyond inside = absurd (omega arith)
    by None (Some h) e f beyond inside =
        let none : border_below X h ≡ None = ap (λ (q : Option ℕ). border_below X (unwrap_or q 0)) (sym f) ∙ e in
        past_head X h k (border_below X h) (first_from-IsFirst (is_lower_border_at X) (h + 1) (length X - (h + 1))) none beyond inside
