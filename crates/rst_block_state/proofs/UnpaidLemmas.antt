-- How the reaches of a block's constructs share lines.
use Rattle.std.proofs.Common.{◌≡◌, ℕ, zero, suc, ◌+◌, ◌-◌, ◌*◌, ◌<◌, ◌≤◌, min, Bool, true, false, not, ◌&&◌, cond, List, [], ◌∷◌, length, drop, length-drop, refl, ap, ◌∙◌, arith}
use Rattle.std.proofs.Math.Nat.{max-le}
use Rattle.std.specs.List.{list_all, prefix_len}
use Rattle.std.proofs.lemmas.Bool.{and_parts}
use Rattle.std.proofs.lemmas.List.{drop-drop}
use Rattle.rst_text.specs.Block.{Line, Block, first_text, is_blank}
use Rattle.rst_text.specs.Reach.{reach, through_text}
use Rattle.rst_markup_lines.specs.TextStart.{begins_with}
use Rattle.rst_markup_lines.specs.Class.{is_in, run}
use Rattle.rst_markup_lines.specs.declared.class.Class.TheVariants.{Either}
use Rattle.rst_markup_lines.specs.Border.{is_grid_border, is_simple_border}
use Rattle.rst_markup_blocks.specs.Ends.{row_size, row_reach}
use Rattle.rst_markup_blocks.specs.Kinds.{kind_at, row_holds}
use Rattle.rst_markup_blocks.specs.Lines.{lines_while}
use Rattle.rst_markup_blocks.specs.Partition.{construct_size}
use Rattle.rst_markup_blocks.proofs.RowLaws.{while_le}
use Rattle.rst_markup_blocks.proofs.ReachLaws.{simple_scan_le}
use Rattle.rst_markup_blocks.proofs.TableLaws.{grid_size_le}
use Rattle.rst_markup_blocks.specs.TableLines.{is_drawn, border_len, is_lower_border}
use Rattle.rst_markup_blocks.specs.TableRows.{grid_size, grid_scan, grid_reach, simple_size, simple_scan, simple_reach}
use Rattle.rst_markup_blocks.specs.declared.lines.LineTest.TheVariants.{Drawn}
use Rattle.rst_markup_blocks.specs.declared.kind.Kind.{Kind}
use Rattle.rst_markup_blocks.specs.declared.kind.Kind.TheVariants.{Blank, Quote, Bullet, Enumerator, Field, OptionItem, Doctest, Line as BarLine, Grid, Simple, Explicit, Anonymous, Adornment, Text}
use Rattle.rst_markup_blocks.proofs.RowLemmas.{row_of_kind}
use Rattle.rst_markup_blocks.proofs.PartitionLemmas.{end_inside}
use Rattle.rst_markup_tables.proofs.ScanLemmas.{no_grid, no_simple}
use Rattle.rst_block_state.specs.looks.Reaches.{through, lines_beyond, is_after_grid, is_after_simple, unpaid}

through_le : (p : List ℕ → Bool) (X : Block) → through p X ≤ length X
unfolding through
through_le p [] = omega arith
through_le p (l ∷ ls) = by (p l.text) (through_le p ls)
  where
    by : (b : Bool) → through p ls ≤ length ls → cond b (suc (through p ls)) 1 ≤ suc (length ls)
    by true h = omega arith
    by false h = omega arith

one_less : (p : List ℕ → Bool) (l : Line) (ls : Block) → through p (l ∷ ls) ≤ suc (through p ls)
unfolding through
one_less p l ls = by (p l.text)
  where
    by : (b : Bool) → cond b (suc (through p ls)) 1 ≤ suc (through p ls)
    by true = omega arith
    by false = omega arith

lines_beyond_drop : (p : List ℕ → Bool) (n : ℕ) (X : Block) → lines_beyond p (drop n X) ≤ lines_beyond p X
lines_beyond_drop p zero X = omega arith
lines_beyond_drop p (suc n) [] = omega arith
lines_beyond_drop p (suc n) (l ∷ ls) = omega (arith, lines_beyond_drop p n ls, one_less p l ls, through_le p ls)

-- where the first line fails the test, all lines after it come after the first that fails
lines_beyond_step : (p : List ℕ → Bool) (n : ℕ) (X : Block) → 1 ≤ n → n ≤ length X → through p X ≤ 1 → lines_beyond p (drop n X) + through p (drop n X) ≤ lines_beyond p X
lines_beyond_step p n X some fits one = omega (arith, through_le p (drop n X), length-drop n X)

stops : (p : List ℕ → Bool) (X : Block) → p (first_text X) ≡ false → through p X ≤ 1
unfolding through
stops p [] h = omega arith
stops p (l ∷ ls) h = rw h (omega arith)

-- the lines through the first that isn't blank
text_is : (X : Block) → through_text X ≡ through is_blank X
unfolding through_text through
text_is [] = refl
text_is (l ∷ ls) = by (is_blank l.text) (text_is ls)
  where
    by : (b : Bool) → through_text ls ≡ through is_blank ls → cond b (suc (through_text ls)) 1 ≡ cond b (suc (through is_blank ls)) 1
    by true h = ap suc h
    by false h = refl

-- n lines that pass, and the one after them, if there is one
passing : (p : List ℕ → Bool) (n : ℕ) (Y : Block) → ((k : ℕ) → k < n → p (first_text (drop k Y)) ≡ true) → min (suc n) (length Y) ≤ through p Y
unfolding through
passing p n [] h = omega arith
passing p zero (l ∷ ls) h = by (p l.text)
  where
    by : (b : Bool) → min 1 (suc (length ls)) ≤ cond b (suc (through p ls)) 1
    by true = omega arith
    by false = omega arith
passing p (suc n) (l ∷ ls) h = let here : p l.text ≡ true = h 0 (omega arith) in rw here (omega (arith, passing p n ls (λ k small. h (suc k) (omega (arith, small)))))

while_pass : (X : Block) (k : ℕ) → k < lines_while Drawn X → is_drawn (first_text (drop k X)) ≡ true
unfolding lines_while
while_pass [] k h = absurd (omega arith)
while_pass (l ∷ ls) k h = by (is_drawn l.text) refl k h (while_pass ls)
  where
    by : (b : Bool) → is_drawn l.text ≡ b → (k : ℕ) → k < cond b (suc (lines_while Drawn ls)) 0
        → ((j : ℕ) → j < lines_while Drawn ls → is_drawn (first_text (drop j ls)) ≡ true) → is_drawn (first_text (drop k (l ∷ ls))) ≡ true
    by true e zero h others = e
    by true e (suc j) h others = others j (omega (arith, h))
    by false e k h others = absurd (omega (arith, h))

shift : (n k : ℕ) (X : Block) → drop k (drop n X) ≡ drop (n + k) X
shift n k X = drop-drop k n X

-- what a scan for a grid table goes over
grid_over : (X : Block) → grid_size X ≤ lines_while Drawn X → grid_scan X ≤ grid_size X + through is_after_grid (drop (grid_size X) X)
unfolding grid_scan
grid_over X fits =
    let g : ℕ = grid_size X in
    let m : ℕ = lines_while Drawn X in
    let Y : Block = drop g X in
    let each : (k : ℕ) → k < m - g → is_after_grid (first_text (drop k Y)) ≡ true =
    λ k small.
    let place : drop k Y ≡ drop (g + k) X = shift g k X in
    let drawn : is_drawn (first_text (drop (g + k) X)) ≡ true = while_pass X (g + k) (omega (arith, small)) in
    let inside : g + k < grid_scan X = omega (arith, small, while_le Drawn X) in
    let none : is_grid_border (first_text (drop (g + k) X)) ≡ false = no_grid X (g + k) (omega arith) inside in
    rw place (rw (drawn, none) refl)
    in
    omega (arith, passing is_after_grid (m - g) Y each, length-drop g X, fits, while_le Drawn X)

-- what a scan for a simple table goes over
simple_over : (X : Block) → simple_size X ≤ length X → simple_scan X ≤ simple_size X + through is_after_simple (drop (simple_size X) X)
simple_over X fits =
    let g : ℕ = simple_size X in
    let m : ℕ = simple_scan X in
    let Y : Block = drop g X in
    let each : (k : ℕ) → k < m - g → is_after_simple (first_text (drop k Y)) ≡ true =
    λ k small.
    let place : drop k Y ≡ drop (g + k) X = shift g k X in
    let none : is_lower_border (first_text (drop (g + k) X)) ≡ false = no_simple X (g + k) (omega arith) (omega (arith, small)) in
    rw place (rw none refl)
    in
    omega (arith, passing is_after_simple (m - g) Y each, length-drop g X, simple_scan_le X)

all_run : (p : ℕ → Bool) (t : List ℕ) → list_all p t ≡ true → drop (prefix_len p t) t ≡ []
all_run p [] h = refl
all_run p (c ∷ t) h =
    let a = and_parts (p c) (list_all p t) h in
    let one : 1 + prefix_len p t ≡ suc (prefix_len p t) = omega arith in
    rw a.0 (ap (λ k. drop k (c ∷ t)) one ∙ all_run p t a.1)

-- the top border of a simple table is a border
top_is_border : (t : List ℕ) → is_simple_border t ≡ true → is_lower_border t ≡ true
unfolding is_simple_border is_lower_border border_len run
top_is_border t h =
    let a = and_parts _ _ h in
    let b = and_parts _ _ a.1 in
    let first : begins_with 61 t ≡ true = b.0 in
    let rest : drop (prefix_len (is_in (Either 61 32)) t) t ≡ [] = all_run (is_in (Either 61 32)) t a.0 in
    rw (first, rest) refl

pub begin : (X : Block) → unpaid X ≤ 4 * length X
begin X = omega arith

ordinary : (n : ℕ) (X : Block) → 1 ≤ n → n ≤ length X → is_blank (first_text X) ≡ false → reach n X + unpaid (drop n X) ≤ unpaid X
ordinary n X some fits text =
    omega (arith, length-drop n X, text_is (drop n X), lines_beyond_step is_blank n X some fits (stops is_blank X text), lines_beyond_drop is_after_grid n X, lines_beyond_drop is_after_simple n X)

grid : (X : Block) → 1 ≤ grid_size X → grid_size X ≤ length X → is_blank (first_text X) ≡ false → is_grid_border (first_text X) ≡ true → grid_reach X + unpaid (drop (grid_size X) X) ≤ unpaid X
grid X some fits text border =
    let n : ℕ = grid_size X in
    let stop : is_after_grid (first_text X) ≡ false = rw border (last (is_drawn (first_text X))) in
    let b = lines_beyond_step is_blank n X some fits (stops is_blank X text) in
    let g = lines_beyond_step is_after_grid n X some fits (stops is_after_grid X stop) in
    let s = lines_beyond_drop is_after_simple n X in
    let one : reach n X ≤ n + (through is_blank (drop n X) + through is_after_grid (drop n X)) = omega (arith, text_is (drop n X)) in
    let two : grid_scan X ≤ n + (through is_blank (drop n X) + through is_after_grid (drop n X)) = omega (arith, grid_over X (grid_size_le X)) in
    omega (arith, length-drop n X, b, g, s, max-le one two)
  where
    last : (b : Bool) → (b && not true) ≡ false
    last true = refl
    last false = refl

simple : (X : Block) → 1 ≤ simple_size X → simple_size X ≤ length X → is_blank (first_text X) ≡ false → is_simple_border (first_text X) ≡ true → simple_reach X + unpaid (drop (simple_size X) X) ≤ unpaid X
simple X some fits text border =
    let n : ℕ = simple_size X in
    let stop : is_after_simple (first_text X) ≡ false = rw (top_is_border (first_text X) border) refl in
    let b = lines_beyond_step is_blank n X some fits (stops is_blank X text) in
    let g = lines_beyond_drop is_after_grid n X in
    let s = lines_beyond_step is_after_simple n X some fits (stops is_after_simple X stop) in
    let one : reach n X ≤ n + (through is_blank (drop n X) + through is_after_simple (drop n X)) = omega (arith, text_is (drop n X)) in
    let two : simple_scan X ≤ n + (through is_blank (drop n X) + through is_after_simple (drop n X)) = omega (arith, simple_over X fits) in
    omega (arith, length-drop n X, b, g, s, max-le one two)

pub paid : (titles : Bool) (X : Block) → is_blank (first_text X) ≡ false → row_reach (kind_at X) titles X + unpaid (drop (construct_size titles X) X) ≤ unpaid X
unfolding construct_size
paid titles [] text = absurd cc
paid titles (l ∷ ls) text =
    let X : Block = l ∷ ls in
    let ends = end_inside titles X 0 (omega arith) in
    by (kind_at X) (row_of_kind X) (omega (arith, ends.0)) (omega (arith, ends.1))
  where
    by : (k : Kind) → row_holds k (l ∷ ls) ≡ true → 1 ≤ row_size k titles (l ∷ ls) → row_size k titles (l ∷ ls) ≤ length (l ∷ ls)
        → row_reach k titles (l ∷ ls) + unpaid (drop (row_size k titles (l ∷ ls)) (l ∷ ls)) ≤ unpaid (l ∷ ls)
    by Grid h some fits = grid (l ∷ ls) some fits text h
    by Simple h some fits = simple (l ∷ ls) some fits text h
    by Blank h some fits = ordinary (row_size Blank titles (l ∷ ls)) (l ∷ ls) some fits text
    by Quote h some fits = ordinary (row_size Quote titles (l ∷ ls)) (l ∷ ls) some fits text
    by Bullet h some fits = ordinary (row_size Bullet titles (l ∷ ls)) (l ∷ ls) some fits text
    by Enumerator h some fits = ordinary (row_size Enumerator titles (l ∷ ls)) (l ∷ ls) some fits text
    by Field h some fits = ordinary (row_size Field titles (l ∷ ls)) (l ∷ ls) some fits text
    by OptionItem h some fits = ordinary (row_size OptionItem titles (l ∷ ls)) (l ∷ ls) some fits text
    by Doctest h some fits = ordinary (row_size Doctest titles (l ∷ ls)) (l ∷ ls) some fits text
    by BarLine h some fits = ordinary (row_size BarLine titles (l ∷ ls)) (l ∷ ls) some fits text
    by Explicit h some fits = ordinary (row_size Explicit titles (l ∷ ls)) (l ∷ ls) some fits text
    by Anonymous h some fits = ordinary (row_size Anonymous titles (l ∷ ls)) (l ∷ ls) some fits text
    by Adornment h some fits = ordinary (row_size Adornment titles (l ∷ ls)) (l ∷ ls) some fits text
    by Text h some fits = ordinary (row_size Text titles (l ∷ ls)) (l ∷ ls) some fits text

-- one line less is one line less that is unpaid
pub passed : (X : Block) → 1 ≤ length X → unpaid (drop 1 X) + 1 ≤ unpaid X
passed X some = omega (arith, some, length-drop 1 X, lines_beyond_drop is_blank 1 X, lines_beyond_drop is_after_grid 1 X, lines_beyond_drop is_after_simple 1 X)
