-- The texts of a cell, with their places.
use Rattle.std.proofs.Common.{◌≡◌, ℕ, zero, suc, ◌+◌, ◌-◌, ◌<◌, ◌≤◌, Bool, true, false, not, List, [], ◌∷◌, length, drop, get_or, map, filter, min, unwrap_or, refl, sym, ap, ap₂, ◌∙◌, arith, Option, Some, None}
use Rattle.std.specs.List.{range_with_len, reduce}
use Rattle.std.proofs.lemmas.Bool.{cond_both, ltb-false, and_parts}
use Rattle.std.proofs.lemmas.List.{drop_all, get_or-map, length-map}
use Rattle.std.proofs.lemmas.List.FromFn.{fill_by_all, length-map-range_with_len, get_or-map-range_with_len}
use lib.Seq.{take-nil}
use Rattle.std.proofs.Math.Seq.{drop-nil}
use Rattle.rst_settings.specs.declared.Parts.{Parts}
use Rattle.rst_text.specs.Block.{Line, Block, is_blank, no_line, shorten}
use Rattle.rst_text.specs.Extent.{indentations, least_indent}
use Rattle.rst_text.specs.Lines.{is_line_text, are_lines}
use Rattle.rst_text.proofs.LineTexts.{is_line_text-drop}
use Rattle.rst_text.specs.Source.{placed_text, spread, ArePlaced}
use Rattle.rst_markup_tables.specs.Cells.{as_lines, cell_block, cell_line, cell_text, reaches, reaching, texts_among}
use Rattle.rst_markup_tables.specs.Places.{Grid, AreNumbered, no_row, row_at}
use Rattle.rst_markup_tables.specs.declared.places.Place.{Place}

-- texts that aren't blank, with their places
abbrev pub texts_by : (ℕ → List ℕ) → List ℕ → List (ℕ × List ℕ)
texts_by f js = filter (λ (t : ℕ × List ℕ). not (is_blank t.1)) (map (λ j. (j, f j)) js)

-- a text more at the front, unless it is blank
abbrev pub with_text : ℕ → List ℕ → List (ℕ × List ℕ) → List (ℕ × List ℕ)
with_text j [] ts = ts
with_text j (c ∷ cs) ts = (j, c ∷ cs) ∷ ts

texts-more : (f : ℕ → List ℕ) (j : ℕ) (js : List ℕ) → texts_by f (j ∷ js) ≡ with_text j (f j) (texts_by f js)
texts-more f j js = grind arith

-- places where a text is blank can be left out
texts-filter : (f : ℕ → List ℕ) (p : ℕ → Bool) (js : List ℕ) → ((j : ℕ) → p j ≡ false → f j ≡ []) → texts_by f (filter p js) ≡ texts_by f js
texts-filter f p [] blank = refl
texts-filter f p (j ∷ js) blank = grind (arith, texts-more f j (filter p js), texts-more f j js, texts-filter f p js blank, blank j)

-- ---- the text at a place

placed_text-before : (f : ℕ → List ℕ) (low n k : ℕ) → k < low → placed_text (texts_by f (range_with_len low n)) k ≡ []
placed_text-before f low zero k h = refl
placed_text-before f low (suc n) k h = grind (arith, texts-more f low (range_with_len (low + 1) n), placed_text-before f (low + 1) n k (omega arith))

placed_text-is : (f : ℕ → List ℕ) (low n k : ℕ) → low ≤ k → k < low + n → placed_text (texts_by f (range_with_len low n)) k ≡ f k
placed_text-is f low zero k above below = absurd (omega (arith, above, below))
placed_text-is f low (suc n) k above below =
    let later = λ (a : low + 1 ≤ k). placed_text-is f (low + 1) n k a (omega (arith, below)) in
    grind (arith, texts-more f low (range_with_len (low + 1) n), later, placed_text-before f (low + 1) n k)

-- a line for each text, numbered from `first` on
abbrev pub line_at : Parts → (ℕ → List ℕ) → ℕ → ℕ → Line
line_at parts f first k = record { number = first + k; text = f k; parts = parts }

spread-is : (parts : Parts) (f : ℕ → List ℕ) (first n : ℕ) → spread parts first n (texts_by f (range_with_len 0 n)) ≡ map (line_at parts f first) (range_with_len 0 n)
spread-is parts f first n =
    let made = line_at parts (placed_text (texts_by f (range_with_len 0 n))) first in
    fill_by_all (line_at parts f first) (map made (range_with_len 0 n)) n no_line (length-map-range_with_len made 0 n)
    (λ k below. get_or-map-range_with_len made 0 n k k no_line below (omega arith) ∙ ap (λ t. let l : Line = record { number = first + k; text = t; parts = parts } in l) (placed_text-is f 0 n k (omega arith) (omega (arith, below))))

-- ---- their indentation

indentations-texts : (parts : Parts) (f : ℕ → List ℕ) (first : ℕ) (js : List ℕ) → indentations (map (line_at parts f first) js) ≡ indentations (as_lines (texts_by f js))
indentations-texts parts f first [] = refl
indentations-texts parts f first (j ∷ js) = grind (arith, texts-more f j js, indentations-texts parts f first js)

least-is : (parts : Parts) (f : ℕ → List ℕ) (first : ℕ) (js : List ℕ) → least_indent (as_lines (texts_by f js)) ≡ least_indent (map (line_at parts f first) js)
unfolding least_indent
least-is parts f first js = ap (λ ns. unwrap_or (reduce min ns) 0) (sym (indentations-texts parts f first js))

-- ---- texts without their first characters

abbrev pub drop_each : ℕ → List (ℕ × List ℕ) → List (ℕ × List ℕ)
drop_each n ts = map (λ (t : ℕ × List ℕ). (t.0, drop n t.1)) ts

placed_text-drop : (n : ℕ) (ts : List (ℕ × List ℕ)) (k : ℕ) → placed_text (drop_each n ts) k ≡ drop n (placed_text ts k)
placed_text-drop n [] k = sym (drop-nil n)
placed_text-drop n (t ∷ ts) k = grind (arith, placed_text-drop n ts k)

spread-drop : (parts : Parts) (first count n : ℕ) (ts : List (ℕ × List ℕ)) → spread parts first count (drop_each n ts) ≡ map (shorten n) (spread parts first count ts)
spread-drop parts first count n ts = by (range_with_len 0 count)
  where
    by : (ks : List ℕ) → map (λ k. let l : Line = record { number = first + k; text = placed_text (drop_each n ts) k; parts = parts } in l) ks ≡ map (shorten n) (map (λ k. let l : Line = record { number = first + k; text = placed_text ts k; parts = parts } in l) ks)
    by [] = refl
    by (k ∷ ks) = ap₂ (λ t ls. (let l : Line = record { number = first + k; text = t; parts = parts } in l) ∷ ls) (placed_text-drop n ts k) (by ks)

-- ---- texts that can occur in lines

placed-texts : (f : ℕ → List ℕ) (from low n to : ℕ) → from ≤ low → low + n ≡ to → are_lines (as_lines (texts_by f (range_with_len low n))) ≡ true → ArePlaced from to (texts_by f (range_with_len low n))
placed-texts f from low zero to h e lines = omega arith
placed-texts f from low (suc n) to h e lines =
    let rest : List (ℕ × List ℕ) = texts_by f (range_with_len (low + 1) n) in
    cond_both (not (is_blank (f low))) ((low, f low) ∷ rest) rest (λ l. are_lines (as_lines l) ≡ true → ArePlaced from to l)
    (λ _ lines. let parts = and_parts (is_line_text (f low)) (are_lines (as_lines rest)) lines in (h, parts.0, placed-texts f (low + 1) (low + 1) n to (omega arith) (omega (arith, e)) parts.1))
    (λ _ lines. placed-texts f from (low + 1) n to (omega (arith, h)) (omega (arith, e)) lines) lines

placed-drop : (n from to : ℕ) (ts : List (ℕ × List ℕ)) → ArePlaced from to ts → ArePlaced from to (drop_each n ts)
placed-drop n from to [] h = h
placed-drop n from to (t ∷ ts) h = (h.0, is_line_text-drop n t.1 h.1, placed-drop n (t.0 + 1) to ts h.2)

-- ---- the lines of a cell

cell_text-none : (left : ℕ) (right : Option ℕ) (G : Grid) (k : ℕ) → reaches G left k ≡ false → cell_text left right G k ≡ []
cell_text-none left None G k e = rw (drop_all left (row_at G k) (ltb-false left (length (row_at G k)) e)) refl
cell_text-none left (Some right) G k e = rw (drop_all left (row_at G k) (ltb-false left (length (row_at G k)) e), take-nil {A = Place} (right - left)) refl

texts-all : (left : ℕ) (right : Option ℕ) (G : Grid) → texts_among left right G (reaching G left) ≡ texts_by (cell_text left right G) (range_with_len 0 (length G))
texts-all left right G = texts-filter (cell_text left right G) (reaches G left) (range_with_len 0 (length G)) (cell_text-none left right G)

lines-are : (left : ℕ) (right : Option ℕ) (G : Grid) (parts : Parts) (first : ℕ) → AreNumbered G → parts ≡ (get_or G 0 no_row).parts → first ≡ (get_or G 0 no_row).number
    → map (cell_line left right) G ≡ map (line_at parts (cell_text left right G) first) (range_with_len 0 (length G))
lines-are left right G parts first numbered same is =
    fill_by_all (line_at parts (cell_text left right G) first) (map (cell_line left right) G) (length G) no_line (length-map G (cell_line left right))
    (λ k below. get_or-map (cell_line left right) G k no_row no_line below
    ∙ ap₂ (λ n held. let l : Line = record { number = n; text = cell_text left right G k; parts = held } in l) ((numbered k below).0 ∙ ap (λ n. n + k) (sym is)) ((numbered k below).1 ∙ sym same))

pub cell_block-is : (left : ℕ) (right : Option ℕ) (G : Grid) (parts : Parts) (first least : ℕ) (texts short : List (ℕ × List ℕ)) → AreNumbered G → parts ≡ (get_or G 0 no_row).parts → first ≡ (get_or G 0 no_row).number
    → texts ≡ texts_among left right G (reaching G left) → least ≡ least_indent (as_lines texts) → short ≡ drop_each least texts → spread parts first (length G) short ≡ cell_block left right G
cell_block-is left right G parts first least texts short numbered same is texts_are least_is short_is =
    let f : ℕ → List ℕ = cell_text left right G in
    let ks : List ℕ = range_with_len 0 (length G) in
    let all : texts ≡ texts_by f ks = texts_are ∙ texts-all left right G in
    let indent : least ≡ least_indent (map (line_at parts f first) ks) = least_is ∙ ap (λ ts. least_indent (as_lines ts)) all ∙ least-is parts f first ks in
    ap (spread parts first (length G)) short_is ∙ spread-drop parts first (length G) least texts ∙ ap₂ (λ m ls. map (shorten m) ls) indent (ap (spread parts first (length G)) all ∙ spread-is parts f first (length G))
    ∙ ap (λ (ls : Block). map (shorten (least_indent ls)) ls) (sym (lines-are left right G parts first numbered same is))

pub cell-placed : (left : ℕ) (right : Option ℕ) (G : Grid) (least : ℕ) (texts short : List (ℕ × List ℕ)) → texts ≡ texts_among left right G (reaching G left) → are_lines (as_lines texts) ≡ true
    → short ≡ drop_each least texts → ArePlaced 0 (length G) short
cell-placed left right G least texts short texts_are lines short_is =
    let all = texts_are ∙ texts-all left right G in
    rw (short_is, all) (placed-drop least 0 (length G) _ (placed-texts (cell_text left right G) 0 0 (length G) (length G) (omega arith) (omega arith) (rw all at lines)))

-- ---- the lines that are longer than some places

pub reaching-more : (G : Grid) (n m : ℕ) (ks : List ℕ) → n ≤ m → filter (reaches G m) (filter (reaches G n) ks) ≡ filter (reaches G m) ks
reaching-more G n m [] h = refl
reaching-more G n m (k ∷ ks) h = grind (arith, reaching-more G n m ks h)
