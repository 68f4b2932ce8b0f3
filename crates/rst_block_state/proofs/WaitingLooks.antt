-- What blocks that wait may still take of looks, and have to take.
use Rattle.std.proofs.Common.{◌≡◌, ℕ, zero, suc, ◌+◌, ◌-◌, ◌*◌, ◌≤◌, Bool, true, false, cond, List, [], ◌∷◌, ◌++◌, length, length-drop, map, take, drop, Option, Some, None, arith, refl, subst, ap, sym, ◌∙◌, inl, inr}
use Rattle.std.specs.Prelude.{Box, flat_map, ◌==◌, if◌then◌else◌}
use Rattle.std.specs.declared.alloc.Global.{Global}
use Rattle.std.proofs.lemmas.Bool.{cases_lt, lt-ltb, le-ltb}
use Rattle.std.proofs.lemmas.List.{drop_all, drop-drop}
use Rattle.rst_text.specs.Block.{Block}
use Rattle.rst_text.specs.Looked.{capped}
use Rattle.rst_text.proofs.CutLaws.{take-cut, drop-cut, length-cut}
use Rattle.rst_markup_blocks.specs.Lines.{lines_while}
use Rattle.rst_markup_blocks.specs.declared.attribution.Attribution.{Attribution}
use Rattle.rst_markup_blocks.specs.declared.lines.LineTest.TheVariants.{Blank}
use Rattle.rst_markup_blocks.specs.declared.part.Part.{Part}
use Rattle.rst_markup_tables.specs.Ends.{end_of}
use Rattle.rst_markup_tables.specs.declared.results.Cell.{Cell}
use Rattle.rst_markup_tables.specs.declared.results.TableResult.{TableResult}
use Rattle.rst_markup_tables.specs.declared.results.TableResult.TheVariants.{Table}
use Rattle.rst_block_nodes.specs.declared.texted.Texted.{Texted}
use Rattle.rst_block_state.specs.looks.Budget.{sum_of, total}
use Rattle.rst_block_state.specs.Inside.{quoted_by, quoted, quoted_blocks, cell_blocks}
use Rattle.rst_block_state.specs.looks.Ledger.{totals, most_from, least_from, goes_on_at, quotes_left, run_looks, waiting_looks, end_looks, next_blocks, next_cells, place_after, most_after, least_after, most_left, least_left, GoesOn, WaitsForOne, AreQuotesPaid, Takes}
use Rattle.rst_block_state.specs.machine.MeaningLaws.{first_lines_of}
use Rattle.rst_block_state.specs.machine.Meanings.{deepest}
use Rattle.rst_block_state.specs.Quotes.{first_attribution, quote_after}
use Rattle.rst_block_state.specs.machine.Steps.{rest_of}
use Rattle.rst_block_state.specs.Texts.{lines_in}
use Rattle.rst_block_state.specs.declared.open_block.OpenBlock.{OpenBlock}
use Rattle.rst_block_state.specs.declared.waits.Waits.{Waits}
use Rattle.rst_block_state.specs.declared.waits.Waits.TheVariants.{Quote}
use Rattle.rst_block_state.specs.declared.step.Step.{Step}
use Rattle.rst_block_state.specs.declared.step.Step.TheVariants.{Begin, Next, Cells, Done}
use Rattle.rst_block_state.proofs.LedgerLemmas.{sum_append}
use Rattle.rst_block_state.proofs.MeaningLemmas.{not_zero}
use Rattle.rst_block_state.proofs.QuoteCounts.{attribution_within}

-- ---- quotes

fewer : (Q : Block) (a : Attribution) → length (quote_after Q a) ≤ length Q - a.end
fewer Q a = omega (arith, length-drop (lines_while Blank (drop a.end Q)) (drop a.end Q), length-drop a.end Q)

quoted_same : (f g : Block → List Block) (Q : Block) (o : Option (ℕ × Attribution)) → first_attribution Q ≡ o → ((a : Attribution) → length (quote_after Q a) ≤ length Q - 1 → f (quote_after Q a) ≡ g (quote_after Q a))
    → quoted_by f Q o ≡ quoted_by g Q o
quoted_same f g Q None e h = refl
quoted_same f g Q (Some (k, a)) e h = ap (λ (Cs : List Block). take k Q ∷ Cs) (h a (omega (arith, fewer Q a, attribution_within Q k a e)))

-- counts that are large enough give the same quotes
quoted_enough : (m k : ℕ) (Q : Block) → length Q ≤ m → length Q ≤ k → quoted m Q ≡ quoted k Q
quoted_enough zero (suc k) (l ∷ ls) h i = absurd (omega (arith, h))
quoted_enough (suc m) zero (l ∷ ls) h i = absurd (omega (arith, i))
quoted_enough (suc m) (suc k) (l ∷ ls) h i =
    quoted_same (quoted m) (quoted k) (l ∷ ls) (first_attribution (l ∷ ls)) refl (λ a some. quoted_enough m k (quote_after (l ∷ ls) a) (omega (arith, h, some)) (omega (arith, i, some)))
quoted_enough _ _ _ h i = refl

isnt_zero : (n : ℕ) → 1 ≤ n → (n == 0) ≡ false
isnt_zero zero h = absurd (omega (arith, h))
isnt_zero (suc n) h = not_zero n

-- the quotes of lines, by their first attribution
quoted_first : (Q : Block) (o : Option (ℕ × Attribution)) → 1 ≤ length Q → first_attribution Q ≡ o → quoted_blocks Q ≡ quoted_by quoted_blocks Q o
quoted_first [] o some e = absurd (omega (arith, some))
quoted_first (l ∷ ls) o some e =
    quoted_same (quoted (length ls)) quoted_blocks (l ∷ ls) (first_attribution (l ∷ ls)) refl (λ a few. quoted_enough (length ls) (length (quote_after (l ∷ ls) a)) (quote_after (l ∷ ls) a) (omega (arith, few)) (omega arith))
    ∙ ap (quoted_by quoted_blocks (l ∷ ls)) e

pub one_quote : (B : Block) (p : Part) (line : ℕ) → first_attribution (lines_in B p) ≡ None → 1 ≤ length (lines_in B p) → quoted_blocks (lines_in B p) ≡ lines_in B p ∷ quotes_left B (Quote line None None p.to)
one_quote B p line e some = quoted_first (lines_in B p) None some e

pub split_quotes : (B : Block) (p : Part) (k next line : ℕ) (a : Attribution) (made : Option (Box Texted Global)) → first_attribution (lines_in B p) ≡ Some (k, a)
    → next ≡ a.end + lines_while Blank (drop a.end (lines_in B p)) → p.to ≤ length B
    → quoted_blocks (lines_in B p) ≡ lines_in B (first_lines_of p k) ∷ quotes_left B (Quote line made (rest_of p next) p.to)
split_quotes B p k next line a made e after_blanks within =
    let Q : Block = lines_in B p in
    let w = attribution_within Q k a e in
    let count : length Q ≡ p.to - p.from = length-cut B p.from p.to p.first_cut p.rest_cut within in
    let first_lines : take k Q ≡ lines_in B (first_lines_of p k) = take-cut B p.from p.to p.first_cut p.rest_cut k (omega (arith, w.0, w.1, count)) in
    let place : drop next Q ≡ quote_after Q a = ap (λ n. drop n Q) after_blanks ∙ sym (drop-drop (lines_while Blank (drop a.end Q)) a.end Q) in
    quoted_first Q (Some (k, a)) (omega (arith, w.0, w.1)) e
    ∙ ap (λ (C : Block). C ∷ quoted_blocks (quote_after Q a)) first_lines
    ∙ ap (λ (X : Block). lines_in B (first_lines_of p k) ∷ quoted_blocks X) (sym place)
    ∙ ap (λ (Cs : List Block). lines_in B (first_lines_of p k) ∷ Cs) (rest Q (omega (arith, after_blanks, w.0)) count refl)
  where
    left_of : Part
    left_of = record { from = p.from + next; to = p.to; first_cut = p.rest_cut; rest_cut = p.rest_cut }

    -- what is left of the part
    rest : (Q : Block) → 1 ≤ next → length Q ≡ p.to - p.from → Q ≡ lines_in B p → quoted_blocks (drop next Q) ≡ quotes_left B (Quote line made (rest_of p next) p.to)
    rest Q some count is = elim (cases_lt (p.from + next) p.to) [
      | inl below ↦
          ap (λ (X : Block). quoted_blocks (drop next X)) is
          ∙ ap quoted_blocks (drop-cut B p.from p.to p.first_cut p.rest_cut next (omega (arith, below)))
          ∙ ap (λ (b : Bool). quoted_blocks (lines_in B (record { from = p.from + next; to = p.to; first_cut = cond b p.first_cut p.rest_cut; rest_cut = p.rest_cut }))) (isnt_zero next some)
          ∙ ap (λ (b : Bool). quotes_left B (Quote line made (if b then Some left_of else None) p.to)) (sym (lt-ltb (p.from + next) p.to below))
      | inr over ↦
          ap quoted_blocks (drop_all next Q (omega (arith, count, over)))
          ∙ ap (λ (b : Bool). quotes_left B (Quote line made (if b then Some left_of else None) p.to)) (sym (le-ltb (p.from + next) p.to over))
    ]

-- ---- what a block does that waited

pub alone : (l : OpenBlock) (B : Block) (w : Waits) → WaitsForOne w → (quotes_left B w ≡ []) × (goes_on_at l w ≡ l.at)
alone l B (Quote line made (Some p) end) h = absurd h
alone l B _ h = (refl, refl)

pub resumed : (l new : OpenBlock) (B : Block) (w : Waits) (before after : ℕ) → WaitsForOne w → new.depth ≡ l.depth → new.at ≡ l.at → run_looks new.run ≤ run_looks l.run
    → after ≤ before + waiting_looks w → capped before ≤ after
    → Takes (most_after l B w None) (least_after l B w None) before (most_left new B Next) (least_left new B Next) after
unfolding sum_of
resumed l new B w before after one d p r few some =
    let q = alone l B w one in
    let m : most_from new.depth B new.at ≡ most_from l.depth B (goes_on_at l w) = ap (λ k. most_from k B new.at) d ∙ ap (most_from l.depth B) (p ∙ sym q.1) in
    let n : least_from new.depth B new.at ≡ least_from l.depth B (goes_on_at l w) = ap (λ k. least_from k B new.at) d ∙ ap (least_from l.depth B) (p ∙ sym q.1) in
    record {
      no_more = omega (arith, few, r, m);
      no_less = omega (arith, some, n, ap (totals l.depth) q.0);
    }

pub quotes_go_on : (l new : OpenBlock) (B : Block) (line end : ℕ) (made : Option (Box Texted Global)) (p : Part) (s : Step) (before after : ℕ) → AreQuotesPaid l new B p p.to s before after
    → Takes (most_after l B (Quote line made (Some p) end) None) (least_after l B (Quote line made (Some p) end) None) before (most_left new B s) (least_left new B s) after
unfolding sum_of
quotes_go_on l new B line end made p s before after h = by s h.goes h.place h.blocks h.cells h.most
  where
    D : ℕ
    D = l.depth

    quotes : List Block
    quotes = quoted_blocks (lines_in B p)

    same : (t : Step) → place_after new t ≡ p.to → totals D (next_blocks B t) ≡ totals D quotes → next_cells t ≡ [] → after + end_looks new t ≤ before + run_looks l.run + (1 + 16 * (p.to - p.from))
        → Takes (most_after l B (Quote line made (Some p) end) None) (least_after l B (Quote line made (Some p) end) None) before
        (end_looks new t + 128 * (totals new.depth (next_blocks B t) + totals new.depth (next_cells t)) + most_from new.depth B (place_after new t))
        (totals new.depth (next_blocks B t) + totals new.depth (next_cells t) + least_from new.depth B (place_after new t)) after
    same t place blocks cells few =
        let m = ap (most_from D B) place in
        let n = ap (least_from D B) place in
        let none = ap (totals D) cells in
        subst (λ d. Takes (most_after l B (Quote line made (Some p) end) None) (least_after l B (Quote line made (Some p) end) None) before
        (end_looks new t + 128 * (totals d (next_blocks B t) + totals d (next_cells t)) + most_from d B (place_after new t))
        (totals d (next_blocks B t) + totals d (next_cells t) + least_from d B (place_after new t)) after) (sym h.depth)
        (record { no_more = omega (arith, few, m, blocks, none); no_less = omega (arith, h.least, n, blocks, none) })

    by : (t : Step) → GoesOn t → place_after new t ≡ p.to → totals D (next_blocks B t) ≡ totals D quotes → next_cells t ≡ [] → after + end_looks new t ≤ before + run_looks l.run + (1 + 16 * (p.to - p.from))
        → Takes (most_after l B (Quote line made (Some p) end) None) (least_after l B (Quote line made (Some p) end) None) before (most_left new B t) (least_left new B t) after
    by Begin g place blocks cells few = absurd g
    by Done g place blocks cells few = absurd g
    by t g place blocks cells few = same t place blocks cells few

-- ---- cells

map_append : (cs ds : List Cell) → map (λ (c : Cell). c.lines) (cs ++ ds) ≡ map (λ (c : Cell). c.lines) cs ++ map (λ (c : Cell). c.lines) ds
map_append [] ds = refl
map_append (c ∷ cs) ds = ap (λ (Cs : List Block). c.lines ∷ Cs) (map_append cs ds)

pub rows_cells : (depth n m end : ℕ) (widths : List ℕ) (row : List Cell) (rows : List (List Cell))
    → totals depth (cell_blocks (Table widths n (row ∷ rows) end)) ≡ totals depth (cell_blocks (Table widths m (row ∷ []) end)) + totals depth (cell_blocks (Table widths m rows end))
unfolding sum_of
rows_cells depth n m end widths row rows =
    let f : Block → ℕ = total true (deepest - depth) false in
    let all : List Cell = flat_map (λ (r : List Cell). r) rows in
    let lines : List Cell → List Block = map (λ (c : Cell). c.lines) in
    let one = ap (sum_of f) (map_append row all) ∙ sum_append f (lines row) (lines all) in
    let two = ap (sum_of f) (map_append row []) ∙ sum_append f (lines row) [] in
    omega (arith, one, two)

pub table_read : (l new : OpenBlock) (B : Block) (t : TableResult) (before mid after : ℕ) → new.depth ≡ l.depth → new.at ≡ end_of t → new.run ≡ l.run
    → mid ≤ before + 128 * totals l.depth (cell_blocks t) → capped (before + totals l.depth (cell_blocks t)) ≤ mid → after ≤ mid + 1 → capped mid ≤ after
    → Takes (most_left l B (Cells t)) (least_left l B (Cells t)) before (most_left new B Next) (least_left new B Next) after
unfolding sum_of
table_read l new B t before mid after d p r few some one more =
    let m : most_from new.depth B new.at ≡ most_from l.depth B (end_of t) = ap (λ k. most_from k B new.at) d ∙ ap (most_from l.depth B) p in
    let n : least_from new.depth B new.at ≡ least_from l.depth B (end_of t) = ap (λ k. least_from k B new.at) d ∙ ap (least_from l.depth B) p in
    record {
      no_more = omega (arith, few, one, m, ap run_looks r);
      no_less = omega (arith, some, more, n);
    }
