-- What block quotes take of looks, and what a block may take that waited for one.
use Rattle.std.proofs.Common.{◌≡◌, ℕ, ◌+◌, ◌-◌, ◌*◌, ◌<◌, ◌≤◌, List, length, length-drop, drop, Option, Some, None, Box, Global, Result, arith, refl, sym, ap, subst, ◌∙◌, inl, inr, lt-ltb, le-ltb}
use Rattle.std.proofs.lemmas.Bool.{cases_lt}
use Rattle.rst_text.specs.Block.{Block}
use Rattle.rst_text.specs.Extent.{extent}
use Rattle.rst_text.specs.Looked.{Looked, capped}
use Rattle.rst_text.specs.Reach.{reach}
use Rattle.rst_tree.specs.declared.node.Node.{Node}
use Rattle.rst_markup_blocks.specs.Begun.{IsBegun}
use Rattle.rst_markup_blocks.specs.Lines.{lines_while}
use Rattle.rst_markup_blocks.proofs.RowLaws.{while_le}
use Rattle.rst_markup_blocks.specs.declared.attribution.Attribution.{Attribution}
use Rattle.rst_markup_blocks.specs.declared.begun.Begun.TheVariants as Begins
use Rattle.rst_markup_blocks.specs.declared.lines.LineTest.TheVariants.{Blank}
use Rattle.rst_markup_blocks.specs.declared.part.Part.{Part}
use Rattle.rst_block_nodes.specs.declared.texted.Texted.{Texted}
use Rattle.rst_block_state.specs.Inside.{quoted_blocks}
use Rattle.rst_block_state.specs.looks.Ledger.{totals, most_from, least_from, still_before, goes_on_at, run_looks, waiting_looks, next_blocks, most_after, least_after, most_left, least_left, AreQuotesPaid, IsPaid, Takes, WaitsForOne}
use Rattle.rst_block_state.specs.machine.MeaningLaws.{first_lines_of}
use Rattle.rst_block_state.specs.machine.Meanings.{open_run_of}
use Rattle.rst_block_state.specs.machine.OpenBlocks.{IsMoved, HasMore, HasItemIn, HasItem, IsClosed}
use Rattle.rst_block_state.specs.Quotes.{first_attribution}
use Rattle.rst_block_state.specs.machine.Rest.{no_run}
use Rattle.rst_block_state.specs.machine.Steps.{rest_of}
use Rattle.rst_block_state.specs.Texts.{lines_in}
use Rattle.rst_block_state.specs.Titles.{Item}
use Rattle.rst_block_state.specs.Within.{indented_part}
use Rattle.rst_block_state.specs.declared.open_block.OpenBlock.{OpenBlock}
use Rattle.rst_block_state.specs.declared.waits.Waits.{Waits}
use Rattle.rst_block_state.specs.declared.waits.Waits.TheVariants.{Quote}
use Rattle.rst_block_state.specs.declared.run.Run.{Run}
use Rattle.rst_block_state.specs.declared.run.Run.TheVariants.{List as ListRun}
use Rattle.rst_block_state.specs.declared.step.Step.{Step}
use Rattle.rst_block_state.specs.declared.step.Step.TheVariants.{Next, Open}
use Rattle.rst_block_state.proofs.NextConstructs.{next_of, next_some}
use Rattle.rst_block_state.proofs.PaidSteps.{one_look, paid_begun, ended_looks}
use Rattle.rst_block_state.proofs.QuoteCounts.{attribution_within}
use Rattle.rst_block_state.proofs.WaitingLooks.{one_quote, split_quotes, resumed, quotes_go_on}

-- ---- the quotes of a part

-- A part without an attribution is one quote. L are its lines: five looks are taken at each of them at most, and one more.
pub plain_paid : (old new : OpenBlock) (B : Block) (p : Part) (line before after : ℕ) (L : Block) → L ≡ lines_in B p → None ≡ first_attribution L → length L ≡ p.to - p.from → p.from < p.to
    → IsMoved old new → new.at ≡ p.to → Looked (length L) (5 * length L + 1) before after
    → AreQuotesPaid old new B p p.to (Open (Quote line None None p.to) p None) before after
plain_paid old new B p line before after L is none size filled moved at looked =
    let run : run_looks new.run ≡ run_looks old.run = ap run_looks moved.run in
    let some : 1 ≤ length (lines_in B p) = omega (arith, ap length is, size, filled) in
    record {
      goes = tt;
      depth = moved.depth;
      run = run;
      place = at;
      blocks = sym (ap (totals old.depth) (one_quote B p line (ap first_attribution (sym is) ∙ sym none) some));
      cells = refl;
      most = omega (arith, run, looked.1, size, filled);
      least = omega (arith, looked.0);
    }

-- where lines are left of a part, the block goes on after them; where none are left, it is there already
left_goes_on : (new : OpenBlock) (p : Part) (next line : ℕ) (made : Option (Box Texted Global)) → new.at ≡ p.from + next → p.from + next ≤ p.to → goes_on_at new (Quote line made (rest_of p next) p.to) ≡ p.to
left_goes_on new p next line made at within = elim (cases_lt (p.from + next) p.to) [
  | inl below ↦ rw (lt-ltb (p.from + next) p.to below) refl
  | inr over ↦ rw (le-ltb (p.from + next) p.to over) (omega (arith, at, within, over))
]

-- the looks by which the quotes are found that are left of a part
left_looks : (p : Part) (next line : ℕ) (made : Option (Box Texted Global)) → waiting_looks (Quote line made (rest_of p next) p.to) ≤ 1 + 16 * (p.to - (p.from + next))
left_looks p next line made = elim (cases_lt (p.from + next) p.to) [
  | inl below ↦ rw (lt-ltb (p.from + next) p.to below) (omega arith)
  | inr over ↦ rw (le-ltb (p.from + next) p.to over) (omega arith)
]

-- A part with an attribution is the quote of the lines before that, and the quotes of what is left. L are its lines: five looks at most are taken at
-- each of them through the attribution's end, one more at each of its own lines, and one at each blank line after it and at the line after these.
pub attributed_paid : (old new : OpenBlock) (B : Block) (p : Part) (k next line before found read after : ℕ) (a : Attribution) (box : Box Texted Global) (left : Option Part) (L : Block)
    → left ≡ rest_of p next → L ≡ lines_in B p → Some (k, a) ≡ first_attribution L → next ≡ a.end + lines_while Blank (drop a.end L) → length L ≡ p.to - p.from → p.from < p.to → p.to ≤ length B → 0 < k
    → IsMoved old new → new.at ≡ p.from + next → Looked a.end (5 * a.end) before found → read ≤ found + (a.end - k) → capped (found + (a.end - k)) ≤ read
    → Looked (lines_while Blank (drop a.end L)) (lines_while Blank (drop a.end L) + 1) read after
    → AreQuotesPaid old new B p p.to (Open (Quote line (Some box) left p.to) (first_lines_of p k) None) before after
attributed_paid old new B p k next line before found read after a box left L rest is first after_blanks size filled within text_after moved at looked each all blanks = rw rest (record {
  goes = tt;
  depth = moved.depth;
  run = run;
  place = left_goes_on new p next line (Some box) at ends;
  blocks = sym (ap (totals old.depth) (split_quotes B p k next line a (Some box) attributed (after_blanks ∙ ap (λ (Q : Block). a.end + lines_while Blank (drop a.end Q)) is) within));
  cells = refl;
  most = omega (arith, run, left_looks p next line (Some box), ends, after_blanks, inside.0, text_after, looked.1, each, blanks.1, filled);
  least = omega (arith, looked.0, all, blanks.0);
})
  where
    run : run_looks new.run ≡ run_looks old.run
    run = ap run_looks moved.run

    attributed : first_attribution (lines_in B p) ≡ Some (k, a)
    attributed = ap first_attribution (sym is) ∙ sym first

    inside : (k < a.end) × (a.end ≤ length L)
    inside = attribution_within L k a (sym first)

    ends : p.from + next ≤ p.to
    ends = omega (arith, after_blanks, inside.1, while_le Blank (drop a.end L), length-drop a.end L, size, filled)

-- ---- a block quote

-- A block quote, after the end of the open run: its lines are those of the extent, which is looked at once, and then it is read as quotes.
pub block_quote_paid : (l closed new : OpenBlock) (B : Block) (p : Part) (s : Step) (done : Result (List Item × ℕ) ℕ) (n before mid found after : ℕ) → l.at < length B → IsBegun (drop l.at B) Begins.Quote
    → IsClosed done l closed n no_run → capped before ≤ mid → mid ≤ before + run_looks l.run
    → p ≡ indented_part l.at (drop l.at B) → found ≤ mid + reach (extent 1 (drop l.at B)) (drop l.at B) → capped (mid + reach (extent 1 (drop l.at B)) (drop l.at B)) ≤ found
    → AreQuotesPaid closed new B p p.to s found after → IsPaid 29 l new B s before after
block_quote_paid l closed new B p s done n before mid found after inside begun cl low run part looks all h =
    let X : Block = drop l.at B in
    let from : p.from ≡ l.at = ap (λ (q : Part). q.from) part in
    let to : p.to ≡ l.at + extent 1 X = ap (λ (q : Part). q.to) part in
    let some : l.at < l.at + extent 1 X = next_some (next_of Begins.Quote l B begun tt) inside in
    let none : run_looks closed.run ≡ 0 = ended_looks closed.run cl.run in
    let opened : totals l.depth (next_blocks B s) ≡ totals l.depth (quoted_blocks (lines_in B p)) =
    subst (λ d. totals d (next_blocks B s) ≡ totals d (quoted_blocks (lines_in B p))) cl.depth h.blocks in
    paid_begun 29 Begins.Quote l new B s before after begun tt h.goes (h.depth ∙ cl.depth) (h.place ∙ to)
    (opened ∙ ap (λ (q : Part). totals l.depth (quoted_blocks (lines_in B q))) part) (ap (totals l.depth) h.cells)
    (omega (arith, h.most, none, looks, from, to, some, run)) (omega (arith, h.least, all, low))

-- ---- a block that waited for a quote

-- further quotes are read
pub further_paid : (old new : OpenBlock) (B : Block) (left : Option Part) (line end : ℕ) (made : Option (Box Texted Global)) (p : Part) (s : Step) (before after : ℕ)
    → left ≡ Some p → AreQuotesPaid old new B p p.to s before after
    → Takes (most_after old B (Quote line made left end) None) (least_after old B (Quote line made left end) None) before (most_left new B s) (least_left new B s) after
further_paid old new B left line end made p s before after is h = rw is (quotes_go_on old new B line end made p s before after h)

-- the last quote was read, and a look at most is taken at the line after it
pub last_paid : {old new : OpenBlock} {more : List Node} (B : Block) (left : Option Part) (line end : ℕ) (made : Option (Box Texted Global)) (before after : ℕ)
    → left ≡ None → HasMore old new more → after ≤ before + 1 → capped before ≤ after
    → Takes (most_after old B (Quote line made left end) None) (least_after old B (Quote line made left end) None) before (most_left new B Next) (least_left new B Next) after
last_paid {old} {new} B left line end made before after none m few low =
    let run : run_looks new.run ≡ run_looks old.run = ap run_looks m.run in
    rw none (resumed old new B (Quote line made None end) before after tt m.depth m.at (omega (arith, run)) few low)

goes_on_same : (old new : OpenBlock) (line end : ℕ) (made : Option (Box Texted Global)) (left : Option Part) → new.at ≡ old.at → goes_on_at new (Quote line made left end) ≡ goes_on_at old (Quote line made left end)
goes_on_same old new line end made None at = at
goes_on_same old new line end made (Some p) at = refl

-- a block that got nodes takes as many looks as it would without them
pub more_paid : {old mid : OpenBlock} {more : List Node} (B : Block) (waits : Waits) (line end : ℕ) (made : Option (Box Texted Global)) (left : Option Part) (before : ℕ) (most_then least_then after : ℕ)
    → waits ≡ Quote line made left end → HasMore old mid more
    → Takes (most_after mid B (Quote line made left end) None) (least_after mid B (Quote line made left end) None) before most_then least_then after
    → Takes (most_after old B waits None) (least_after old B waits None) before most_then least_then after
more_paid {old} {mid} B waits line end made left before most_then least_then after is m h =
    let w : Waits = Quote line made left end in
    let place : goes_on_at mid w ≡ goes_on_at old w = goes_on_same old mid line end made left m.at in
    let run : run_looks mid.run ≡ run_looks old.run = ap run_looks m.run in
    let inner : totals mid.depth (still_before B w None) ≡ totals old.depth (still_before B w None) = ap (λ d. totals d (still_before B w None)) m.depth in
    let most : most_from mid.depth B (goes_on_at mid w) ≡ most_from old.depth B (goes_on_at old w) = ap (λ d. most_from d B (goes_on_at mid w)) m.depth ∙ ap (most_from old.depth B) place in
    let least : least_from mid.depth B (goes_on_at mid w) ≡ least_from old.depth B (goes_on_at old w) = ap (λ d. least_from d B (goes_on_at mid w)) m.depth ∙ ap (least_from old.depth B) place in
    rw is (record { no_more = omega (arith, h.no_more, run, inner, most); no_less = omega (arith, h.no_less, inner, least) })

-- ---- a block that waited for nodes or an item

-- it gets nodes, and no look is taken
pub nodes_paid : {old new last : OpenBlock} {more : List Node} (B : Block) (waits : Waits) (looks : ℕ) → WaitsForOne waits → HasMore old new more → last ≡ new
    → Takes (most_after old B waits None) (least_after old B waits None) looks (most_left last B Next) (least_left last B Next) looks
nodes_paid {old} {new} B waits looks one m is =
    let run : run_looks new.run ≡ run_looks old.run = ap run_looks m.run in
    rw is (resumed old new B waits looks looks one m.depth m.at (omega (arith, run)) (omega arith) (omega arith))

-- with one more item the run takes no more looks at its end
item_same : (old new : OpenBlock) (item : Node) → HasItem old new item → (new.depth ≡ old.depth) × (new.at ≡ old.at) × (run_looks new.run ≤ run_looks old.run)
item_same old new item h = by old.run refl h
  where
    by : (r : Run) → old.run ≡ r → HasItemIn (open_run_of r) old new item → (new.depth ≡ old.depth) × (new.at ≡ old.at) × (run_looks new.run ≤ run_looks r)
    by (ListRun l) e h = (h.depth, h.at, one_look new.run)
    by _ e h = (h.depth, h.at, omega (arith, ap run_looks (h.run ∙ e)))

-- it gets an item, and no look is taken
pub item_paid : (old new last : OpenBlock) (B : Block) (item : Node) (waits : Waits) (looks : ℕ) → WaitsForOne waits → HasItem old new item → last ≡ new
    → Takes (most_after old B waits None) (least_after old B waits None) looks (most_left last B Next) (least_left last B Next) looks
item_paid old new last B item waits looks one h is =
    let same = item_same old new item h in
    rw is (resumed old new B waits looks looks one same.0 same.1 same.2 (omega arith) (omega arith))
