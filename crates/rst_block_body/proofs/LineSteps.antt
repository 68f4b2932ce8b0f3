-- A line of a line block at the next line of a block: it joins the open line block, or begins one.
use Rattle.std.proofs.Common.{◌≡◌, ℕ, ◌+◌, ◌-◌, ◌<◌, ◌≤◌, Bool, true, false, List, [], ◌∷◌, ◌++◌, length, length-drop, take, drop, Some, None, unwrap_or, Err, arith, refl, sym, ◌∙◌, ap, append_assoc, string_bytes, encode_utf8_all, IsUtf8, chars}
use Rattle.std.specs.Prelude.{if◌then◌else◌, box_value}
use Rattle.std.specs.declared.string.String.{String}
use Rattle.std.proofs.lemmas.Str.{chars-append, chars_from_encodes, encode_ascii}
use Rattle.rst_settings.specs.declared.Parts.{Parts}
use Rattle.rst_text.specs.Block.{Block, first_text, first_number, first_parts, cut, shorten_all}
use Rattle.rst_text.specs.Text.{chars_of}
use Rattle.rst_markup_lines.specs.declared.marker.Marker.{Marker}
use Rattle.rst_markup_blocks.specs.Partition.{Span}
use Rattle.rst_block_nodes.specs.LineBlocks.{IndentedLine, indented_by, indented_from, indented}
use Rattle.rst_block_nodes.specs.declared.line_blocks.BarText.{BarText}
use Rattle.rst_block_state.specs.Constructs.{bar_line, Found}
use Rattle.rst_block_state.specs.Joins.{lines_from, joining_after}
use Rattle.rst_block_state.specs.LineRuns.{below_bar, number_or, indentation_of, indented_line, indented_lines}
use Rattle.rst_block_body.specs.TextSteps.{text_over}
use Rattle.rst_block_state.specs.machine.Meanings.{joining_in, open_run_of, within_at, done_of, reads}
use Rattle.rst_block_state.specs.machine.NextLine.{IsNextConstruct}
use Rattle.rst_block_state.specs.Numbered.{Numbered, ◌>>=◌, before}
use Rattle.rst_block_state.specs.machine.OpenBlocks.{HasRun, HasLine, line_added, lines_end_at}
use Rattle.rst_block_state.specs.machine.Rest.{OpenRun, no_run, open_lines, joining_with, last_indent, rest, rest_with}
use Rattle.rst_block_state.specs.machine.RestLaws.{found_as}
use Rattle.rst_block_state.specs.Texts.{joined}
use Rattle.rst_block_state.specs.Titles.{Item}
use Rattle.rst_block_state.specs.declared.open_block.OpenBlock.{OpenBlock}
use Rattle.rst_block_state.specs.declared.run.ListKind.{ListKind}
use Rattle.rst_block_state.specs.declared.run.ListKind.TheVariants.{Bullet}
use Rattle.rst_block_state.specs.declared.run.Run.{Run}
use Rattle.rst_block_state.specs.declared.run.Run.TheVariants.{None as NoRun, List as ListRun, Lines, Explicit}
use Rattle.rst_block_state.proofs.Changes.{done_same, reads_is}
use Rattle.rst_block_state.proofs.NextConstructs.{span_to, next_found, next_reads, run_of, HasEnded, closed_reads, close_refused}
use Rattle.rst_block_state.proofs.NumberedLemmas.{same_before, at_number}
use Rattle.rst_block_state.proofs.RestLemmas.{line_joins, line_begins}

-- ---- the text of a line

-- the text of a line, and below it the text of others
pub over_lines : {A : Type 0} (text : String A) (first further : List ℕ) (Y : Block) → IsUtf8 first → 0 < length Y → string_bytes text ≡ (first ++ 10 ∷ []) ++ further → chars further ≡ joined Y
    → chars_of text ≡ text_over (chars first) Y
over_lines text first further [] u some e f = absurd (omega arith)
over_lines text first further (l ∷ ls) u some e f =
    ap chars (e ∙ append_assoc first (10 ∷ []) further)
    ∙ chars-append first (10 ∷ further) u
    ∙ ap (λ cs. chars first ++ cs) (line_feed further ∙ ap (λ cs. 10 ∷ cs) f)
  where
    line_feed : (bytes : List ℕ) → chars (10 ∷ bytes) ≡ 10 ∷ chars bytes
    line_feed bytes =
        let e : encode_utf8_all (10 ∷ []) ≡ 10 ∷ [] = ap (λ cs. cs ++ []) (encode_ascii 10 (omega arith)) in
        let u : IsUtf8 (10 ∷ []) = (10 ∷ [], (refl, e)) in
        chars-append (10 ∷ []) bytes u ∙ ap (λ cs. cs ++ chars bytes) (sym (chars_from_encodes (10 ∷ []) (10 ∷ []) u e))

-- where there are none it is all
pub over_none : {A : Type 0} (text : String A) (first : List ℕ) (Y : Block) → length Y ≤ 0 → string_bytes text ≡ first → chars_of text ≡ text_over (chars first) Y
over_none text first [] none e = ap chars e
over_none text first (l ∷ ls) none e = absurd (omega (arith, none))

-- the rest of a bar's line
first_cut : (f : ℕ) (X : Block) → 1 ≤ length X → shorten_all f 0 (take 1 X) ≡ (record { number = first_number X; text = drop f (first_text X); parts = first_parts X }) ∷ []
first_cut f [] some = absurd (omega (arith, some))
first_cut f (l ∷ ls) some = refl

line_cut : (B : Block) (at f : ℕ) → at < length B → cut B at (at + 1) f 0 ≡ (record { number = first_number (drop at B); text = drop f (first_text (drop at B)); parts = first_parts (drop at B) }) ∷ []
line_cut B at f h =
    let one : at + 1 - at ≡ 1 = omega arith in
    ap (λ n. shorten_all f 0 (take n (drop at B))) one ∙ first_cut f (drop at B) (omega (arith, length-drop at B, h))

-- a line with text after its bar
pub full_line : (B : Block) (m : Marker) (s : Span) (indent line last : ℕ) (t : List ℕ) (below : Block) (parts : Parts) → parts ≡ first_parts (drop s.start B) → m.bare ≡ false → s.start < length B → indent ≡ m.cut - 2 → line ≡ first_number (drop s.start B)
    → below ≡ below_bar B s → t ≡ text_over (drop m.cut (first_text (drop s.start B))) below
    → (let l : IndentedLine = record { indent = indent; line = line; text_line = line; text = t; parts = parts } in l) ≡ indented_line (indentation_of last m) B m s
full_line B m s indent line last t below parts asked bare h i n b e = rw (asked, e, b, i, n, bare, line_cut B s.start m.cut h) refl

-- a line whose bar is alone
pub bare_line : (B : Block) (m : Marker) (s : Span) (line text_line last : ℕ) (t : List ℕ) (below : Block) (parts : Parts) → parts ≡ first_parts (drop s.start B) → m.bare ≡ true → line ≡ first_number (drop s.start B)
    → below ≡ below_bar B s → text_line ≡ number_or line below → t ≡ joined below
    → (let l : IndentedLine = record { indent = last; line = line; text_line = text_line; text = t; parts = parts } in l) ≡ indented_line (indentation_of last m) B m s
bare_line B m s line text_line last t below parts asked bare n b k e = rw (asked, e, k, b, n, bare) refl

-- ---- lines as they are kept

-- one more line takes the indentation of the last, where it has none
lines_push : (last : ℕ) (bars : List BarText) (bar : BarText)
    → indented_from last (bars ++ bar ∷ []) ≡ indented_from last bars ++ indented_by (unwrap_or bar.indent (last_indent last (indented_from last bars))) bar ∷ []
lines_push last [] bar = refl
lines_push last (b ∷ bars) bar = ap (λ ls. indented_by (unwrap_or b.indent last) b ∷ ls) (lines_push (unwrap_or b.indent last) bars bar)

-- the same in the open run
pub line_pushed : (bars more : List BarText) (bar : BarText) (end e : ℕ) → more ≡ bars ++ bar ∷ [] → open_lines end (indented more) ≡ line_added bar end (open_lines e (indented bars))
line_pushed bars more bar end e h = ap (λ bs. open_lines end (indented bs)) h ∙ ap (open_lines end) (lines_push 0 bars bar)

-- a run that is no line block stays
pub other_stays : (run : Run) (bar : BarText) (end : ℕ) → ((lines : _) (e : ℕ) → run ≡ Lines lines e → ⊥) → open_run_of run ≡ line_added bar end (open_run_of run)
other_stays (Lines lines e) bar end h = absurd (h lines e refl)
other_stays _ bar end h = refl

-- ---- what the block gives

-- a line joins no list
no_list : (kind : ListKind) (m : Marker) (s : Span) → joining_after (joining_in kind) (bar_line m) s ≡ None
no_list (Bullet c) m s = refl
no_list _ m s = refl

-- a line joins no run but a line block that ends where the line begins
begins : (run : Run) (m : Marker) (s : Span) → lines_end_at s.start (open_run_of run) ≡ false → joining_with (open_run_of run) (found_as (bar_line m) s) ≡ None
begins NoRun m s h = refl
begins (ListRun l) m s h = no_list (box_value l).kind m s
begins (Lines lines end) m s h = ap (λ (b : Bool). if b then Some (lines_from s.stop) else None) h
begins (Explicit end) m s h = refl

-- a line that joins the open line block
joins_by : (o : OpenRun) (old new : OpenBlock) (B : Block) (m : Marker) (bar : BarText) (lines n : ℕ) → open_run_of old.run ≡ o → lines_end_at old.at o ≡ true
    → IsNextConstruct old B (bar_line m) lines
    → ((last : ℕ) → indented_by (unwrap_or bar.indent last) bar ≡ indented_line (indentation_of last m) B m (span_to old.at (old.at + lines)))
    → HasLine old new (line_added bar (old.at + lines) o) → new.at ≡ old.at + lines → reads new B n ≡ reads old B n
joins_by (open_lines end ls) old new B m bar lines n e h next line g at =
    let f : Found = next_found old (bar_line m) lines in
    at_number n (reads_is new B (done_same old new g.nodes g.headings) g.depth at g.run)
    ∙ ap (λ l. before (done_of old) (rest (within_at old.depth) B (old.at + lines) (open_lines (old.at + lines) (ls ++ l ∷ []))) n) (line (last_indent 0 ls))
    ∙ sym (
    next_reads n next
    ∙ ap (λ r. before (done_of old) (rest_with (within_at old.depth) B r f) n) e
    ∙ same_before (done_of old) (rest_with (within_at old.depth) B (open_lines end ls) f)
    (rest (within_at old.depth) B (old.at + lines) (open_lines (old.at + lines) (ls ++ indented_lines B (last_indent 0 ls) (f ∷ []))))
    n (line_joins (within_at old.depth) B end ls m f.span n h))
joins_by _ old new B m bar lines n e h next line g at = cc

-- the same, whatever run is open
pub line_joined : {old new : OpenBlock} {B : Block} {m : Marker} {lines : ℕ} (bar : BarText) (n : ℕ) → lines_end_at old.at (open_run_of old.run) ≡ true → IsNextConstruct old B (bar_line m) lines
    → ((last : ℕ) → indented_by (unwrap_or bar.indent last) bar ≡ indented_line (indentation_of last m) B m (span_to old.at (old.at + lines)))
    → HasLine old new (line_added bar (old.at + lines) (open_run_of old.run)) → new.at ≡ old.at + lines → reads new B n ≡ reads old B n
line_joined {old} {new} {B} {m} {lines} bar n h next line g at = joins_by (open_run_of old.run) old new B m bar lines n refl h next line g at

-- what comes of a line that begins a line block
after_begin : OpenBlock → Block → Marker → ℕ → Numbered (List Item)
after_begin old B m lines = rest (within_at old.depth) B (old.at + lines) (open_lines (old.at + lines) (indented_lines B 0 (next_found old (bar_line m) lines ∷ [])))

run_then_line : {l : OpenBlock} {B : Block} {m : Marker} {lines : ℕ} (n : ℕ) → lines_end_at l.at (open_run_of l.run) ≡ false → IsNextConstruct l B (bar_line m) lines
    → reads l B n ≡ before (done_of l) (run_of l B >>= λ done. before done (after_begin l B m lines)) n
unfolding after_begin
run_then_line {l} {B} {m} {lines} n h next =
    let f : Found = next_found l (bar_line m) lines in
    next_reads n next
    ∙ same_before (done_of l) (rest_with (within_at l.depth) B (open_run_of l.run) f) (run_of l B >>= λ done. before done (after_begin l B m lines)) n
    (line_begins (within_at l.depth) B (open_run_of l.run) m f.span n (begins l.run m f.span h))

-- a line that begins a line block, once the open run has ended and one without lines is open
pub line_begun : {old mid new : OpenBlock} {B : Block} {m : Marker} {lines n k : ℕ} (opened : OpenBlock) (bar : BarText) (e : ℕ) → lines_end_at old.at (open_run_of old.run) ≡ false → IsNextConstruct old B (bar_line m) lines
    → ((last : ℕ) → indented_by (unwrap_or bar.indent last) bar ≡ indented_line (indentation_of last m) B m (span_to old.at (old.at + lines)))
    → HasEnded old mid B n k → HasRun mid opened (open_lines e []) → HasLine opened new (line_added bar (old.at + lines) (open_run_of opened.run)) → new.at ≡ old.at + lines → reads new B k ≡ reads old B n
unfolding after_begin
line_begun {old} {mid} {new} {B} {m} {lines} {n} {k} opened bar e h next line ended run g at =
    at_number k (reads_is new B (done_same opened new g.nodes g.headings ∙ done_same mid opened run.nodes run.headings) (g.depth ∙ run.depth ∙ ended.closed.depth) at (g.run ∙ ap (line_added bar (old.at + lines)) run.run))
    ∙ ap (λ l. before (done_of mid) (rest (within_at old.depth) B (old.at + lines) (open_lines (old.at + lines) (l ∷ []))) k) (line 0)
    ∙ sym (
    run_then_line n h next
    ∙ closed_reads old mid B n k no_run (λ done. before done (after_begin old B m lines)) (after_begin old B m lines) ended.closed (λ done j. refl))

-- where the open run is nested too deeply, so is all
pub line_refused : {l : OpenBlock} {B : Block} {m : Marker} {lines line : ℕ} (n : ℕ) → lines_end_at l.at (open_run_of l.run) ≡ false → IsNextConstruct l B (bar_line m) lines → run_of l B n ≡ Err line → reads l B n ≡ Err line
unfolding after_begin
line_refused {l} {B} {m} {lines} {line} n h next e = run_then_line n h next ∙ close_refused l B n line (λ done. before done (after_begin l B m lines)) e
