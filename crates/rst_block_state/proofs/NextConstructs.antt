-- The next construct of a block: what begins at its next line, what the block gives by it, and what it gives once the open run has ended.
use Rattle.std.proofs.Common.{◌≡◌, ℕ, zero, suc, ◌+◌, ◌-◌, ◌<◌, ◌≤◌, Bool, true, false, cond, List, [], ◌∷◌, ◌++◌, length, drop, map, Ok, Err, arith, refl, sym, ◌∙◌, ap}
use Rattle.std.specs.Prelude.{◌==◌}
use Rattle.std.proofs.lemmas.List.{drop-drop}
use Rattle.rst_text.specs.Block.{Block, is_blank, first_text}
use Rattle.rst_tree.specs.declared.node.Node.{Node}
use Rattle.rst_markup_blocks.specs.Begun.{IsBegun, kind_in}
use Rattle.rst_markup_blocks.specs.Conditions.{next_text}
use Rattle.rst_markup_blocks.specs.Ends.{row_size}
use Rattle.rst_markup_blocks.specs.Forms.{text_form}
use Rattle.rst_markup_blocks.specs.Kinds.{kind_at, first_kind}
use Rattle.rst_markup_blocks.specs.Lines.{lines_while}
use Rattle.rst_markup_blocks.specs.Partition.{AreBlank, construct_size, IsTextAt}
use Rattle.rst_markup_blocks.specs.Sizes.{text_size, form_size}
use Rattle.rst_markup_blocks.specs.declared.begun.Begun.{Begun}
use Rattle.rst_markup_blocks.specs.declared.begun.Begun.TheVariants.{Blank}
use Rattle.rst_markup_blocks.specs.declared.form.TextForm.{TextForm}
use Rattle.rst_markup_blocks.specs.declared.kind.Kind.TheVariants as kinds
use Rattle.rst_markup_blocks.specs.declared.lines.LineTest.TheVariants.{Blank as BlankTest}
use Rattle.rst_markup_blocks.proofs.PartitionLemmas.{end_inside}
use Rattle.rst_block_state.specs.machine.Begins.{construct_with}
use Rattle.rst_block_state.specs.Constructs.{Construct, Found, text_by}
use Rattle.rst_block_state.specs.Joins.{alone_ending}
use Rattle.rst_block_state.specs.machine.Meanings.{deepest, open_run_of, within_at, done_of, reads, comes}
use Rattle.rst_block_state.specs.machine.NextLine.{IsText, IsNextConstruct}
use Rattle.rst_block_state.specs.Nodes.{piece_of, ending_notes}
use Rattle.rst_block_state.specs.Numbered.{Numbered, then_read, ◌>>=◌, just, before}
use Rattle.rst_block_state.specs.machine.OpenBlocks.{IsMoved, IsClosed}
use Rattle.rst_block_state.specs.machine.Rest.{OpenRun, no_run, closed_run, rest, rest_with}
use Rattle.rst_block_state.specs.machine.RestLaws.{found_as, IsAlone}
use Rattle.rst_block_state.specs.Titles.{Item, plain}
use Rattle.rst_block_state.specs.declared.open_block.OpenBlock.{OpenBlock}
use Rattle.rst_block_state.specs.declared.step.Step.TheVariants.{Done}
use Rattle.rst_block_state.proofs.BegunLemmas.{marks_tell_constructs}
use Rattle.rst_block_state.proofs.Changes.{done_moved, done_closed, reads_is}
use Rattle.rst_block_state.proofs.NumberedLemmas.{same_after, before_before, before_then, same_before, at_number}
pub use Rattle.rst_block_state.proofs.RestLemmas.{lines_after, span_to}
use Rattle.rst_block_state.proofs.RestLemmas.{rest_over, rest_blanks, rest_text, alone_begins}

-- ---- what begins at the next line

-- something begins at a line
abbrev pub IsFilled : Begun → Type 0
IsFilled Blank = ⊥
IsFilled begun = Unit {0}

blank_kind : (X : Block) → is_blank (first_text X) ≡ true → kind_at X ≡ kinds.Blank
unfolding kind_at first_kind
blank_kind X h = rw h refl

not_blank : (begun : Begun) → kind_in begun ≡ kinds.Blank → IsFilled begun → ⊥
not_blank Blank e f = f
not_blank _ e f = cc

-- where something begins the line isn't blank
filled_at : (begun : Begun) (B : Block) (i : ℕ) → IsBegun (drop i B) begun → IsFilled begun → IsTextAt B i
filled_at begun B i h f = by (is_blank (first_text (drop i B))) refl
  where
    by : (b : Bool) → is_blank (first_text (drop i B)) ≡ b → IsTextAt B i
    by false e = e
    by true e = absurd (not_blank begun (h.kind ∙ blank_kind (drop i B) e) f)

-- the construct with the mark that is found at the next line
pub next_of : (begun : Begun) (l : OpenBlock) (B : Block) → IsBegun (drop l.at B) begun → IsFilled begun
    → IsNextConstruct l B (construct_with begun (l.depth == 0) (drop l.at B)) (row_size (kind_in begun) (l.depth == 0) (drop l.at B))
unfolding construct_size
next_of begun l B h f = record {
  filled = filled_at begun B l.at h f;
  construct = marks_tell_constructs begun (l.depth == 0) (drop l.at B) h;
  size = ap (λ k. row_size k (l.depth == 0) (drop l.at B)) (sym h.kind);
}

-- the construct of a text of a form
pub next_of_form : {l : OpenBlock} {B : Block} {form : TextForm} (infos : List Node) → IsText l B infos → text_form (first_text (drop l.at B)) (next_text (drop l.at B)) ≡ form
    → IsNextConstruct l B (text_by form (l.depth == 0) infos (drop l.at B)) (form_size form (drop l.at B))
unfolding text_size
next_of_form {l} {B} infos h e = record {
  filled = h.filled;
  construct = h.construct ∙ ap (λ form. text_by form (l.depth == 0) infos (drop l.at B)) e;
  size = h.size ∙ ap (λ form. form_size form (drop l.at B)) e;
}

-- it has at least one line, and ends within the block
pub next_some : {l : OpenBlock} {B : Block} {what : Construct} {lines : ℕ} → IsNextConstruct l B what lines → l.at < length B → l.at < l.at + lines
next_some {l} {B} h inside = omega (arith, h.size, (end_inside (l.depth == 0) B l.at inside).0)

pub next_within : {l : OpenBlock} {B : Block} {what : Construct} {lines : ℕ} → IsNextConstruct l B what lines → l.at < length B → l.at + lines ≤ length B
next_within {l} {B} h inside = omega (arith, h.size, (end_inside (l.depth == 0) B l.at inside).1)

-- the next construct with its lines
abbrev pub next_found : OpenBlock → Construct → ℕ → Found
next_found l what lines = found_as what (span_to l.at (l.at + lines))

-- what the block gives by its next construct
pub next_reads : {l : OpenBlock} {B : Block} {what : Construct} {lines : ℕ} (n : ℕ) → IsNextConstruct l B what lines
    → reads l B n ≡ before (done_of l) (rest_with (within_at l.depth) B (open_run_of l.run) (next_found l what lines)) n
next_reads {l} {B} {what} n h =
    let R : Construct → ℕ → _ = λ k size. before (done_of l) (rest_with (within_at l.depth) B (open_run_of l.run) (next_found l k size)) n in
    ap (λ (r : Numbered (List Item)). before (done_of l) r n) (rest_text (within_at l.depth) B l.at (open_run_of l.run) h.filled)
    ∙ ap (λ k. R k (construct_size (l.depth == 0) (drop l.at B))) h.construct
    ∙ ap (λ size. R what size) h.size

-- ---- the open run ends

-- what the open run of a block gives at its end
abbrev pub run_of : OpenBlock → Block → Numbered (List Item)
run_of l B = closed_run (suc deepest - l.depth) B (open_run_of l.run)

-- it has ended: mid is the block after its end, and m the number of the next message
pub record HasEnded (old mid : OpenBlock) (B : Block) (n m : ℕ) : Type 0 where
  pub closed : IsClosed (run_of old B n) old mid m no_run

pub has_ended : {old mid : OpenBlock} {m : ℕ} (B : Block) (n : ℕ) → IsClosed (run_of old B n) old mid m no_run → HasEnded old mid B n m
has_ended B n closed = record { closed = closed }

-- what comes after the end of the open run, once the run has ended
pub closed_reads : (old mid : OpenBlock) (B : Block) (n m : ℕ) (o : OpenRun) (K : List Item → Numbered (List Item)) (R : Numbered (List Item)) → IsClosed (run_of old B n) old mid m o
    → ((done : List Item) (k : ℕ) → K done k ≡ before done R k) → before (done_of old) (run_of old B >>= K) n ≡ before (done_of mid) R m
closed_reads old mid B n m o K R h f =
    ap (λ r. then_read (λ others. just (done_of old ++ others)) (then_read K r)) h.given
    ∙ same_before (done_of old) (K (map plain h.more)) (before (map plain h.more) R) m (f (map plain h.more) m)
    ∙ before_before (done_of old) (map plain h.more) R m
    ∙ ap (λ items. before items R m) (sym (done_closed h))

-- where the open run is nested too deeply, so is all
pub close_refused : (l : OpenBlock) (B : Block) (n line : ℕ) (K : List Item → Numbered (List Item)) → run_of l B n ≡ Err line → before (done_of l) (run_of l B >>= K) n ≡ Err line
close_refused l B n line K h = ap (λ r. then_read (λ others. just (done_of l ++ others)) (then_read K r)) h

-- ---- a construct that nothing joins

-- what comes with it, once the run before it has ended
abbrev pub alone_rest : ℕ → Block → Found → Numbered (List Item)
alone_rest depth B f = do
  items ← piece_of (within_at depth) B f
  before (items ++ map plain (ending_notes (alone_ending f.what) (drop f.span.stop B))) (rest (within_at depth) B f.span.stop no_run)

after_run : ℕ → Block → Found → List Item → Numbered (List Item)
after_run depth B f done = do
  items ← piece_of (within_at depth) B f
  before (done ++ (items ++ map plain (ending_notes (alone_ending f.what) (drop f.span.stop B)))) (rest (within_at depth) B f.span.stop no_run)

run_first : (depth : ℕ) (B : Block) (f : Found) (done : List Item) (k : ℕ) → after_run depth B f done k ≡ before done (alone_rest depth B f) k
unfolding after_run
run_first depth B f done k =
    let E : List Item = map plain (ending_notes (alone_ending f.what) (drop f.span.stop B)) in
    let R : Numbered (List Item) = rest (within_at depth) B f.span.stop no_run in
    sym (
    before_then done (piece_of (within_at depth) B f) (λ items. before (items ++ E) R) k
    ∙ same_after (piece_of (within_at depth) B f k) (λ items. before done (before (items ++ E) R)) (λ items. before (done ++ (items ++ E)) R) (λ items j. before_before done (items ++ E) R j))

run_then_alone : {l : OpenBlock} {B : Block} {what : Construct} {lines : ℕ} (n : ℕ) → IsNextConstruct l B what lines → IsAlone what
    → reads l B n ≡ before (done_of l) (run_of l B >>= after_run l.depth B (next_found l what lines)) n
unfolding after_run
run_then_alone {l} {B} {what} {lines} n h a =
    let f : Found = next_found l what lines in
    next_reads n h
    ∙ same_before (done_of l) (rest_with (within_at l.depth) B (open_run_of l.run) f) (run_of l B >>= after_run l.depth B f) n (alone_begins (within_at l.depth) B (open_run_of l.run) f n a)

-- what the block gives once the open run has ended
pub next_alone : {old mid : OpenBlock} {B : Block} {what : Construct} {lines n m : ℕ} → IsNextConstruct old B what lines → IsAlone what → HasEnded old mid B n m
    → reads old B n ≡ before (done_of mid) (alone_rest old.depth B (next_found old what lines)) m
next_alone {old} {mid} {B} {what} {lines} {n} {m} h a e =
    let f : Found = next_found old what lines in
    run_then_alone n h a ∙ closed_reads old mid B n m no_run (after_run old.depth B f) (alone_rest old.depth B f) e.closed (run_first old.depth B f)

-- where the open run is nested too deeply, so is all
pub next_refused : {l : OpenBlock} {B : Block} {what : Construct} {lines line : ℕ} (n : ℕ) → IsNextConstruct l B what lines → IsAlone what → run_of l B n ≡ Err line → reads l B n ≡ Err line
next_refused {l} {B} {what} {lines} {line} n h a refused = run_then_alone n h a ∙ close_refused l B n line (after_run l.depth B (next_found l what lines)) refused

-- once the construct gave its items, and the WARNING where no blank line follows it, the block goes on after it
pub next_items : {old mid : OpenBlock} {B : Block} {what : Construct} {lines n m k : ℕ} (new : OpenBlock) (items : List Item) → IsNextConstruct old B what lines → IsAlone what → HasEnded old mid B n m
    → piece_of (within_at old.depth) B (next_found old what lines) m ≡ Ok (items, k)
    → done_of new ≡ done_of mid ++ (items ++ map plain (ending_notes (alone_ending what) (drop (old.at + lines) B)))
    → new.depth ≡ mid.depth → new.at ≡ old.at + lines → new.run ≡ mid.run → reads new B k ≡ reads old B n
next_items {old} {mid} {B} {what} {lines} {n} {m} {k} new items h a e p done depth at run =
    let stop : ℕ = old.at + lines in
    let E : List Item = map plain (ending_notes (alone_ending what) (drop stop B)) in
    let R : Numbered (List Item) = rest (within_at old.depth) B stop no_run in
    at_number k (reads_is new B done (depth ∙ e.closed.depth) at (ap open_run_of run ∙ e.closed.run))
    ∙ sym (before_before (done_of mid) (items ++ E) R k)
    ∙ ap (λ r. then_read (λ others. just (done_of mid ++ others)) (then_read (λ some. before (some ++ E) R) r)) (sym p)
    ∙ sym (next_alone h a e)

-- ---- lines without a construct

-- the lines that pass as blank are blank
all_blank : (X : Block) (n : ℕ) → n < lines_while BlankTest X → is_blank (first_text (drop n X)) ≡ true
unfolding lines_while
all_blank [] n h = absurd (omega arith)
all_blank (l ∷ ls) n h = by (is_blank l.text) refl n h (all_blank ls)
  where
    by : (b : Bool) → is_blank l.text ≡ b → (n : ℕ) → n < cond b (suc (lines_while BlankTest ls)) 0 → ((m : ℕ) → m < lines_while BlankTest ls → is_blank (first_text (drop m ls)) ≡ true)
        → is_blank (first_text (drop n (l ∷ ls))) ≡ true
    by true e zero h more = e
    by true e (suc n) h more = more n (omega arith)
    by false e n h more = absurd (omega arith)

pub are_blank : (B : Block) (i : ℕ) → AreBlank B i (i + lines_while BlankTest (drop i B))
are_blank B i = λ k low high.
    let place : i + (k - i) ≡ k = omega arith in
    let same : drop (k - i) (drop i B) ≡ drop k B = drop-drop (k - i) i B ∙ ap (λ n. drop n B) place in
    ap (λ (X : Block). is_blank (first_text X)) (sym same) ∙ all_blank (drop i B) (k - i) (omega arith)

-- blank lines give nothing
pub blank_reads : {old new : OpenBlock} (B : Block) (n : ℕ) → IsMoved old new → old.at ≤ new.at → new.at ≡ old.at + lines_while BlankTest (drop old.at B) → reads new B n ≡ reads old B n
blank_reads {old} {new} B n m later e =
    let blank : AreBlank B old.at new.at = rw e (are_blank B old.at) in
    at_number n (reads_is new B (done_moved m) m.depth refl (ap open_run_of m.run))
    ∙ ap (λ (r : Numbered (List Item)). before (done_of old) r n) (sym (rest_blanks (within_at old.depth) B old.at new.at (open_run_of old.run) later blank))

-- after the last line only what the open run gives is to come
over_is : (l : OpenBlock) (B : Block) (n : ℕ) → length B ≤ l.at → reads l B n ≡ before (done_of l) (run_of l B) n
over_is l B n h = ap (λ (r : Numbered (List Item)). before (done_of l) r n) (rest_over (within_at l.depth) B l.at (open_run_of l.run) h)

-- once it has ended there, the block is read
pub over_reads : {old new : OpenBlock} {B : Block} {n m : ℕ} → HasEnded old new B n m → length B ≤ old.at → comes new B Done m ≡ reads old B n
over_reads {old} {new} {B} {n} {m} e h =
    sym (over_is old B n h ∙ ap (then_read (λ others. just (done_of old ++ others))) e.closed.given ∙ ap (λ items. just items m) (sym (done_closed e.closed)))

-- where it is nested too deeply, so is the block
pub over_refused : (l : OpenBlock) (B : Block) (n line : ℕ) → length B ≤ l.at → run_of l B n ≡ Err line → reads l B n ≡ Err line
over_refused l B n line h k = over_is l B n h ∙ ap (then_read (λ others. just (done_of l ++ others))) k
