-- What a block gives once explicit markup in it is read.
use Rattle.std.proofs.Common.{◌≡◌, ℕ, ◌+◌, ◌<◌, ◌≤◌, Bool, true, false, length, length-drop, List, [], ◌∷◌, ◌++◌, drop, map, Option, Some, None, Err, arith, refl, sym, ◌∙◌, ap}
use Rattle.std.specs.Prelude.{box_value, is_some, ◌&&◌, if◌then◌else◌}
use Rattle.std.proofs.lemmas.Bool.{eqb-true}
use Rattle.rst_text.specs.Block.{Block, first_text}
use Rattle.rst_tree.specs.declared.node.Node.{Node}
use Rattle.rst_markup_lines.specs.ExplicitMarks.{dots, underscores}
use Rattle.rst_markup_lines.specs.TextStart.{begins_with}
use Rattle.rst_markup_lines.specs.Marker.{marker_of}
use Rattle.rst_markup_lines.specs.declared.marker.Marker.{Marker}
use Rattle.rst_markup_blocks.specs.Explicit.{is_explicit_kind, explicit_of, explicit_size}
use Rattle.rst_markup_blocks.proofs.ExplicitLaws.{explicit_within}
use Rattle.rst_markup_blocks.specs.Kinds.{kind_at}
use Rattle.rst_markup_blocks.specs.Partition.{Span}
use Rattle.rst_markup_blocks.specs.declared.begun.Begun.TheVariants.{Explicit, Anonymous}
use Rattle.rst_markup_blocks.specs.declared.forms.Explicit.{Explicit as Markup}
use Rattle.rst_markup_blocks.specs.declared.kind.Kind.{Kind}
use Rattle.rst_markup_blocks.specs.declared.kind.Kind.TheVariants as kinds
use Rattle.rst_markup_blocks.specs.declared.part.Part.{Part}
use Rattle.rst_markup_blocks.proofs.ExplicitLemmas.{indented_some, size_other}
use Rattle.rst_markup_blocks.proofs.RowLemmas.{row_at}
use Rattle.rst_markup_directives.specs.declared.found.Content.{Content}
use Rattle.rst_block_state.specs.Constructs.{explicit_markup}
use Rattle.rst_block_state.specs.Directives.{content_nodes}
use Rattle.rst_block_state.specs.Joins.{joining_after}
use Rattle.rst_block_state.specs.Markup.{markup_by, markup_nodes}
use Rattle.rst_block_markup.specs.MarkupSteps.{is_markup, markup_reads, reads_with, made_of_content}
use Rattle.rst_block_state.specs.machine.Meanings.{joining_in, open_run_of, within_at, done_of, reads, reads_from, resumed, comes}
use Rattle.rst_block_state.specs.Numbered.{Numbered, then_read, ◌>>=◌, just, before}
use Rattle.rst_block_state.specs.machine.OpenBlocks.{IsMoved, HasRun}
use Rattle.rst_block_state.specs.machine.Rest.{OpenRun, open_markup, end_of_run, joining_with, rest, rest_with}
use Rattle.rst_block_state.specs.machine.RestLaws.{found_as}
use Rattle.rst_block_state.specs.Texts.{lines_in}
use Rattle.rst_block_state.specs.Titles.{Item, plain}
use Rattle.rst_block_state.specs.declared.open_block.OpenBlock.{OpenBlock}
use Rattle.rst_block_state.specs.declared.waits.Waits.{Waits}
use Rattle.rst_block_state.specs.declared.run.ListKind.{ListKind}
use Rattle.rst_block_state.specs.declared.run.ListKind.TheVariants.{Bullet}
use Rattle.rst_block_state.specs.declared.run.Run.{Run}
use Rattle.rst_block_state.specs.declared.run.Run.TheVariants.{None as NoRun, List as ListRun, Lines, Explicit as ExplicitRun}
use Rattle.rst_block_state.specs.declared.step.Step.TheVariants.{Open}
use Rattle.rst_block_state.proofs.Changes.{closed_then, done_same, reads_from_is, moved_reads_from}
use Rattle.rst_block_state.proofs.NextConstructs.{next_of, span_to, next_reads, run_of, HasEnded, closed_reads, close_refused}
use Rattle.rst_block_state.proofs.NumberedLemmas.{same_after, after_after, before_before, before_then, same_before, at_number}
use Rattle.rst_block_state.proofs.RestLemmas.{markup_joins, markup_begins}

-- ---- a block that waits

-- a block that waits for the nodes of one part gives what is made of them
pub part_comes : {old new : OpenBlock} {at : ℕ} (B : Block) (w : Waits) (body : Part) (make : List Node → List Node) (n : ℕ) → IsMoved old new → new.at ≡ at
    → ((ns : List Node) → resumed new B w ns ≡ reads_from new B (make ns) new.at)
    → comes new B (Open w body None) n ≡ reads_with old B ((within_at old.depth).inner (lines_in B body) >>= λ ns. just (make ns)) at n
part_comes {old} {new} {at} B w body make n m e waits =
    let one = (within_at old.depth).inner (lines_in B body) in
    ap (λ k. then_read (λ ns. resumed new B w ns) ((within_at k).inner (lines_in B body) n)) m.depth
    ∙ same_after (one n) (λ ns. resumed new B w ns) (λ ns. reads_from old B (make ns) at)
    (λ ns k. at_number k (waits ns ∙ ap (reads_from new B (make ns)) e ∙ moved_reads_from B (make ns) at m))
    ∙ sym (after_after (one n) (λ ns. just (make ns)) (λ ns. reads_from old B ns at))

-- the same of the two parts of a directive's content
pub content_comes : {old new : OpenBlock} {at : ℕ} (B : Block) (w : Waits) (content : Content) (make : List Node → List Node) (n : ℕ) → IsMoved old new → new.at ≡ at
    → ((ns : List Node) → resumed new B w ns ≡ reads_from new B (make ns) new.at)
    → comes new B (Open w content.first (Some content.second)) n ≡ reads_with old B (made_of_content (within_at old.depth) B content make) at n
content_comes {old} {new} {at} B w content make n m e waits =
    let c = within_at old.depth in
    let one = c.inner (lines_in B content.first) in
    let two = c.inner (lines_in B content.second) in
    ap (λ k. then_read (λ some. (within_at k).inner (lines_in B content.second) >>= λ more. resumed new B w (some ++ more)) ((within_at k).inner (lines_in B content.first) n)) m.depth
    ∙ same_after (one n)
    (λ some. two >>= λ more. resumed new B w (some ++ more))
    (λ some. (two >>= λ more. just (some ++ more)) >>= λ ns. reads_from old B (make ns) at)
    (λ some k.
    same_after (two k) (λ more. resumed new B w (some ++ more)) (λ more. reads_from old B (make (some ++ more)) at)
    (λ more j. at_number j (waits (some ++ more) ∙ ap (reads_from new B (make (some ++ more))) e ∙ moved_reads_from B (make (some ++ more)) at m))
    ∙ sym (after_after (two k) (λ more. just (some ++ more)) (λ ns. reads_from old B (make ns) at)))
    ∙ sym (after_after (one n) (λ some. two >>= λ more. just (some ++ more)) (λ ns. reads_from old B (make ns) at))
    ∙ sym (after_after (content_nodes c B content n) (λ ns. just (make ns)) (λ ns. reads_from old B ns at))

-- ---- the run of explicit markup

joins_no_list : (k : ListKind) (s : Span) → joining_after (joining_in k) explicit_markup s ≡ None
joins_no_list (Bullet c) s = refl
joins_no_list _ s = refl

-- explicit markup joins no other run
new_run : (run : Run) (s : Span) → is_markup (open_run_of run) ≡ false → joining_with (open_run_of run) (found_as explicit_markup s) ≡ None
new_run NoRun s h = refl
new_run (ListRun l) s h = joins_no_list (box_value l).kind s
new_run (Lines lines end) s h = refl
new_run (ExplicitRun end) s h = cc

is_open_markup : (o : OpenRun) → is_markup o ≡ true → o ≡ open_markup (end_of_run o)
is_open_markup (open_markup end) h = refl
is_open_markup _ h = cc

-- what is still to come after explicit markup
markup_rest : ℕ → Block → ℕ → Numbered (List Item)
markup_rest depth B end = rest (within_at depth) B end (open_markup end)

-- once explicit markup is the open run, the block gives its nodes and what comes after it
run_reads : (new : OpenBlock) (B : Block) (s : Span) (depth end n : ℕ) → new.depth ≡ depth → open_run_of new.run ≡ open_markup end
    → before (done_of new) (markup_nodes (within_at depth) B s >>= λ ns. before (map plain ns) (markup_rest depth B end)) n
    ≡ reads_with new B (markup_nodes (within_at new.depth) B s) end n
unfolding markup_rest
run_reads new B s depth end n e r =
    let M : Numbered (List Node) = markup_nodes (within_at depth) B s in
    let R : Numbered (List Item) = rest (within_at depth) B end (open_markup end) in
    before_then (done_of new) M (λ ns. before (map plain ns) R) n
    ∙ same_after (M n) (λ ns. before (done_of new) (before (map plain ns) R)) (λ ns. reads_from new B ns end)
    (λ ns k. before_before (done_of new) (map plain ns) R k ∙ at_number k (sym (reads_from_is new B ns end refl e r)))
    ∙ ap (λ d. reads_with new B (markup_nodes (within_at d) B s) end n) (sym e)

-- explicit markup after explicit markup
pub joined_markup : {old new : OpenBlock} {end : ℕ} (B : Block) (n : ℕ) → is_markup (open_run_of old.run) ≡ true → HasRun old new (open_markup end)
    → reads_with new B (markup_nodes (within_at new.depth) B (span_to old.at end)) end n ≡ markup_reads old B end n
unfolding markup_rest
joined_markup {old} {new} {end} B n h m =
    let c = within_at old.depth in
    let s : Span = span_to old.at end in
    let R : Numbered (List Item) = rest c B end (open_markup end) in
    sym (
    ap (λ o. before (done_of old) (rest_with c B o (found_as explicit_markup s)) n) (is_open_markup (open_run_of old.run) h)
    ∙ same_before (done_of old) (rest_with c B (open_markup (end_of_run (open_run_of old.run))) (found_as explicit_markup s)) (markup_nodes c B s >>= λ ns. before (map plain ns) R) n
    (markup_joins c B (end_of_run (open_run_of old.run)) s n)
    ∙ ap (λ items. before items (markup_nodes c B s >>= λ ns. before (map plain ns) R) n) (sym (done_same old new m.nodes m.headings))
    ∙ run_reads new B s old.depth end n m.depth m.run)

-- what comes with explicit markup once the run before it has ended
markup_after : ℕ → Block → Span → ℕ → List Item → Numbered (List Item)
markup_after depth B s end done = do
  ns ← markup_nodes (within_at depth) B s
  before (done ++ map plain ns) (rest (within_at depth) B end (open_markup end))

run_then_markup : (l : OpenBlock) (B : Block) (end n : ℕ) → is_markup (open_run_of l.run) ≡ false
    → markup_reads l B end n ≡ before (done_of l) (run_of l B >>= markup_after l.depth B (span_to l.at end) end) n
unfolding markup_after
run_then_markup l B end n h =
    let c = within_at l.depth in
    let s : Span = span_to l.at end in
    same_before (done_of l) (rest_with c B (open_run_of l.run) (found_as explicit_markup s)) (run_of l B >>= markup_after l.depth B s end) n (markup_begins c B (open_run_of l.run) s n (new_run l.run s h))

-- explicit markup after something else
pub begun_markup : {old mid new : OpenBlock} {B : Block} {end n m : ℕ} → is_markup (open_run_of old.run) ≡ false → HasEnded old mid B n m → HasRun mid new (open_markup end)
    → reads_with new B (markup_nodes (within_at new.depth) B (span_to old.at end)) end m ≡ markup_reads old B end n
unfolding markup_rest markup_after
begun_markup {old} {mid} {new} {B} {end} {n} {m} h e r =
    let c = within_at old.depth in
    let s : Span = span_to old.at end in
    let M : Numbered (List Node) = markup_nodes c B s in
    let R : Numbered (List Item) = rest c B end (open_markup end) in
    let all = closed_then e.closed r in
    sym (
    run_then_markup old B end n h
    ∙ closed_reads old new B n m (open_markup end) (markup_after old.depth B s end) (M >>= λ ns. before (map plain ns) R) all
    (λ done k. sym (
    before_then done M (λ ns. before (map plain ns) R) k
    ∙ same_after (M k) (λ ns. before done (before (map plain ns) R)) (λ ns. before (done ++ map plain ns) R) (λ ns j. before_before done (map plain ns) R j)))
    ∙ run_reads new B s old.depth end m all.depth all.run)

-- where the open run is nested too deeply, so is all
pub markup_refused : (l : OpenBlock) (B : Block) (end n line : ℕ) → is_markup (open_run_of l.run) ≡ false → run_of l B n ≡ Err line → markup_reads l B end n ≡ Err line
markup_refused l B end n line h e = run_then_markup l B end n h ∙ close_refused l B n line (markup_after l.depth B (span_to l.at end) end) e

-- a block whose open run becomes explicit markup up to a place
pub has_markup : (l : OpenBlock) (end : ℕ) (untitled : 0 < l.depth → l.headings.items ≡ []) → HasRun l (record l { run = ExplicitRun end; untitled = untitled }) (open_markup end)
has_markup l end untitled = record { depth = refl; at = refl; nodes = refl; headings = refl; run = refl }

-- ---- explicit markup at the next line

-- a text that begins with one character doesn't begin with another
begins_otherwise : (t : List ℕ) → begins_with 95 t ≡ true → begins_with 46 t ≡ false
begins_otherwise [] h = cc
begins_otherwise (c ∷ cs) h = let e : c ≡ 95 = eqb-true c 95 h in rw e refl

-- an anonymous target doesn't begin with dots
pub no_dots : (X : Block) → kind_at X ≡ kinds.Anonymous → dots (first_text X) ≡ None
unfolding dots underscores
no_dots X h = by (begins_with 95 (first_text X)) refl (row_at kinds.Anonymous X (sym h))
  where
    by : (b : Bool) → begins_with 95 (first_text X) ≡ b → is_some (if b && begins_with 95 (drop 1 (first_text X)) then marker_of 2 (first_text X) else None) ≡ true → dots (first_text X) ≡ None
    by true e h = rw (begins_otherwise (first_text X) e) refl
    by false e h = cc

-- explicit markup has a line or more
pub explicit_some : (B : Block) (i : ℕ) → i < length B → 1 ≤ explicit_size (drop i B)
explicit_some B i h = by (dots (first_text (drop i B))) refl
  where
    by : (o : Option Marker) → dots (first_text (drop i B)) ≡ o → 1 ≤ explicit_size (drop i B)
    by None e = omega (arith, size_other (drop i B) e, indented_some (drop i B))
    by (Some m) e = (explicit_within false (drop i B) (omega (arith, length-drop i B)) (rw e refl)).0

-- what the block gives where explicit markup begins at its next line
pub explicit_reads : (l : OpenBlock) (B : Block) (n end : ℕ) → is_explicit_kind (kind_at (drop l.at B)) ≡ true → end ≡ l.at + explicit_size (drop l.at B)
    → reads l B n ≡ markup_reads l B end n
explicit_reads l B n end h e = by (kind_at (drop l.at B)) refl h
  where
    by : (k : Kind) → kind_at (drop l.at B) ≡ k → is_explicit_kind k ≡ true → reads l B n ≡ markup_reads l B end n
    by kinds.Explicit k h = next_reads n (next_of Explicit l B (record { kind = sym k; mark = tt }) tt) ∙ ap (λ j. markup_reads l B j n) (sym e)
    by kinds.Anonymous k h =
        next_reads n (next_of Anonymous l B (record { kind = sym k; mark = tt }) tt)
        ∙ ap (λ size. markup_reads l B (l.at + size) n) (sym (size_other (drop l.at B) (no_dots (drop l.at B) k)))
        ∙ ap (λ j. markup_reads l B j n) (sym e)
    by _ k h = cc

-- the explicit markup that is found is what the block gives next
pub found_reads : (old mid : OpenBlock) (B : Block) (found : Markup) (end n m : ℕ) → is_explicit_kind (kind_at (drop old.at B)) ≡ true → end ≡ old.at + explicit_size (drop old.at B)
    → found ≡ explicit_of old.at (drop old.at B) → mid.at ≡ old.at
    → reads_with mid B (markup_nodes (within_at mid.depth) B (span_to old.at end)) end m ≡ markup_reads old B end n
    → reads_with mid B (markup_by found (within_at mid.depth) B (span_to mid.at end) (drop mid.at B)) end m ≡ reads old B n
found_reads old mid B found end n m k e f a h =
    let c = within_at mid.depth in
    ap (λ i. reads_with mid B (markup_by found c B (span_to i end) (drop i B)) end m) a
    ∙ ap (λ x. reads_with mid B (markup_by x c B (span_to old.at end) (drop old.at B)) end m) f
    ∙ h
    ∙ sym (explicit_reads old B n end k e)
