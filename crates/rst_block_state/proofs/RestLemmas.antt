-- What is still to come of a block, line by line and construct by construct.
use Rattle.std.proofs.Common.{◌≡◌, ℕ, suc, ◌+◌, ◌-◌, ◌≤◌, Bool, true, List, [], ◌∷◌, ◌++◌, length, drop, map, Option, Some, None, arith, refl, sym, ◌∙◌, ap, append-nil}
use Rattle.std.specs.Prelude.{◌==◌, if◌then◌else◌}
use Rattle.std.proofs.lemmas.List.{drop-drop}
use Rattle.rst_text.specs.Block.{Block}
use Rattle.rst_tree.specs.declared.node.Node.{Node}
use Rattle.rst_markup_blocks.specs.Partition.{Span, construct_end, AreBlank, IsBlankAt, IsTextAt}
use Rattle.rst_markup_blocks.proofs.PartitionLemmas.{past, construct_at, over_blanks, none_past}
pub use Rattle.rst_markup_blocks.proofs.PartitionLemmas.{span_to}
use Rattle.rst_markup_lines.specs.declared.marker.Marker.{Marker}
use Rattle.rst_block_state.specs.Constructs.{Construct, ItemMark, item_of_list, bar_line, explicit_markup, Found, found_at}
use Rattle.rst_block_state.specs.Joins.{Joining, bullets, lines_from, joining_after, alone_ending}
use Rattle.rst_block_state.specs.LineRuns.{IndentedLine, indented_lines}
use Rattle.rst_block_state.specs.Lists.{item_by}
use Rattle.rst_block_state.specs.Markup.{markup_nodes}
use Rattle.rst_block_state.specs.Nodes.{nodes_among, piece_of, plainly, ending_notes}
use Rattle.rst_block_state.specs.Numbered.{Numbered, ◌>>=◌, just, before}
use Rattle.rst_block_state.specs.machine.Rest.{OpenRun, no_run, open_lines, open_markup, joining_of_run, closed_run, joining_with, last_indent, joined_run, begun_run, run_after, with_items, closed_before, given_at_once, walk, found_from, rest, found_in, rest_with}
use Rattle.rst_block_state.specs.machine.RestLaws.{found_as, IsAlone}
use Rattle.rst_block_state.specs.Titles.{Item, plain}
use Rattle.rst_block_state.specs.Within.{Within}
use Rattle.rst_block_state.proofs.NumberedLemmas.{same_after, after_after, before_nil}

-- ---- the constructs from a line on

-- the lines after the first ones of those from a place on
pub lines_after : (B : Block) (i n j : ℕ) → j ≡ i + n → drop n (drop i B) ≡ drop j B
lines_after B i n j e = drop-drop n i B ∙ ap (λ k. drop k B) (sym e)

pub found_over : (titles : Bool) (B : Block) (i : ℕ) → length B ≤ i → found_from titles B i ≡ []
found_over titles B i h = ap (map (found_at titles B)) (none_past titles i B h)

pub found_blank : (titles : Bool) (B : Block) (i : ℕ) → IsBlankAt B i → found_from titles B i ≡ found_from titles B (suc i)
found_blank titles B i h = ap (map (found_at titles B)) (past titles i B h)

pub found_blanks : (titles : Bool) (B : Block) (i j : ℕ) → i ≤ j → AreBlank B i j → found_from titles B i ≡ found_from titles B j
found_blanks titles B i j le h =
    let same : i + (j - i) ≡ j = omega arith in
    rw same at (ap (map (found_at titles B)) (over_blanks titles B (j - i) i (λ k low high. h k low (omega arith))))

pub found_text : (titles : Bool) (B : Block) (i : ℕ) → IsTextAt B i → found_from titles B i ≡ found_in titles B i ∷ found_from titles B (construct_end titles B i)
found_text titles B i h = ap (map (found_at titles B)) (construct_at titles i B h)

-- ---- what is still to come

pub rest_over : (c : Within) (B : Block) (i : ℕ) (o : OpenRun) → length B ≤ i → rest c B i o ≡ closed_run c.levels B o
unfolding walk
rest_over c B i o h = ap (walk c B o) (found_over c.titles B i h)

pub rest_blanks : (c : Within) (B : Block) (i j : ℕ) (o : OpenRun) → i ≤ j → AreBlank B i j → rest c B i o ≡ rest c B j o
rest_blanks c B i j o le h = ap (walk c B o) (found_blanks c.titles B i j le h)

pub rest_text : (c : Within) (B : Block) (i : ℕ) (o : OpenRun) → IsTextAt B i → rest c B i o ≡ rest_with c B o (found_in c.titles B i)
unfolding walk
rest_text c B i o h = ap (walk c B o) (found_text c.titles B i h)

-- ---- the constructs by their kinds

pub nodes_among_plain : (ns : List Node) → nodes_among (map plain ns) ≡ ns
nodes_among_plain [] = refl
nodes_among_plain (n ∷ ns) = ap (λ (ms : List Node). n ∷ ms) (nodes_among_plain ns)

-- what is still to come where it is known what the construct makes of the open run
rest_if : Option Joining → Within → Block → OpenRun → Found → Numbered (List Item)
rest_if next c B o f = do
  done ← closed_before next c.levels B o
  items ← piece_of c B f
  before (done ++ given_at_once B f items) (rest c B f.span.stop (with_items (nodes_among items) (run_after next o B f)))

rest_as : (c : Within) (B : Block) (o : OpenRun) (f : Found) (next : Option Joining) (n : ℕ) → joining_with o f ≡ next → rest_with c B o f n ≡ rest_if next c B o f n
unfolding rest_if
rest_as c B o f next n h = ap (λ next. rest_if next c B o f n) h

-- an item of a list
pub item_joins : (c : Within) (B : Block) (o : OpenRun) (mark : ItemMark) (s : Span) (j : Joining) (n : ℕ) → joining_with o (found_as (item_of_list mark) s) ≡ Some j
    → rest_with c B o (found_as (item_of_list mark) s) n
    ≡ (item_by c B s.start mark (drop s.start B) >>= λ ns. rest c B s.stop (with_items ns (joined_run j o B (found_as (item_of_list mark) s)))) n
unfolding rest_if
item_joins c B o mark s j n h =
    let R : List Node → Numbered (List Item) = λ ns. rest c B s.stop (with_items ns (joined_run j o B (found_as (item_of_list mark) s))) in
    rest_as c B o (found_as (item_of_list mark) s) (Some j) n h
    ∙ after_after (item_by c B s.start mark (drop s.start B) n) (λ ns. just (map plain ns)) (λ items. before [] (R (nodes_among items)))
    ∙ same_after (item_by c B s.start mark (drop s.start B) n) (λ ns. before [] (R (nodes_among (map plain ns)))) R
    (λ ns k. before_nil (R (nodes_among (map plain ns))) k ∙ ap (λ (ms : List Node). R ms k) (nodes_among_plain ns))

pub item_begins : (c : Within) (B : Block) (o : OpenRun) (mark : ItemMark) (s : Span) (n : ℕ) → joining_with o (found_as (item_of_list mark) s) ≡ None
    → rest_with c B o (found_as (item_of_list mark) s) n
    ≡ (closed_run c.levels B o >>= λ done. item_by c B s.start mark (drop s.start B) >>= λ ns. before done (rest c B s.stop (with_items ns (begun_run (item_of_list mark) B s (drop s.start B))))) n
unfolding rest_if
item_begins c B o mark s n h =
    let R : List Node → Numbered (List Item) = λ ns. rest c B s.stop (with_items ns (begun_run (item_of_list mark) B s (drop s.start B))) in
    rest_as c B o (found_as (item_of_list mark) s) None n h
    ∙ same_after (closed_run c.levels B o n)
    (λ done. plainly (item_by c B s.start mark (drop s.start B)) >>= λ items. before (done ++ []) (R (nodes_among items)))
    (λ done. item_by c B s.start mark (drop s.start B) >>= λ ns. before done (R ns))
    (λ done k.
    after_after (item_by c B s.start mark (drop s.start B) k) (λ ns. just (map plain ns)) (λ items. before (done ++ []) (R (nodes_among items)))
    ∙ same_after (item_by c B s.start mark (drop s.start B) k) (λ ns. before (done ++ []) (R (nodes_among (map plain ns)))) (λ ns. before done (R ns))
    (λ ns m. ap (λ some. before some (R (nodes_among (map plain ns))) m) (append-nil done) ∙ ap (λ (ms : List Node). before done (R ms) m) (nodes_among_plain ns)))

-- a line of a line block
pub line_joins : (c : Within) (B : Block) (end : ℕ) (lines : List IndentedLine) (m : Marker) (s : Span) (n : ℕ) → (s.start == end) ≡ true
    → rest_with c B (open_lines end lines) (found_as (bar_line m) s) n ≡ rest c B s.stop (open_lines s.stop (lines ++ indented_lines B (last_indent 0 lines) (found_as (bar_line m) s ∷ []))) n
unfolding rest_if
line_joins c B end lines m s n h =
    rest_as c B (open_lines end lines) (found_as (bar_line m) s) (Some (lines_from s.stop)) n (ap (λ (b : Bool). if b then Some (lines_from s.stop) else None) h)
    ∙ before_nil (rest c B s.stop (open_lines s.stop (lines ++ indented_lines B (last_indent 0 lines) (found_as (bar_line m) s ∷ [])))) n

pub line_begins : (c : Within) (B : Block) (o : OpenRun) (m : Marker) (s : Span) (n : ℕ) → joining_with o (found_as (bar_line m) s) ≡ None
    → rest_with c B o (found_as (bar_line m) s) n ≡ (closed_run c.levels B o >>= λ done. before done (rest c B s.stop (open_lines s.stop (indented_lines B 0 (found_as (bar_line m) s ∷ []))))) n
unfolding rest_if
line_begins c B o m s n h =
    let R : Numbered (List Item) = rest c B s.stop (open_lines s.stop (indented_lines B 0 (found_as (bar_line m) s ∷ []))) in
    rest_as c B o (found_as (bar_line m) s) None n h
    ∙ same_after (closed_run c.levels B o n) (λ done. before (done ++ []) R) (λ done. before done R) (λ done k. ap (λ some. before some R k) (append-nil done))

-- explicit markup
pub markup_joins : (c : Within) (B : Block) (end : ℕ) (s : Span) (n : ℕ)
    → rest_with c B (open_markup end) (found_as explicit_markup s) n ≡ (markup_nodes c B s >>= λ ns. before (map plain ns) (rest c B s.stop (open_markup s.stop))) n
markup_joins c B end s n =
    let R : Numbered (List Item) = rest c B s.stop (open_markup s.stop) in
    after_after (markup_nodes c B s n) (λ ns. just (map plain ns)) (λ items. before (items ++ []) R)
    ∙ same_after (markup_nodes c B s n) (λ ns. before (map plain ns ++ []) R) (λ ns. before (map plain ns) R) (λ ns k. ap (λ some. before some R k) (append-nil (map plain ns)))

pub markup_begins : (c : Within) (B : Block) (o : OpenRun) (s : Span) (n : ℕ) → joining_with o (found_as explicit_markup s) ≡ None
    → rest_with c B o (found_as explicit_markup s) n
    ≡ (closed_run c.levels B o >>= λ done. markup_nodes c B s >>= λ ns. before (done ++ map plain ns) (rest c B s.stop (open_markup s.stop))) n
unfolding rest_if
markup_begins c B o s n h =
    let R : Numbered (List Item) = rest c B s.stop (open_markup s.stop) in
    rest_as c B o (found_as explicit_markup s) None n h
    ∙ same_after (closed_run c.levels B o n)
    (λ done. plainly (markup_nodes c B s) >>= λ items. before (done ++ (items ++ [])) R)
    (λ done. markup_nodes c B s >>= λ ns. before (done ++ map plain ns) R)
    (λ done k.
    after_after (markup_nodes c B s k) (λ ns. just (map plain ns)) (λ items. before (done ++ (items ++ [])) R)
    ∙ same_after (markup_nodes c B s k) (λ ns. before (done ++ (map plain ns ++ [])) R) (λ ns. before (done ++ map plain ns) R)
    (λ ns m. ap (λ some. before (done ++ some) R m) (append-nil (map plain ns))))

-- a construct that nothing joins
alone_joins : (j : Joining) (what : Construct) (s : Span) → IsAlone what → joining_after j what s ≡ None
alone_joins j (item_of_list mark) s h = absurd h
alone_joins j (bar_line m) s h = absurd h
alone_joins j explicit_markup s h = absurd h
alone_joins (bullets c) what s h = refl
alone_joins _ what s h = refl

-- what is still to come from a construct on that is alone
rest_alone : Within → Block → OpenRun → Found → Numbered (List Item)
rest_alone c B o f = do
  done ← closed_run c.levels B o
  items ← piece_of c B f
  before (done ++ (items ++ map plain (ending_notes (alone_ending f.what) (drop f.span.stop B)))) (rest c B f.span.stop no_run)

alone_is : (c : Within) (B : Block) (o : OpenRun) (what : Construct) (s : Span) → IsAlone what
    → rest_if None c B o (record { what = what; span = s }) ≡ rest_alone c B o (record { what = what; span = s })
unfolding rest_if rest_alone
alone_is c B o (item_of_list mark) s h = absurd h
alone_is c B o (bar_line m) s h = absurd h
alone_is c B o explicit_markup s h = absurd h
alone_is c B o what s h = refl

pub alone_begins : (c : Within) (B : Block) (o : OpenRun) (f : Found) (n : ℕ) → IsAlone f.what
    → rest_with c B o f n
    ≡ (closed_run c.levels B o >>= λ done. piece_of c B f >>= λ items. before (done ++ (items ++ map plain (ending_notes (alone_ending f.what) (drop f.span.stop B)))) (rest c B f.span.stop no_run)) n
unfolding rest_alone
alone_begins c B o f n h = rest_as c B o f None n (alone_joins (joining_of_run o) f.what f.span h) ∙ ap (λ (read : Numbered (List Item)). read n) (alone_is c B o f.what f.span h)
