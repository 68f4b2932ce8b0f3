-- Laws on what is still to come of a block: line by line, and for each kind of construct.
use Rattle.std.specs.Prelude.{◌≡◌, ℕ, ◌≤◌, ◌==◌, true, List, [], ◌∷◌, ◌++◌, drop, map, length, Some, None}
use Rattle.rst_text.specs.Block.{Block}
use Rattle.rst_markup_lines.specs.declared.marker.Marker.{Marker}
use Rattle.rst_markup_blocks.specs.Partition.{Span, AreBlank, IsTextAt}
use Rattle.rst_block_state.specs.Constructs.{Construct, ItemMark, item_of_list, bar_line, explicit_markup, Found}
use Rattle.rst_block_state.specs.Joins.{Joining, alone_ending}
use Rattle.rst_block_state.specs.LineRuns.{IndentedLine, indented_lines}
use Rattle.rst_block_state.specs.Lists.{item_by}
use Rattle.rst_block_state.specs.Markup.{markup_nodes}
use Rattle.rst_block_state.specs.Nodes.{piece_of, ending_notes, block_items}
use Rattle.rst_block_state.specs.Numbered.{◌>>=◌, before}
use Rattle.rst_block_state.specs.machine.Rest.{OpenRun, no_run, open_lines, open_markup, closed_run, joining_with, last_indent, joined_run, begun_run, with_items, rest, found_in, rest_with}
use Rattle.rst_block_state.specs.Titles.{plain}
use Rattle.rst_block_state.specs.Within.{Within}

-- ---- line by line

-- what is still to come of a block from its first line on is all that the block gives
abbrev pub RestIsAll : Type 0
RestIsAll = (c : Within) (B : Block) (number : ℕ) → rest c B 0 no_run number ≡ block_items c B number

-- after the last line only what the open run gives is to come
abbrev pub LastLineEndsRun : Type 0
LastLineEndsRun = (c : Within) (B : Block) (i : ℕ) (o : OpenRun) → length B ≤ i → rest c B i o ≡ closed_run c.levels B o

-- blank lines give nothing
abbrev pub BlankGivesNothing : Type 0
BlankGivesNothing = (c : Within) (B : Block) (i j : ℕ) (o : OpenRun) → i ≤ j → AreBlank B i j → rest c B i o ≡ rest c B j o

-- at a line that isn't blank a construct begins, and what follows it comes after it
abbrev pub ConstructThenRest : Type 0
ConstructThenRest = (c : Within) (B : Block) (i : ℕ) (o : OpenRun) → IsTextAt B i → rest c B i o ≡ rest_with c B o (found_in c.titles B i)

-- ---- kinds of constructs

-- some lines of a block with this construct
abbrev pub found_as : Construct → Span → Found
found_as what s = record { what = what; span = s }

-- an item that joins the open list
abbrev pub ItemJoins : Type 0
ItemJoins = (c : Within) (B : Block) (o : OpenRun) (mark : ItemMark) (s : Span) (j : Joining) (number : ℕ)
    → joining_with o (found_as (item_of_list mark) s) ≡ Some j
    → rest_with c B o (found_as (item_of_list mark) s) number
    ≡ (item_by c B s.start mark (drop s.start B) >>= λ ns.
    rest c B s.stop (with_items ns (joined_run j o B (found_as (item_of_list mark) s)))) number

-- an item that begins a list
abbrev pub ItemBegins : Type 0
ItemBegins = (c : Within) (B : Block) (o : OpenRun) (mark : ItemMark) (s : Span) (number : ℕ)
    → joining_with o (found_as (item_of_list mark) s) ≡ None
    → rest_with c B o (found_as (item_of_list mark) s) number
    ≡ (closed_run c.levels B o >>= λ done. item_by c B s.start mark (drop s.start B) >>= λ ns.
    before done (rest c B s.stop (with_items ns (begun_run (item_of_list mark) B s (drop s.start B))))) number

-- a line that joins the open line block
abbrev pub LineJoins : Type 0
LineJoins = (c : Within) (B : Block) (end : ℕ) (lines : List IndentedLine) (m : Marker) (s : Span) (number : ℕ) → (s.start == end) ≡ true
    → rest_with c B (open_lines end lines) (found_as (bar_line m) s) number
    ≡ rest c B s.stop (open_lines s.stop (lines ++ indented_lines B (last_indent 0 lines) (found_as (bar_line m) s ∷ []))) number

-- a line that begins a line block
abbrev pub LineBegins : Type 0
LineBegins = (c : Within) (B : Block) (o : OpenRun) (m : Marker) (s : Span) (number : ℕ) → joining_with o (found_as (bar_line m) s) ≡ None
    → rest_with c B o (found_as (bar_line m) s) number
    ≡ (closed_run c.levels B o >>= λ done.
    before done (rest c B s.stop (open_lines s.stop (indented_lines B 0 (found_as (bar_line m) s ∷ []))))) number

-- explicit markup after explicit markup
abbrev pub MarkupJoins : Type 0
MarkupJoins = (c : Within) (B : Block) (end : ℕ) (s : Span) (number : ℕ)
    → rest_with c B (open_markup end) (found_as explicit_markup s) number
    ≡ (markup_nodes c B s >>= λ ns. before (map plain ns) (rest c B s.stop (open_markup s.stop))) number

-- explicit markup after something else
abbrev pub MarkupBegins : Type 0
MarkupBegins = (c : Within) (B : Block) (o : OpenRun) (s : Span) (number : ℕ) → joining_with o (found_as explicit_markup s) ≡ None
    → rest_with c B o (found_as explicit_markup s) number
    ≡ (closed_run c.levels B o >>= λ done. markup_nodes c B s >>= λ ns.
    before (done ++ map plain ns) (rest c B s.stop (open_markup s.stop))) number

-- a construct that nothing joins
abbrev pub IsAlone : Construct → Type 0
IsAlone (item_of_list mark) = ⊥
IsAlone (bar_line m) = ⊥
IsAlone explicit_markup = ⊥
IsAlone _ = Unit {0}

-- such a construct, after any run
abbrev pub AloneBegins : Type 0
AloneBegins = (c : Within) (B : Block) (o : OpenRun) (f : Found) (number : ℕ) → IsAlone f.what
    → rest_with c B o f number
    ≡ (closed_run c.levels B o >>= λ done. piece_of c B f >>= λ items.
    before (done ++ (items ++ map plain (ending_notes (alone_ending f.what) (drop f.span.stop B)))) (rest c B f.span.stop no_run)) number
