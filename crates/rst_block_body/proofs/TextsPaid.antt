-- Constructs that join nothing, open no block and end silently: what the block gives by one, and what is paid for it. Their reach goes no further than
-- through the first line after them that isn't blank.
use Rattle.std.proofs.Common.{◌≡◌, ℕ, ◌+◌, ◌-◌, ◌*◌, ◌<◌, ◌≤◌, Bool, List, [], ◌∷◌, ◌++◌, map, None, Result, Ok, append-nil, length, length-drop, length-take, drop, slice_range, arith, refl, sym, ap, ◌∙◌, subst}
use Rattle.std.specs.Prelude.{◌==◌}
use Rattle.rst_text.specs.Block.{Block}
use Rattle.rst_text.specs.Looked.{Looked, capped}
use Rattle.rst_text.specs.Reach.{reach}
use Rattle.rst_tree.specs.declared.node.Node.{Node}
use Rattle.rst_markup_blocks.specs.Ends.{row_size, row_reach}
use Rattle.rst_markup_blocks.specs.Kinds.{kind_at}
use Rattle.rst_markup_blocks.specs.Partition.{construct_size}
use Rattle.rst_markup_blocks.specs.Sizes.{paragraph_size}
use Rattle.rst_markup_blocks.specs.declared.kind.Kind.{Kind}
use Rattle.rst_markup_blocks.specs.declared.kind.Kind.TheVariants.{Grid, Simple}
use Rattle.rst_block_nodes.specs.Sections.{title_of}
use Rattle.rst_block_nodes.specs.declared.heading.Heading.{Heading}
use Rattle.rst_block_state.specs.Constructs.{Construct, grid, simple, doctest_block, transition, overlined_title, misplaced_lines, underlined_title, paragraph, construct_by}
use Rattle.rst_block_state.specs.Inside.{opened_by, cells_by}
use Rattle.rst_block_state.specs.Joins.{alone_ending}
use Rattle.rst_block_state.specs.Nodes.{piece_of, ending_notes}
use Rattle.rst_block_state.specs.looks.Ledger.{unread_at, totals, run_looks}
use Rattle.rst_block_state.specs.looks.Reaches.{reach_at}
use Rattle.rst_block_state.specs.machine.Meanings.{done_of, within_at}
use Rattle.rst_block_state.specs.machine.NextLine.{IsNextConstruct}
use Rattle.rst_block_state.specs.machine.OpenBlocks.{IsMoved, HasMoreAt, HasTitle, IsClosed, ReadsItems}
use Rattle.rst_block_state.specs.machine.Rest.{no_run}
use Rattle.rst_block_state.specs.machine.RestLaws.{IsAlone}
use Rattle.rst_block_state.specs.Titles.{Item, plain, titled}
use Rattle.rst_block_state.specs.Within.{Within}
use Rattle.rst_block_state.specs.declared.open_block.OpenBlock.{OpenBlock}
use Rattle.rst_block_state.specs.declared.step.Step.TheVariants.{Next}
use Rattle.rst_block_state.specs.declared.texts.Pass.{Pass}
use Rattle.rst_block_state.proofs.Changes.{done_moved, done_more, done_title}
use Rattle.rst_block_state.proofs.NextConstructs.{next_some, next_found, next_items, run_of, has_ended}
use Rattle.rst_block_state.proofs.PaidSteps.{ended_looks, paid_next}
use Rattle.rst_block_body.specs.ReadSteps.{IsReadStep}

-- ---- constructs that join nothing, open no block and end silently

abbrev pub IsFlat : Construct → Type 0
IsFlat doctest_block = Unit {0}
IsFlat transition = Unit {0}
IsFlat (overlined_title mark short) = Unit {0}
IsFlat (misplaced_lines level text) = Unit {0}
IsFlat (underlined_title infos short) = Unit {0}
IsFlat (paragraph infos) = Unit {0}
IsFlat _ = ⊥

abbrev pub IsNoTable : Construct → Type 0
IsNoTable grid = ⊥
IsNoTable simple = ⊥
IsNoTable _ = Unit {0}

record Flat (what : Construct) (c : Within) (B : Block) (i : ℕ) (X : Block) : Type 0 where
  alone : IsAlone what
  no_table : IsNoTable what
  silent : alone_ending what ≡ None
  opens : opened_by what c B i X ≡ []
  cells : cells_by what B i ≡ []

flat_is : (what : Construct) (c : Within) (B : Block) (i : ℕ) (X : Block) → IsFlat what → Flat what c B i X
flat_is doctest_block c B i X h = record { alone = tt; no_table = tt; silent = refl; opens = refl; cells = refl }
flat_is transition c B i X h = record { alone = tt; no_table = tt; silent = refl; opens = refl; cells = refl }
flat_is (overlined_title mark short) c B i X h = record { alone = tt; no_table = tt; silent = refl; opens = refl; cells = refl }
flat_is (misplaced_lines level text) c B i X h = record { alone = tt; no_table = tt; silent = refl; opens = refl; cells = refl }
flat_is (underlined_title infos short) c B i X h = record { alone = tt; no_table = tt; silent = refl; opens = refl; cells = refl }
flat_is (paragraph infos) c B i X h = record { alone = tt; no_table = tt; silent = refl; opens = refl; cells = refl }
flat_is _ c B i X h = absurd h

-- ---- reaches

own_row : (k : Kind) (titles : Bool) (X : Block) → IsNoTable (construct_by k titles X) → row_reach k titles X ≡ reach (row_size k titles X) X
own_row Grid titles X h = absurd h
own_row Simple titles X h = absurd h
own_row _ titles X h = refl

-- the reach of a construct that is no table goes through the first line after it that isn't blank
pub reach_of_next : {l : OpenBlock} {B : Block} {what : Construct} {lines : ℕ} → IsNextConstruct l B what lines → IsNoTable what → reach_at (l.depth == 0) (drop l.at B) ≡ reach lines (drop l.at B)
unfolding construct_size
reach_of_next {l} {B} h no_table =
    let X : Block = drop l.at B in
    own_row (kind_at X) (l.depth == 0) X (subst IsNoTable (sym h.construct) no_table) ∙ ap (λ n. reach n X) h.size

-- ---- a construct of this kind

-- what the block gives and what is paid, where the items of the construct came after the end of the open run
pub flat_read : {each : ℕ} {old mid new : OpenBlock} {B : Block} {what : Construct} {lines k : ℕ} {before after : Pass} → old.at < length B → IsNextConstruct old B what lines → IsFlat what
    → IsClosed (run_of old B before.numbers) old mid k no_run → ReadsItems (piece_of (within_at old.depth) B (next_found old what lines) k) mid new (old.at + lines) after.numbers
    → after.looks ≤ before.looks + run_looks old.run + each * reach lines (drop old.at B) → capped (before.looks + (lines - 1)) ≤ after.looks → IsReadStep each B old before new after (Ok Next)
flat_read {each} {old} {mid} {new} {B} {what} {lines} {before = before} {after = after} inside next flat closed read most least =
    let X : Block = drop old.at B in
    let f : Flat what (unread_at old.depth) B old.at X = flat_is what (unread_at old.depth) B old.at X flat in
    let ended : run_looks new.run ≡ 0 = ap run_looks read.run ∙ ended_looks mid.run closed.run in
    let few : after.looks + run_looks new.run ≤ before.looks + run_looks old.run + each * reach lines X = omega (arith, ended, most) in
    record {
      step = omega (arith, read.at, next_some next inside);
      read = next_items new read.more next f.alone (has_ended B before.numbers closed) read.given
          (read.done ∙ ap (λ items. done_of mid ++ items) (sym (append-nil read.more)) ∙ ap (λ o. done_of mid ++ (read.more ++ map plain (ending_notes o (drop (old.at + lines) B)))) (sym f.silent))
          read.depth read.at read.run;
      paid = paid_next each old new B what lines Next before.looks after.looks next tt (read.depth ∙ closed.depth) read.at (sym (ap (totals old.depth) f.opens)) (sym (ap (totals old.depth) f.cells))
          (subst (λ n. after.looks + run_looks new.run ≤ before.looks + run_looks old.run + each * n) (sym (reach_of_next next f.no_table)) few) least;
    }

-- nodes are items
pub more_items : {old new : OpenBlock} {more : List Node} {at next : ℕ} (read : Result (List Item × ℕ) ℕ) → read ≡ Ok (map plain more, next) → HasMoreAt old new more at
    → ReadsItems read old new at next
more_items {more = more} read e h = record { more = map plain more; given = e; depth = h.depth; at = h.at; done = done_more h; run = h.run }

-- and so is a title
pub title_items : {old mid new : OpenBlock} {heading : Heading} {at next : ℕ} (read : Result (List Item × ℕ) ℕ) → read ≡ Ok (titled (title_of heading) ∷ [], next) → IsMoved old mid → mid.at ≡ at
    → HasTitle mid new heading → ReadsItems read old new at next
title_items {heading = heading} read e moved at m = record {
  more = titled (title_of heading) ∷ [];
  given = e;
  depth = m.depth ∙ moved.depth;
  at = m.at ∙ at;
  done = done_title m ∙ ap (λ items. items ++ titled (title_of heading) ∷ []) (done_moved moved);
  run = m.run ∙ moved.run;
}

-- ---- looks

-- how many of some lines there are
pub lines_looked : (B : Block) (i lines : ℕ) → i + lines ≤ length B → length (slice_range B i (i + lines)) ≡ lines
lines_looked B i lines within = omega (arith, length-take (i + lines - i) (drop i B), length-drop i B, within)

-- the looks at a paragraph, and those before it at the end of the open run
pub paragraph_looks : (B : Block) (i run before : ℕ) {at closed after : ℕ} → i ≡ at → capped before ≤ closed → closed ≤ before + run
    → Looked (paragraph_size (drop i B)) (20 * reach (paragraph_size (drop i B)) (drop i B)) closed after
    → (after ≤ before + run + 25 * reach (paragraph_size (drop at B)) (drop at B)) × (capped (before + (paragraph_size (drop at B) - 1)) ≤ after)
paragraph_looks B i run before {at} e low high looked =
    let size : paragraph_size (drop i B) ≡ paragraph_size (drop at B) = ap (λ k. paragraph_size (drop k B)) e in
    let far : reach (paragraph_size (drop i B)) (drop i B) ≡ reach (paragraph_size (drop at B)) (drop at B) = ap (λ k. reach (paragraph_size (drop k B)) (drop k B)) e in
    (omega (arith, high, looked.1, far), omega (arith, low, looked.0, size))
