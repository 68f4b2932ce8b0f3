-- A document that is read with few levels and without program code is read the same with more levels and with program code, where no directive is called
-- that means something else then.
use Rattle.std.proofs.Common.{◌≡◌, ℕ, zero, suc, ◌+◌, ◌-◌, ◌≤◌, Bool, true, false, List, [], ◌∷◌, ◌++◌, map, Result, Ok, Err, arith, refl, sym, ◌∙◌, ap}
use Rattle.std.specs.Prelude.{if◌then◌else◌}
use Rattle.rst_settings.specs.Profile.{Profile}
use Rattle.rst_text.specs.Block.{Block, is_blank}
use Rattle.rst_tree.specs.declared.node.Node.{Node}
use Rattle.rst_markup_blocks.specs.Partition.{Span, spans_from, construct_size}
use Rattle.rst_block_nodes.specs.LineBlocks.{IndentedLine, LinePart, level_line, deeper_lines, least_indent, line_parts, part_node, line_block}
use Rattle.rst_block_nodes.specs.Sections.{document_of}
use Rattle.rst_block_state.specs.Constructs.{Construct, bar_line, Found, found_at}
use Rattle.rst_block_state.specs.Documents.{document}
use Rattle.rst_block_state.specs.Joins.{runs_of, joining_of, joining_after}
use Rattle.rst_block_state.specs.LineRuns.{indented_lines}
use Rattle.rst_block_state.specs.Nodes.{nodes_among, piece_of, whole_by, ended, run_items, block_items, below_last_level, inner_nodes}
use Rattle.rst_block_state.specs.Numbered.{Numbered, then_read, ◌>>=◌, just, each, flat_each}
use Rattle.rst_block_state.specs.Runs.{Run, run_members, runs}
use Rattle.rst_block_state.specs.Titles.{Item}
use Rattle.rst_block_state.specs.Within.{Within}
use Rattle.rst2pseudoxml_run.proofs.ProfilesNeeds.{CallsAgreeUnder, OpenedKeep, CellsKeep}
use Rattle.rst_block.proofs.InsideReads.{Alike, alike, then_alike, same_alike, ReadAlike, piece_alike}
use Rattle.std.specs.List.{AllByRecursion}

-- ---- lists

each_again : {S A : Type 0} (r s : S → Numbered A) → ((x : S) (n : ℕ) → Alike false (r x n) (s x n)) → (xs : List S) (n : ℕ) → Alike false (each r xs n) (each s xs n)
each_again r s h [] n = refl
each_again r s h (x ∷ xs) n =
    then_alike false (r x n) (s x n) (λ a. each r xs >>= λ others. just (a ∷ others)) (λ a. each s xs >>= λ others. just (a ∷ others)) (h x n)
    (λ a k. same_alike false (each r xs k) (each s xs k) (λ others. just (a ∷ others)) (each_again r s h xs k))

flat_again : {S A : Type 0} (r s : S → Numbered (List A)) → ((x : S) (n : ℕ) → Alike false (r x n) (s x n)) → (xs : List S) (n : ℕ) → Alike false (flat_each r xs n) (flat_each s xs n)
flat_again r s h [] n = refl
flat_again r s h (x ∷ xs) n =
    then_alike false (r x n) (s x n) (λ some. flat_each r xs >>= λ others. just (some ++ others)) (λ some. flat_each s xs >>= λ others. just (some ++ others)) (h x n)
    (λ some k. same_alike false (flat_each r xs k) (flat_each s xs k) (λ others. just (some ++ others)) (flat_again r s h xs k))

-- ---- line blocks

part_again : (f g : List IndentedLine → Numbered (Node × List Node)) → ((ls : List IndentedLine) (n : ℕ) → Alike false (f ls n) (g ls n)) → (part : LinePart) (n : ℕ) → Alike false (part_node f part n) (part_node g part n)
part_again f g h (level_line l) n = alike false (part_node f (level_line l) n)
part_again f g h (deeper_lines ls) n = h ls n

-- a line block is read again with more levels
pub lines_again : (levels more : ℕ) → levels ≤ more → (ls : List IndentedLine) (n : ℕ) → Alike false (line_block levels ls n) (line_block more ls n)
lines_again zero more within ls n = tt
lines_again (suc levels) zero within ls n = absurd (omega (arith, within))
lines_again (suc levels) (suc more) within ls n =
    same_alike false (each (part_node (line_block levels)) (line_parts (least_indent ls) ls) n) (each (part_node (line_block more)) (line_parts (least_indent ls) ls) n) _
    (each_again (part_node (line_block levels)) (part_node (line_block more)) (part_again (line_block levels) (line_block more) (lines_again levels more (omega (arith, within)))) (line_parts (least_indent ls) ls) n)

-- ---- blocks

-- all blocks that keep a premise are read again
abbrev pub ReadsAgain : (Block → Type 0) → (Block → Numbered (List Node)) → (Block → Numbered (List Node)) → Type 0
ReadsAgain P g h = (B : Block) (n : ℕ) → P B → Alike false (g B n) (h B n)

all_again : (P : Block → Type 0) (g h : Block → Numbered (List Node)) → ReadsAgain P g h → (Cs : List Block) → AllByRecursion P Cs → ReadAlike false g h Cs
all_again P g h reads [] keep = tt
all_again P g h reads (C ∷ Cs) keep = (λ n. reads C n keep.0, all_again P g h reads Cs keep.1)

-- ---- blank blocks

-- the runs of some constructs of a block
abbrev pub runs_at : Bool → Block → List Span → List (Run Found)
runs_at titles B ss = runs (λ f. joining_of f.what f.span) (λ joining f. joining_after joining f.what f.span) (map (found_at titles B) ss)

-- a block that is read below the last level is blank, so it has no constructs at all
quiet_again : (titles : Bool) (n : ℕ) (given : List Span → Result (List Node × ℕ) ℕ) → given [] ≡ Ok ([], n) → (i : ℕ) (X : Block)
    → Alike false (below_last_level X n) (given (spans_from titles i 0 X))
unfolding below_last_level spans_from
quiet_again titles n given e i [] = e
quiet_again titles n given e i (l ∷ ls) = by (is_blank l.text) (quiet_again titles n given e (suc i) ls)
  where
    by : (b : Bool) → Alike false (below_last_level ls n) (given (spans_from titles (suc i) 0 ls))
        → Alike false ((if b then below_last_level ls else (λ number. Err l.number)) n)
        (given (if b then spans_from titles (suc i) 0 ls else (record { start = i; stop = i + construct_size titles (l ∷ ls) }) ∷ spans_from titles (suc i) (construct_size titles (l ∷ ls) - 1) ls))
    by true h = h
    by false h = tt

read_again : {A : Type 0} (r s : Result (A × ℕ) ℕ) (x : A × ℕ) → Alike false r s → r ≡ Ok x → s ≡ Ok x
read_again (Ok y) s x e is = e ∙ is
read_again (Err line) s x e is = absurd (cc)

-- ---- blocks in blocks

module _ (P : Block → Type 0) (agree : CallsAgreeUnder P) (opened : OpenedKeep P) (cells : CellsKeep P) where
  module _ (titles : Bool) (levels more : ℕ) (within : levels ≤ more) (g h : Block → Numbered (List Node)) (reads : ReadsAgain P g h) (B : Block) (keeps : P B) where
    abbrev c : Within
    c = record { titles = titles; code = false; levels = levels; inner = g }

    abbrev d : Within
    d = record { titles = titles; code = true; levels = more; inner = h }

    found_again : (f : Found) (n : ℕ) → Alike false (piece_of c B f n) (piece_of d B f n)
    found_again f n =
        piece_alike false false true titles levels more (lines_again levels more within) g h B f n (agree B f.span.start keeps) (all_again P g h reads _ (opened c B f keeps)) (all_again P g h reads _ (cells B f keeps))

    whole_again : (what : Construct) (run : Run Found) (items : List Item) (n : ℕ) → Alike false (whole_by what c B run items n) (whole_by what d B run items n)
    whole_again (bar_line m) run items n =
        let ls : List IndentedLine = indented_lines B 0 (run_members run) in
        same_alike false (then_read (λ (made : Node × List Node). just (made.0 ∷ made.1)) (line_block levels ls n)) (then_read (λ (made : Node × List Node). just (made.0 ∷ made.1)) (line_block more ls n)) _
        (same_alike false (line_block levels ls n) (line_block more ls n) _ (lines_again levels more within ls n))
    whole_again _ run items n = refl

    ended_again : (run : Run Found) (items : List Item) (n : ℕ) → Alike false (ended c B run items n) (ended d B run items n)
    ended_again run items n = same_alike false (whole_by run.first.what c B run items n) (whole_by run.first.what d B run items n) _ (whole_again run.first.what run items n)

    run_again : (run : Run Found) (n : ℕ) → Alike false (run_items c B run n) (run_items d B run n)
    run_again run n =
        then_alike false (flat_each (piece_of c B) (run_members run) n) (flat_each (piece_of d B) (run_members run) n) (ended c B run) (ended d B run)
        (flat_again (piece_of c B) (piece_of d B) found_again (run_members run) n) (ended_again run)

    pub items_again : (n : ℕ) → Alike false (block_items c B n) (block_items d B n)
    items_again n = flat_again (run_items c B) (run_items d B) run_again (runs_of titles B) n

  -- ---- levels

  -- the items of a block in which this many levels are left for the blocks inside
  abbrev items_with : Bool → Bool → ℕ → Block → Numbered (List Item)
  items_with titles code levels B = block_items (record { titles = titles; code = code; levels = suc levels; inner = inner_nodes code levels }) B

  -- all blocks inside are read again with more levels
  inner_again : (levels more : ℕ) → levels ≤ more → ReadsAgain P (inner_nodes false levels) (inner_nodes true more)
  unfolding inner_nodes
  inner_again zero zero within B n keeps = alike false (below_last_level B n)
  inner_again zero (suc more) within B n keeps =
      let d : Within = record { titles = false; code = true; levels = suc more; inner = inner_nodes true more } in
      quiet_again false n (λ ss. then_read (λ items. just (nodes_among items)) (flat_each (run_items d B) (runs_at false B ss) n)) refl 0 B
  inner_again (suc levels) zero within B n keeps = absurd (omega (arith, within))
  inner_again (suc levels) (suc more) within B n keeps =
      same_alike false (items_with false false levels B n) (items_with false true more B n) (λ items. just (nodes_among items))
      (items_again false (suc levels) (suc more) (omega (arith, within)) (inner_nodes false levels) (inner_nodes true more) (inner_again levels more (omega (arith, within))) B keeps n)

  -- ---- documents

  abbrev document_by : Bool → ℕ → Block → ℕ → Result (Node × ℕ) ℕ
  document_by code nesting B n = then_read (λ items. just (document_of items)) (items_with true code nesting B n)

  document_again : (nesting more : ℕ) → nesting ≤ more → (B : Block) (n : ℕ) → P B → Alike false (document_by false nesting B n) (document_by true more B n)
  document_again nesting more within B n keeps =
      same_alike false (items_with true false nesting B n) (items_with true true more B n) (λ items. just (document_of items))
      (items_again true (suc nesting) (suc more) (omega (arith, within)) (inner_nodes false nesting) (inner_nodes true more) (inner_again nesting more within) B keeps n)

  -- a document that is read under one profile is read the same under a later one, which has as many levels or more, and program code
  pub documents_follow : (first later : Profile) → first.nesting ≤ later.nesting → first.code ≡ false → later.code ≡ true → (B : Block) (n : ℕ) (r : Node × ℕ) → P B
      → document first B n ≡ Ok r → document later B n ≡ Ok r
  documents_follow first later within without with B n r keeps is =
      ap (λ code. document_by code later.nesting B n) with
      ∙ read_again (document_by false first.nesting B n) (document_by true later.nesting B n) r (document_again first.nesting later.nesting within B n keeps)
      (sym (ap (λ code. document_by code first.nesting B n) without) ∙ is)
