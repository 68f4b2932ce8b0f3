-- Blocks fit, and so does the document.
use Rattle.std.proofs.Common.{◌≡◌, ℕ, zero, suc, ◌+◌, ◌*◌, ◌≤◌, Bool, true, false, List, [], ◌∷◌, map, drop, Some, arith, refl}
use Rattle.std.specs.Prelude.{◌==◌, codes}
use Rattle.std.specs.List.{AllByRecursion}
use Rattle.std.specs.Option.{IfSome}
use Rattle.std.proofs.lemmas.Bool.{cond_both}
use Rattle.rst_settings.specs.Profile.{Profile}
use Rattle.rst_text.specs.Block.{Block, first_number, first_parts, indentation, is_blank}
use Rattle.rst_tree.specs.declared.tag.Tag.TheVariants.{DoctestBlock}
use Rattle.rst_markup_blocks.specs.Conditions.{next_text}
use Rattle.rst_markup_blocks.specs.Explicit.{explicit_of}
use Rattle.rst_markup_blocks.specs.Partition.{Span, spans}
use Rattle.rst_markup_lines.specs.Enumerator.{first_reading}
use Rattle.rst_markup_lines.specs.TextStart.{unindented}
use Rattle.rst_block_nodes.specs.Sections.{Item, plain}
use Rattle.rst_block_state.specs.Constructs.{ItemMark, bullet_item, definition_item, enumerated_item, Construct, block_quote, item_of_list, doctest_block, bar_line, grid, simple, explicit_markup, transition, overlined_title, misplaced_lines, underlined_title, paragraph, Found, found_at}
use Rattle.rst_block_state.specs.Joins.{Joining, none, joined_ending, joining_of, joining_after, ending_of, runs_of}
use Rattle.rst_block_state.specs.Lists.{empty_list, infos_of}
use Rattle.rst_block_state.specs.Nodes.{nodes_among, piece_by, piece_of, infos_among, whole_by, run_items, block_items, below_last_level, inner_nodes}
use Rattle.rst_block_state.specs.Runs.{Run, run_members, last_of}
use Rattle.rst_block_state.specs.Texts.{span_source}
use Rattle.rst_block_state.specs.Within.{Within, indented_part}
use Rattle.rst_block_state.specs.Documents.{document}
use Rattle.rst_markup_tables.specs.SimpleTable.{simple_table}
use Rattle.rst_markup_tables.specs.Tiling.{grid_table}
use Rattle.rst_block_laws.proofs.CellTexts.{grid_kept, simple_kept}
use Rattle.rst_block_laws.proofs.ElementFits.{preserved_fits}
use Rattle.rst_block_laws.proofs.MessageFits.{ending_fit, list_notes_fit}
use Rattle.rst_block_laws.proofs.TableFits.{tables_fit}
use Rattle.rst_block_laws.proofs.ConstructFits.{item_fits, markup_fits, paragraph_fits, quotes_fit}
use Rattle.rst_block_laws.proofs.Fits.{AllFit, Fits, ItemFits, ItemsFit, filled_fits, fit_more, message_fits}
use Rattle.rst_block_laws.proofs.Gives.{Gives, after, flat_each_gives, give, gives, gives_more}
use Rattle.rst_block_laws.proofs.LineFits.{line_nodes_fit}
use Rattle.rst_block_laws.proofs.LineTexts.{first_kept, lines_kept, source_has}
use Rattle.rst_tree_laws.proofs.Lists.{all_append, all_drop, all_flat, all_made}
use Rattle.rst_block_laws.proofs.MarkFits.{ConstructFits, construct_fits}
use Rattle.rst_block_laws.proofs.OfRuns.{runs_low}
use Rattle.rst_tree_laws.proofs.Properties.{Suited, fixed_has}
use Rattle.rst_block_laws.proofs.SectionFits.{sections_fit}
use Rattle.rst_block_laws.proofs.TitleFits.{among_fit, plain_fit, plainly_fit, title_fits, underline_fits}
use Rattle.rst_block_laws.proofs.Weights.{HoldsAny, node_flat}
use Rattle.rst_tree_laws.specs.Texts.{AttrsHave, BlockKept}
use Rattle.rst_tree.specs.Nodes.{children_in}
use Rattle.rst_tree_index.specs.Parsed.{AreFlat}

module _ (P : ℕ → Bool) (T : List ℕ → Type 0) (s : Suited P T) where
  -- ---- what runs add to their constructs

  empty_fits : (mark : ItemMark) (X : Block) → Fits T 1 (empty_list mark X) × HoldsAny (empty_list mark X)
  empty_fits (bullet_item c m) X = ((omega arith, ((tt, tt), tt)), λ c. refl)
  empty_fits (enumerated_item e) X =
      ((omega arith, (cond_both ((first_reading e.written.ordinals).ordinal == 1) _ _ (AttrsHave T) (λ i. (tt, (tt, (tt, tt)))) (λ i. (tt, (tt, (tt, (tt, tt))))), tt)), λ c. refl)
  empty_fits _ X = ((omega arith, (tt, tt)), λ c. refl)

  joined_has : (joining : Joining) → IfSome (joined_ending joining) T
  joined_has none = tt
  joined_has _ = fixed_has P T s _ refl

  ending_has : (what : Construct) (g : Span) → IfSome (ending_of what g) T
  ending_has block_quote g = fixed_has P T s _ refl
  ending_has grid g = fixed_has P T s _ refl
  ending_has simple g = fixed_has P T s _ refl
  ending_has what g = joined_has (joining_of what g)

  info_fit : (what : Construct) (X : Block) → ConstructFits T what X → AllFit T 3 (infos_of what)
  info_fit (item_of_list (definition_item infos)) X h = h
  info_fit _ X h = tt

  -- ---- where blocks inside have so many levels

  module _ (c : Within) (m : ℕ) (some : 1 ≤ m) (nested : c.levels ≤ m) (inside : (B : Block) → BlockKept P B → Gives (AllFit T m) (c.inner B)) (B : Block) (b : BlockKept P B) where
    more_inside : (B : Block) → BlockKept P B → Gives (AllFit T (m + 2)) (c.inner B)
    more_inside B b = gives_more (λ nodes own. fit_more T m (m + 2) nodes (omega arith) own) (inside B b)

    -- as many levels as a construct has are allowed
    abbrev Room : ℕ → Construct → Type 0
    Room j grid = m + 5 ≤ j
    Room j simple = m + 5 ≤ j
    Room j _ = m + 4 ≤ j

    piece_fits : (j : ℕ) (what : Construct) (g : Span) → Room j what → ConstructFits T what (drop g.start B) → Gives (ItemsFit T j) (piece_by what c B g (drop g.start B))
    piece_fits j block_quote g r h = plainly_fit T (m + 2 + 2) j _ (omega arith) (quotes_fit P T s c (m + 2) (omega arith) (omega (arith, nested)) more_inside _ _ (lines_kept P B (indented_part g.start (drop g.start B)) b))
    piece_fits j (item_of_list mark) g r h = plainly_fit T (m + 2 + 2) j _ (omega arith) (item_fits P T s c (m + 2) (omega arith) (omega (arith, nested)) more_inside B g.start mark (drop g.start B) b (all_drop _ g.start B b))
    piece_fits j doctest_block g r h = give (preserved_fits P T s j (omega arith) DoctestBlock (first_number (drop g.start B)) _ (λ c. refl) (source_has P T s B g b), tt)
    piece_fits j grid g r h = plainly_fit T (m + 5) j _ r (tables_fit P T s c m inside B g (grid_table B g.start) b (grid_kept P T s B g.start b))
    piece_fits j simple g r h = plainly_fit T (m + 5) j _ r (tables_fit P T s c m inside B g (simple_table B g.start) b (simple_kept P B g.start b))
    piece_fits j explicit_markup g r h =
        plainly_fit T (m + 2 + 2) j _ (omega arith) (markup_fits P T s c (m + 2) (omega arith) (omega (arith, nested)) more_inside (explicit_of g.start (drop g.start B)) B g (drop g.start B) b (all_drop _ g.start B b))
    piece_fits j transition g r h = give ((omega arith, (tt, tt)), tt)
    piece_fits j (overlined_title mark short) g r h =
        let X : Block = drop g.start B in
        title_fits T P s j (omega arith) (first_parts X) _ (unindented (next_text X)) (first_number (drop 1 X)) short (first_number X) (codes "Title overline too short.") (span_source B g) h
        (all_drop _ (indentation (next_text X)) (next_text X) (first_kept P (drop 1 X) (all_drop _ 1 X (all_drop _ g.start B b)))) (fixed_has P T s _ refl) (source_has P T s B g b)
    piece_fits j (misplaced_lines level text) g r h = give (message_fits T j (omega arith) level (first_number (drop g.start B)) text (Some (span_source B g)) h (source_has P T s B g b), tt)
    piece_fits j (underlined_title infos short) g r h =
        after (underline_fits T P s j (omega arith) c.titles short (span_source B g) (drop g.start B) h.0 (all_drop _ g.start B b) (source_has P T s B g b))
        (λ items own. give (all_append _ (map plain infos) items (plain_fit T 3 j infos (omega arith) h.1) own))
    piece_fits j (paragraph infos) g r h = plainly_fit T j j _ (omega arith) (paragraph_fits P T s j (omega arith) infos (drop g.start B) (all_drop _ g.start B b) h)
    piece_fits j _ g r h = give tt

    -- ---- runs

    -- a list has a level more than its items
    abbrev limit : Construct → ℕ
    limit (item_of_list mark) = m + 4
    limit _ = m + 5

    room : (what : Construct) → (m + 4 ≤ limit what) × Room (limit what) what
    room grid = (omega arith, omega arith)
    room _ = (omega arith, omega arith)

    -- no table joins a run
    joined_room : (j : ℕ) (joining : Joining) (what : Construct) (g : Span) (next : Joining) → joining_after joining what g ≡ Some next → m + 4 ≤ j → Room j what
    joined_room j none grid g next e l = absurd (cc)
    joined_room j _ grid g next e l = absurd (cc)
    joined_room j _ simple g next e l = absurd (cc)
    joined_room j _ _ g next e l = l

    -- of a construct, and of one in a run that begins with another
    abbrev At : Found → Type 0
    At f = ConstructFits T f.what (drop f.span.start B)

    abbrev Among : Found → Found → Type 0
    Among f g = At g × Room (limit f.what) g.what

    whole_fits : (what : Construct) (run : Run Found) (items : List Item) → AllFit T 3 (infos_among run) → ItemsFit T (limit what) items → Gives (ItemsFit T (m + 5)) (whole_by what c B run items)
    whole_fits (item_of_list mark) run items h l =
        let X : Block = drop run.first.span.start B in
        let empty = empty_fits mark X in
        give (plain_fit T (m + 5) (m + 5) _ (omega arith) (all_append _ (infos_among run) _ (fit_more T 3 (m + 5) (infos_among run) (omega arith) h)
        (filled_fits T (empty_list mark X) (nodes_among items) (m + 4) (m + 5) empty.1 (omega (arith, empty.0.0), empty.0.1) (among_fit T (m + 4) items l) (omega arith), list_notes_fit P T s (m + 5) (omega arith) mark X (all_drop _ run.first.span.start B b))))
    whole_fits (bar_line mark) run items h l = plainly_fit T (c.levels + 4) (m + 5) _ (omega arith) (line_nodes_fit P T s c B (run_members run) b)
    whole_fits what run items h l = give l

    run_fits : (run : Run Found) → AllByRecursion (Among run.first) (run_members run) → Gives (ItemsFit T (m + 5)) (run_items c B run)
    run_fits run h =
        let f : Found = run.first in
        after (flat_each_gives (Among f) (ItemFits T (limit f.what)) (piece_of c B) (λ g k. piece_fits (limit f.what) g.what g.span k.1 k.0) (run_members run) h)
        (λ items own. after (whole_fits f.what run items (all_flat (Among f) (Fits T 3) _ (λ g k. info_fit g.what (drop g.span.start B) k.0) (run_members run) h) own)
        (λ whole rest. give (all_append _ whole _ rest (plain_fit T (m + 5) (m + 5) _ (omega arith) (ending_fit P T s (m + 5) (omega arith) (ending_of f.what f.span) (drop (last_of f run.others).span.stop B) (ending_has f.what f.span))))))

    items_fit : Gives (ItemsFit T (m + 5)) (block_items c B)
    items_fit =
        flat_each_gives _ (ItemFits T (m + 5)) (run_items c B) run_fits (runs_of c.titles B)
        (runs_low (λ f. joining_of f.what f.span) (λ joining f. joining_after joining f.what f.span) At Among (λ f h. (h, (room f.what).1))
        (λ f g joining next e h. (h, joined_room (limit f.what) joining g.what g.span next e (room f.what).0)) _ (all_made At (found_at c.titles B) (spans c.titles B) (λ g. construct_fits P T s c.titles (drop g.start B))))

  -- ---- blocks in blocks

  below_fits : (B : Block) → Gives (AllFit T 1) (below_last_level B)
  unfolding below_last_level
  below_fits [] = give tt
  below_fits (l ∷ ls) = cond_both (is_blank l.text) _ _ (Gives (AllFit T 1)) (λ e. below_fits ls) (λ e. gives (λ n. tt))

  pub inner_fits : (code : Bool) (levels : ℕ) (B : Block) → BlockKept P B → Gives (AllFit T (5 * levels + 1)) (inner_nodes code levels B)
  unfolding inner_nodes
  inner_fits code zero B b = below_fits B
  inner_fits code (suc l) B b =
      after (items_fit (record { titles = false; code = code; levels = suc l; inner = inner_nodes code l }) (5 * l + 1) (omega arith) (omega arith) (inner_fits code l) B b)
      (λ items own. give (fit_more T (5 * l + 1 + 5) (5 * suc l + 1) (nodes_among items) (omega arith) (among_fit T (5 * l + 1 + 5) items own)))

  pub document_fits : (profile : Profile) (B : Block) → BlockKept P B → Gives (Fits T (5 * profile.nesting + 72)) (document profile B)
  document_fits profile B b =
      let nesting : ℕ = profile.nesting in
      after (items_fit (record { titles = true; code = profile.code; levels = suc nesting; inner = inner_nodes profile.code nesting }) (5 * nesting + 1) (omega arith) (omega arith) (inner_fits profile.code nesting) B b)
      (λ items own. give (sections_fit P T s (5 * nesting + 1 + 5) (omega arith) (5 * nesting + 72) items (omega arith) own))

  pub document_flat : (profile : Profile) (B : Block) → BlockKept P B → profile.nesting ≤ 250 → Gives (λ n. AreFlat 2 (children_in n)) (document profile B)
  document_flat profile B b e = gives_more (λ n h. node_flat (5 * profile.nesting + 72) n h.0 (omega arith)) (document_fits profile B b)
