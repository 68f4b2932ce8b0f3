-- A construct gives the same where the blocks that it opens and its cells do, and where its directives mean the same.
use Rattle.std.proofs.Common.{◌≡◌, ℕ, zero, suc, ◌+◌, cond, Bool, true, false, List, [], ◌∷◌, ◌++◌, map, take, drop, length, Option, None, Some, Result, Ok, Err, refl, sym, ap, ◌∙◌, subst}
use Rattle.std.specs.Prelude.{flat_map, slice_range}
use Rattle.std.specs.List.{AllByRecursion}
use Rattle.rst_text.specs.Block.{Block, first_text, first_number, first_parts}
use Rattle.rst_tree.specs.declared.node.Node.{Node}
use Rattle.rst_tree.specs.declared.tag.Tag.{Tag}
use Rattle.rst_tree.specs.declared.tag.Tag.TheVariants.{Attribution as AttributionTag, FieldName, DefinitionListItem, Definition, Field, FieldBody}
use Rattle.rst_markup_blocks.specs.Attributions.{attribution_part}
use Rattle.rst_markup_blocks.specs.Explicit.{explicit_of}
use Rattle.rst_markup_blocks.specs.Partition.{Span}
use Rattle.rst_markup_blocks.specs.declared.attribution.Attribution.{Attribution}
use Rattle.rst_markup_blocks.specs.declared.forms.Explicit.{Explicit}
use Rattle.rst_markup_blocks.specs.declared.forms.Explicit.TheVariants.{Footnote, Citation, Substitution, Directive}
use Rattle.rst_markup_blocks.specs.declared.forms.Invocation.{Invocation}
use Rattle.rst_markup_blocks.specs.declared.part.Part.{Part}
use Rattle.rst_markup_directives.specs.Argument.{ArgumentMeaning, title, uri}
use Rattle.rst_markup_directives.specs.Directive.{Read, Outcome, directive_at, found, handed, wrong}
use Rattle.rst_markup_directives.specs.Kind.{has_blocks}
use Rattle.rst_markup_directives.specs.declared.found.Content.{Content}
use Rattle.rst_markup_directives.specs.declared.kind.ContentKind.{ContentKind}
use Rattle.rst_markup_directives.specs.declared.kind.ContentKind.TheVariants.{Verse}
use Rattle.rst_markup_directives.specs.declared.found.Place.{Place}
use Rattle.rst_markup_directives.specs.declared.found.Place.TheVariants.{Top, Body, Substitution as InDefinition}
use Rattle.rst_markup_tables.specs.SimpleTable.{simple_table}
use Rattle.rst_markup_tables.specs.Tiling.{grid_table}
use Rattle.rst_markup_tables.specs.declared.results.Cell.{Cell}
use Rattle.rst_markup_tables.specs.declared.results.TableResult.{TableResult}
use Rattle.rst_markup_tables.specs.declared.results.TableResult.TheVariants.{Table, Malformed}
use Rattle.rst_block_nodes.specs.Sections.{filled}
use Rattle.rst_block_state.specs.Constructs.{ItemMark, definition_item, field_item, Construct, block_quote, item_of_list, grid, simple, explicit_markup, Found}
use Rattle.rst_block_state.specs.Directives.{content_nodes, called, is_handed_at, titled_start, completed, opened_by as opened_nodes, directive_by, definition_or_error, closed_with, content_lines}
use Rattle.rst_block_state.specs.Inside.{quoted_by, quoted, part_of_item, content_blocks, directive_blocks, markup_blocks, opened_by, opened_of, cell_blocks, cells_by, cells_with}
use Rattle.rst_block_state.specs.LineRuns.{IndentedLine, line_block, verse_lines}
use Rattle.rst_block_state.specs.Lists.{item_by, item_with}
use Rattle.rst_block_state.specs.Markup.{markup_by}
use Rattle.rst_block_state.specs.Nodes.{piece_by, piece_of, plainly}
use Rattle.rst_block_state.specs.Numbered.{Numbered, then_read, ◌>>=◌, just, each}
use Rattle.rst_block_state.specs.Paragraphs.{is_single_paragraph}
use Rattle.rst_block_state.specs.Quotes.{first_attribution, quote_after, quote_node, quotes_by, quotes}
use Rattle.rst_block_state.specs.Tables.{entry_of, row_of, table_nodes}
use Rattle.rst_block_state.specs.Texts.{joined, lines_in, texted, termed}
use Rattle.rst_block_state.specs.Within.{Within, hanging, indented_part}
use Rattle.rst_block.specs.InsideLaws.{InsideIsRead}
use Rattle.rst_block_state.proofs.NumberedLemmas.{same_after}

-- What is read twice is the same. Or, if refusals don't count, what was read is read again, and what was refused may give anything.
abbrev pub Alike : {A : Type 0} → Bool → Result (A × ℕ) ℕ → Result (A × ℕ) ℕ → Type 0
Alike true r s = r ≡ s
Alike false (Ok x) s = s ≡ Ok x
Alike false (Err line) s = Unit {0}

pub alike : {A : Type 0} (all : Bool) (r : Result (A × ℕ) ℕ) → Alike all r r
alike true r = refl
alike false (Ok x) = refl
alike false (Err line) = tt

-- what follows is read alike, so all is
pub then_alike : {A C : Type 0} (all : Bool) (r s : Result (A × ℕ) ℕ) (f g : A → Numbered C) → Alike all r s → ((a : A) (n : ℕ) → Alike all (f a n) (g a n)) → Alike all (then_read f r) (then_read g s)
then_alike true r s f g e h = same_after r f g h ∙ ap (then_read g) e
then_alike false (Ok (a, n)) s f g e h = subst (λ t. Alike false (f a n) (then_read g t)) (sym e) (h a n)
then_alike false (Err line) s f g e h = tt

pub same_alike : {A C : Type 0} (all : Bool) (r s : Result (A × ℕ) ℕ) (f : A → Numbered C) → Alike all r s → Alike all (then_read f r) (then_read f s)
same_alike all r s f e = then_alike all r s f f e (λ a n. alike all (f a n))

after_alike : {A C : Type 0} (all : Bool) (r : Result (A × ℕ) ℕ) (f g : A → Numbered C) → ((a : A) (n : ℕ) → Alike all (f a n) (g a n)) → Alike all (then_read f r) (then_read g r)
after_alike all r f g h = then_alike all r r f g (alike all r) h

-- each of some blocks is read alike
abbrev pub ReadAlike : Bool → (Block → Numbered (List Node)) → (Block → Numbered (List Node)) → List Block → Type 0
ReadAlike all g h Cs = AllByRecursion (λ C. (n : ℕ) → Alike all (g C n) (h C n)) Cs

-- a directive means the same, whether or not `code` is one
abbrev pub AgreesAt : Bool → Bool → Block → ℕ → Invocation → Type 0
AgreesAt code later B i call = (place : Place) (paragraph : Bool) → directive_at code B i call place paragraph ≡ directive_at later B i call place paragraph

-- so does the directive that explicit markup in line i calls, if it calls one
abbrev pub CallsAgree : Bool → Bool → Block → ℕ → Explicit → Type 0
CallsAgree code later B i (Directive call) = AgreesAt code later B i call
CallsAgree code later B i (Substitution name (Some call) end) = AgreesAt code later B i call
CallsAgree code later B i _ = Unit {0}

same_calls : (code : Bool) (B : Block) (i : ℕ) (x : Explicit) → CallsAgree code code B i x
same_calls code B i (Directive call) = λ place paragraph. refl
same_calls code B i (Substitution name (Some call) end) = λ place paragraph. refl
same_calls code B i _ = tt

-- line blocks are read alike, where this many or that many may be nested
abbrev pub NestAlike : Bool → ℕ → ℕ → Type 0
NestAlike all levels more = (ls : List IndentedLine) (n : ℕ) → Alike all (line_block levels ls n) (line_block more ls n)

module _ (all code later titles : Bool) (levels more : ℕ) (nest : NestAlike all levels more) (g h : Block → Numbered (List Node)) where
  abbrev c : Within
  c = record { titles = titles; code = code; levels = levels; inner = g }

  abbrev d : Within
  d = record { titles = titles; code = later; levels = more; inner = h }

  abbrev Inside : List Block → Type 0
  Inside Cs = ReadAlike all g h Cs

  -- ---- block quotes

  quotes_alike : (m : ℕ) (Q : Block) (n : ℕ) → Inside (quoted m Q) → Alike all (quotes c m Q n) (quotes d m Q n)
  quotes_alike zero Q n i = alike all _
  quotes_alike (suc m) [] n i = alike all _
  quotes_alike (suc m) (l ∷ ls) n i = by (first_attribution (l ∷ ls)) i (λ a. quotes_alike m (quote_after (l ∷ ls) a))
    where
      Q : Block
      Q = l ∷ ls

      by : (o : Option (ℕ × Attribution)) → Inside (quoted_by (quoted m) Q o)
          → ((a : Attribution) (j : ℕ) → Inside (quoted m (quote_after Q a)) → Alike all (quotes c m (quote_after Q a) j) (quotes d m (quote_after Q a) j))
          → Alike all (quotes_by c (quotes c m) Q o n) (quotes_by d (quotes d m) Q o n)
      by None i others = same_alike all (g Q n) (h Q n) (λ nodes. just (quote_node Q nodes ∷ [])) (i.0 n)
      by (Some (k, a)) i others =
          let end : Node × List Node → List Node → List Node → Numbered (List Node) = λ made nodes more. just (quote_node Q (nodes ++ made.0 ∷ []) ∷ made.1 ++ more) in
          after_alike all (texted (first_parts (drop k Q)) AttributionTag (first_number (drop k Q)) (joined (lines_in Q (attribution_part k a))) (first_number (drop k Q)) n)
          (λ (made : Node × List Node). g (take k Q) >>= λ nodes. quotes c m (quote_after Q a) >>= end made nodes)
          (λ (made : Node × List Node). h (take k Q) >>= λ nodes. quotes d m (quote_after Q a) >>= end made nodes)
          (λ made j. then_alike all (g (take k Q) j) (h (take k Q) j) (λ nodes. quotes c m (quote_after Q a) >>= end made nodes) (λ nodes. quotes d m (quote_after Q a) >>= end made nodes) (i.0 j)
          (λ nodes k. same_alike all (quotes c m (quote_after Q a) k) (quotes d m (quote_after Q a) k) (end made nodes) (others a k i.1)))

  -- ---- items

  item_with_alike : (B : Block) (item content : Tag) (line : ℕ) (part : Part) (heads notes : List Node) (n : ℕ) → Inside (lines_in B part ∷ [])
      → Alike all (item_with c B item content line part heads notes n) (item_with d B item content line part heads notes n)
  item_with_alike B item content line part heads notes n i = same_alike all (g (lines_in B part) n) (h (lines_in B part) n) _ (i.0 n)

  item_alike : (B : Block) (at : ℕ) (mark : ItemMark) (X : Block) (n : ℕ) → Inside (lines_in B (part_of_item at mark X) ∷ []) → Alike all (item_by c B at mark X n) (item_by d B at mark X n)
  item_alike B at (definition_item infos) X n i =
      after_alike all (termed (first_parts X) (first_text X) (first_number X) n)
      (λ (made : List Node × List Node). item_with c B DefinitionListItem Definition (first_number X) (indented_part (at + 1) (drop 1 X)) made.0 made.1)
      (λ (made : List Node × List Node). item_with d B DefinitionListItem Definition (first_number X) (indented_part (at + 1) (drop 1 X)) made.0 made.1)
      (λ made k. item_with_alike B DefinitionListItem Definition (first_number X) (indented_part (at + 1) (drop 1 X)) made.0 made.1 k i)
  item_alike B at (field_item m) X n i =
      after_alike all (texted (first_parts X) FieldName (first_number X) (slice_range (first_text X) m.name.from m.name.to) (first_number X) n)
      (λ (made : Node × List Node). item_with c B Field FieldBody (first_number X) (hanging at m.marker X) (made.0 ∷ []) made.1)
      (λ (made : Node × List Node). item_with d B Field FieldBody (first_number X) (hanging at m.marker X) (made.0 ∷ []) made.1)
      (λ made k. item_with_alike B Field FieldBody (first_number X) (hanging at m.marker X) (made.0 ∷ []) made.1 k i)
  item_alike B at mark X n i = same_alike all (g (lines_in B (part_of_item at mark X)) n) (h (lines_in B (part_of_item at mark X)) n) _ (i.0 n)

  -- ---- directives

  content_alike : (B : Block) (content : Content) (n : ℕ) → Inside (content_blocks B content) → Alike all (content_nodes c B content n) (content_nodes d B content n)
  content_alike B content n i =
      then_alike all (g (lines_in B content.first) n) (h (lines_in B content.first) n)
      (λ some. g (lines_in B content.second) >>= λ more. just (some ++ more))
      (λ some. h (lines_in B content.second) >>= λ more. just (some ++ more))
      (i.0 n) (λ some m. same_alike all (g (lines_in B content.second) m) (h (lines_in B content.second) m) (λ more. just (some ++ more)) (i.1.0 m))

  content_then : {A : Type 0} (B : Block) (content : Content) (k : List Node → Numbered A) (n : ℕ) → Inside (content_blocks B content)
      → Alike all ((content_nodes c B content >>= k) n) ((content_nodes d B content >>= k) n)
  content_then B content k n i = same_alike all (content_nodes c B content n) (content_nodes d B content n) k (content_alike B content n i)

  opened_alike : (given : ArgumentMeaning) (B : Block) (line : ℕ) (read : Read) (lines : List ℕ) (n : ℕ) → Inside (content_blocks B read.content)
      → Alike all (opened_nodes given c B line read lines n) (opened_nodes given d B line read lines n)
  opened_alike (title part) B line read lines n i =
      let rest : Node → List Node → Numbered (List Node) = λ start nodes. just (completed read.kind.content read.options start line lines nodes) in
      after_alike all (titled_start line read (lines_in B part) n) (λ start. content_nodes c B read.content >>= rest start) (λ start. content_nodes d B read.content >>= rest start)
      (λ start k. content_then B read.content (rest start) k i)
  opened_alike (uri address) B line read lines n i = content_then B read.content _ n i
  opened_alike _ B line read lines n i = content_then B read.content _ n i

  -- so is one that holds none
  closed_alike : (content : ContentKind) (B : Block) (line : ℕ) (read : Read) (n : ℕ) → Alike all (closed_with content levels B line read n) (closed_with content more B line read n)
  closed_alike Verse B line read n =
      let ls = verse_lines 0 (content_lines B read.content) in same_alike all (line_block levels ls n) (line_block more ls n) _ (nest ls n)
  closed_alike _ B line read n = alike all _

  -- what holds blocks is read alike where what holds none is
  blocks_alike : (B : Block) (content : Content) (some other closed shut : Numbered (List Node)) (n : ℕ) (b : Bool) → (Inside (content_blocks B content) → Alike all (some n) (other n)) → Alike all (closed n) (shut n)
      → Inside (cond b (content_blocks B content) []) → Alike all (cond b some closed n) (cond b other shut n)
  blocks_alike B content some other closed shut n true h k i = h i
  blocks_alike B content some other closed shut n false h k i = k

  directive_alike : (o : Outcome) (B : Block) (s : Span) (name : List ℕ) (n : ℕ) → Inside (directive_blocks o B) → Alike all (directive_by o c B s name n) (directive_by o d B s name n)
  directive_alike (found read) B s name n i = blocks_alike B read.content _ _ _ _ n (has_blocks read.kind.content) (opened_alike read.argument B (first_number (drop s.start B)) read _ n) (closed_alike read.kind.content B (first_number (drop s.start B)) read n) i
  directive_alike handed B s name n i = alike all _
  directive_alike (wrong fault part) B s name n i = alike all _

  holding_alike : (o : Outcome) (B : Block) (s : Span) (name written : List ℕ) (n : ℕ) → Inside (directive_blocks o B) → Alike all (definition_or_error o c B s name written n) (definition_or_error o d B s name written n)
  holding_alike (found read) B s name written n i = blocks_alike B read.content _ _ _ _ n (has_blocks read.kind.content) (content_then B read.content _ n) (alike all _) i
  holding_alike handed B s name written n i = alike all _
  holding_alike (wrong fault part) B s name written n i = alike all _

  -- ---- explicit markup

  same_call : (B : Block) (at : ℕ) (call : Invocation) (place : Place) → AgreesAt code later B at call → called c B at call place ≡ called d B at call place
  same_call B at call place agree =
      ap (λ (o : Outcome). cond (is_handed_at B at call) handed o) (agree place (is_single_paragraph (lines_in B call.block)))

  definitions_alike : (o p : Outcome) → o ≡ p → (B : Block) (s : Span) (name written : List ℕ) (n : ℕ) → Inside (directive_blocks o B) → Alike all (definition_or_error o c B s name written n) (definition_or_error p d B s name written n)
  definitions_alike o p e B s name written n i = subst (λ q. Alike all (definition_or_error o c B s name written n) (definition_or_error q d B s name written n)) e (holding_alike o B s name written n i)

  called_alike : (o p : Outcome) → o ≡ p → (B : Block) (s : Span) (name : List ℕ) (n : ℕ) → Inside (directive_blocks o B) → Alike all (directive_by o c B s name n) (directive_by p d B s name n)
  called_alike o p e B s name n i = subst (λ q. Alike all (directive_by o c B s name n) (directive_by q d B s name n)) e (directive_alike o B s name n i)

  markup_alike : (x : Explicit) (B : Block) (s : Span) (X : Block) (n : ℕ) → CallsAgree code later B s.start x → Inside (markup_blocks x c B s.start) → Alike all (markup_by x c B s X n) (markup_by x d B s X n)
  markup_alike (Footnote label body) B s X n agree i = same_alike all (g (lines_in B body) n) (h (lines_in B body) n) _ (i.0 n)
  markup_alike (Citation label body) B s X n agree i = same_alike all (g (lines_in B body) n) (h (lines_in B body) n) _ (i.0 n)
  markup_alike (Substitution name (Some call) end) B s X n agree i =
      definitions_alike (called c B s.start call InDefinition) (called d B s.start call InDefinition) (same_call B s.start call InDefinition agree) B s _ _ n i
  markup_alike (Directive call) B s X n agree i =
      called_alike (called c B s.start call (cond titles Top Body)) (called d B s.start call (cond titles Top Body)) (same_call B s.start call (cond titles Top Body) agree) B s _ n i
  markup_alike _ B s X n agree i = alike all _

  -- ---- tables

  entry_alike : (cell : Cell) (n : ℕ) → ((k : ℕ) → Alike all (g cell.lines k) (h cell.lines k)) → Alike all (entry_of c cell n) (entry_of d cell n)
  entry_alike cell n i = same_alike all (g cell.lines n) (h cell.lines n) _ (i n)

  row_alike : (cells : List Cell) (n : ℕ) → Inside (map (λ (cell : Cell). cell.lines) cells) → Alike all (each (entry_of c) cells n) (each (entry_of d) cells n)
  row_alike [] n i = alike all _
  row_alike (cell ∷ cells) n i =
      then_alike all (entry_of c cell n) (entry_of d cell n) (λ entry. each (entry_of c) cells >>= λ others. just (entry ∷ others)) (λ entry. each (entry_of d) cells >>= λ others. just (entry ∷ others))
      (entry_alike cell n i.0) (λ entry k. same_alike all (each (entry_of c) cells k) (each (entry_of d) cells k) (λ others. just (entry ∷ others)) (row_alike cells k i.1))

  split : (cells others : List Cell) → Inside (map (λ (cell : Cell). cell.lines) (cells ++ others)) → Inside (map (λ (cell : Cell). cell.lines) cells) × Inside (map (λ (cell : Cell). cell.lines) others)
  split [] others i = (tt, i)
  split (cell ∷ cells) others i = let r = split cells others i.1 in ((i.0, r.0), r.1)

  rows_alike : (rows : List (List Cell)) (n : ℕ) → Inside (map (λ (cell : Cell). cell.lines) (flat_map (λ (row : List Cell). row) rows)) → Alike all (each (row_of c) rows n) (each (row_of d) rows n)
  rows_alike [] n i = alike all _
  rows_alike (row ∷ rows) n i =
      let r = split row (flat_map (λ (row : List Cell). row) rows) i in
      then_alike all (row_of c row n) (row_of d row n) (λ made. each (row_of c) rows >>= λ others. just (made ∷ others)) (λ made. each (row_of d) rows >>= λ others. just (made ∷ others))
      (same_alike all (each (entry_of c) row n) (each (entry_of d) row n) _ (row_alike row n r.0))
      (λ made k. same_alike all (each (row_of c) rows k) (each (row_of d) rows k) (λ others. just (made ∷ others)) (rows_alike rows k r.1))

  table_alike : (B : Block) (s : Span) (t : TableResult) (n : ℕ) → Inside (cell_blocks t) → Alike all (table_nodes c B s t n) (table_nodes d B s t n)
  table_alike B s (Table widths m rows end) n i = same_alike all (each (row_of c) rows n) (each (row_of d) rows n) _ (rows_alike rows n i)
  table_alike B s (Malformed end fault) n i = alike all _

  -- ---- all constructs

  plainly_alike : (r s : Numbered (List Node)) (n : ℕ) → Alike all (r n) (s n) → Alike all (plainly r n) (plainly s n)
  plainly_alike r s n e = same_alike all (r n) (s n) _ e

  construct_alike : (what : Construct) (B : Block) (s : Span) (X : Block) (n : ℕ) → X ≡ drop s.start B → CallsAgree code later B s.start (explicit_of s.start (drop s.start B))
      → Inside (opened_by what c B s.start X) → Inside (cells_by what B s.start) → Alike all (piece_by what c B s X n) (piece_by what d B s X n)
  construct_alike block_quote B s X n e agree i k =
      let Q : Block = lines_in B (indented_part s.start X) in plainly_alike (quotes c (length Q) Q) (quotes d (length Q) Q) n (quotes_alike (length Q) Q n i)
  construct_alike (item_of_list mark) B s X n e agree i k = plainly_alike (item_by c B s.start mark X) (item_by d B s.start mark X) n (item_alike B s.start mark X n i)
  construct_alike grid B s X n e agree i k = plainly_alike (table_nodes c B s (grid_table B s.start)) (table_nodes d B s (grid_table B s.start)) n (table_alike B s (grid_table B s.start) n k)
  construct_alike simple B s X n e agree i k = plainly_alike (table_nodes c B s (simple_table B s.start)) (table_nodes d B s (simple_table B s.start)) n (table_alike B s (simple_table B s.start) n k)
  construct_alike explicit_markup B s X n e agree i k =
      let x : Explicit = explicit_of s.start (drop s.start B) in
      plainly_alike (markup_by x c B s (drop s.start B)) (markup_by x d B s (drop s.start B)) n
      (markup_alike x B s (drop s.start B) n agree (subst (λ Y. Inside (markup_blocks (explicit_of s.start Y) c B s.start)) e i))
  construct_alike _ B s X n e agree i k = alike all _

  pub piece_alike : (B : Block) (f : Found) (n : ℕ) → CallsAgree code later B f.span.start (explicit_of f.span.start (drop f.span.start B)) → Inside (opened_of c B f) → Inside (cells_with B f)
      → Alike all (piece_of c B f n) (piece_of d B f n)
  piece_alike B f n agree i k = construct_alike f.what B f.span (drop f.span.start B) n refl agree i k

pub inside_is_read : InsideIsRead
inside_is_read c g B f n h k = piece_alike true c.code c.code c.titles c.levels c.levels (λ ls n. refl) c.inner g B f n (same_calls c.code B f.span.start _) h k
