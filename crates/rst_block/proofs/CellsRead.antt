-- The cells of tables, read one after the other, and what a block gives once its table is read.
use Rattle.std.proofs.Common.{◌≡◌, ℕ, suc, ◌-◌, ◌≤◌, List, [], ◌∷◌, ◌++◌, drop, Result, Ok, Err, arith, sym, ◌∙◌, ap, append_assoc, append-nil, subst}
use Rattle.rst_text.specs.Block.{Block, first_number}
use Rattle.rst_tree.specs.declared.node.Node.{Node}
use Rattle.rst_markup_tables.specs.declared.results.Cell.{Cell}
use Rattle.rst_markup_tables.specs.declared.results.TableResult.{TableResult}
use Rattle.rst_markup_tables.specs.declared.results.TableResult.TheVariants.{Table}
use Rattle.rst_block_nodes.specs.Elements.{entry_node}
use Rattle.rst_block_nodes.specs.Sections.{filled}
use Rattle.rst_block_state.specs.Constructs.{grid}
use Rattle.rst_block_state.specs.Joins.{alone_ending}
use Rattle.rst_block_state.specs.machine.Meanings.{Keeps, comes, done_of, reads, reads_from, text_items, within_at}
use Rattle.rst_block_state.specs.Nodes.{ending_notes, nodes_among}
use Rattle.rst_block_state.specs.Numbered.{Numbered, then_read, ◌>>=◌, just, each}
use Rattle.rst_block_state.specs.machine.OpenBlocks.{IsMoved, HasMore}
use Rattle.rst_block_state.specs.Tables.{entry_of, row_of, table_node}
use Rattle.rst_block_state.specs.Titles.{Item}
use Rattle.rst_block_nodes.specs.declared.fault.BlockFault.{BlockFault}
use Rattle.rst_block_nodes.specs.declared.fault.BlockFault.TheVariants.{TooDeep, NoMemory}
use Rattle.rst_block_state.specs.declared.open_block.OpenBlock.{OpenBlock}
use Rattle.rst_block_state.specs.declared.step.Step.TheVariants.{Cells}
use Rattle.rst_block_state.proofs.Changes.{more_more, moved_more, more_is_read}
use Rattle.rst_block_state.proofs.MeaningLemmas.{text_inside}
use Rattle.rst_block_state.proofs.NumberedLemmas.{same_after, after_after, then_just, at_number}
use Rattle.rst_block.proofs.Waiting.{among_done}

-- ---- one thing after the other

-- what is read of some things, of which these were made and those are left
abbrev pub each_after : {S A : Type 0} → (S → Numbered A) → List A → List S → Numbered (List A)
each_after f made left = do
  more ← each f left
  just (made ++ more)

each_step : {S A : Type 0} (f : S → Numbered A) (x : S) (xs : List S) (made : List A) (a : A) (n m : ℕ) → f x n ≡ Ok (a, m)
    → each_after f (made ++ a ∷ []) xs m ≡ each_after f made (x ∷ xs) n
each_step f x xs made a n m h =
    sym (
    ap (λ r. then_read (λ more. just (made ++ more)) (then_read (λ a. each f xs >>= λ others. just (a ∷ others)) r)) h
    ∙ after_after (each f xs m) (λ others. just (a ∷ others)) (λ more. just (made ++ more))
    ∙ same_after (each f xs m) (λ others. just (made ++ a ∷ others)) (λ others. just ((made ++ a ∷ []) ++ others)) (λ others k. ap (λ items. just items k) (sym (append_assoc made (a ∷ []) others))))

each_refused : {S A : Type 0} (f : S → Numbered A) (x : S) (xs : List S) (made : List A) (n line : ℕ) → f x n ≡ Err line → each_after f made (x ∷ xs) n ≡ Err line
each_refused f x xs made n line h = ap (λ r. then_read (λ more. just (made ++ more)) (then_read (λ a. each f xs >>= λ others. just (a ∷ others)) r)) h

-- none is made
pub each_begins : {S A : Type 0} (f : S → Numbered A) (all left : List S) (made : List A) (n : ℕ) → made ≡ [] → left ≡ all → each_after f made left n ≡ each f all n
each_begins f all left made n e l = ap (λ made. each_after f made left n) e ∙ ap (λ xs. each_after f [] xs n) l ∙ then_just (each f all n)

-- one more is made
pub each_goes_on : {S A : Type 0} (f : S → Numbered A) (x : S) (left rest : List S) (made new : List A) (a : A) (n m : ℕ) (all : Result (List A × ℕ) ℕ)
    → left ≡ x ∷ rest → Ok (a, m) ≡ f x n → new ≡ made ++ a ∷ [] → each_after f made left n ≡ all → each_after f new rest m ≡ all
each_goes_on f x left rest made new a n m all l h e inv =
    ap (λ made. each_after f made rest m) e ∙ each_step f x rest made a n m (sym h) ∙ ap (λ xs. each_after f made xs n) (sym l) ∙ inv

-- all are made
pub each_ends : {S A : Type 0} (f : S → Numbered A) (left : List S) (made : List A) (n : ℕ) (all : Result (List A × ℕ) ℕ) → left ≡ [] → each_after f made left n ≡ all → all ≡ Ok (made, n)
each_ends f left made n all l inv = sym inv ∙ ap (λ xs. each_after f made xs n) l ∙ ap (λ items. just items n) (append-nil made)

-- where one is refused, so are all
pub each_keeps : {S A C D : Type 0} (f : S → Numbered A) (x : S) (left rest : List S) (made : List A) (n : ℕ) (all : Result (List A × ℕ) ℕ) (e : BlockFault) (g : C → Result (A × ℕ) ℕ) (h : D → Result (List A × ℕ) ℕ)
    → left ≡ x ∷ rest → each_after f made left n ≡ all → Keeps (Err e) g (f x n) → Keeps (Err e) h all
each_keeps f x left rest made n all (TooDeep line) g h l inv k = sym inv ∙ ap (λ xs. each_after f made xs n) l ∙ each_refused f x rest made n line k
each_keeps f x left rest made n all NoMemory g h l inv k = tt

-- where what is read first is refused, so is what follows
pub then_keeps : {A B C D : Type 0} (r : Result (A × ℕ) ℕ) (f : A → Numbered B) (e : BlockFault) (g : C → Result (A × ℕ) ℕ) (h : D → Result (B × ℕ) ℕ) → Keeps (Err e) g r → Keeps (Err e) h (then_read f r)
then_keeps r f (TooDeep line) g h k = ap (then_read f) k
then_keeps r f NoMemory g h k = tt

-- ---- cells

-- the nodes of a cell's lines
cell_inside : (depth : ℕ) (B : Block) (n : ℕ) → 1 ≤ depth → depth ≤ 251 → (text_items depth B >>= λ items. just (nodes_among items)) n ≡ (within_at (depth - 1)).inner B n
cell_inside depth B n low high =
    let e : depth ≡ suc (depth - 1) = omega (arith, low) in
    ap (λ depth. (text_items depth B >>= λ items. just (nodes_among items)) n) e ∙ text_inside (depth - 1) B n (omega (arith, high))

entry_reads : (depth : ℕ) (cell : Cell) (B : Block) (level : OpenBlock) (node : Node) (n m : ℕ) → 1 ≤ depth → depth ≤ 251 → level.depth ≡ depth → B ≡ cell.lines
    → just (done_of level) m ≡ text_items depth B n → node ≡ filled (entry_node cell.morerows cell.morecols 0) level.nodes
    → entry_of (within_at (depth - 1)) cell n ≡ Ok (node, m)
entry_reads depth cell B level node n m low high d b h e =
    let F : List Node → Node = λ ns. filled (entry_node cell.morerows cell.morecols 0) ns in
    ap (λ X. ((within_at (depth - 1)).inner X >>= λ nodes. just (F nodes)) n) (sym b)
    ∙ ap (then_read (λ nodes. just (F nodes))) (sym (cell_inside depth B n low high) ∙ ap (then_read (λ items. just (nodes_among items))) (sym h))
    ∙ ap (λ (ns : List Node). Ok (F ns, m)) (among_done level (omega (arith, low, d)))
    ∙ ap (λ made. Ok (made, m)) (sym e)

entry_keeps : {A C : Type 0} (depth : ℕ) (cell : Cell) (B : Block) (n : ℕ) (e : BlockFault) (f : C → Result (List Item × ℕ) ℕ) (g : A → Result (Node × ℕ) ℕ) → 1 ≤ depth → depth ≤ 251 → B ≡ cell.lines
    → Keeps (Err e) f (text_items depth B n) → Keeps (Err e) g (entry_of (within_at (depth - 1)) cell n)
entry_keeps depth cell B n (TooDeep line) f g low high b h =
    let F : List Node → Node = λ ns. filled (entry_node cell.morerows cell.morecols 0) ns in
    ap (λ X. ((within_at (depth - 1)).inner X >>= λ nodes. just (F nodes)) n) (sym b)
    ∙ ap (then_read (λ nodes. just (F nodes))) (sym (cell_inside depth B n low high) ∙ ap (then_read (λ items. just (nodes_among items))) h)
entry_keeps depth cell B n NoMemory f g low high b h = tt

-- ---- rows

-- where a cell is refused, so are all entries of its row
pub entries_keep : {A C : Type 0} (depth : ℕ) (cells left rest : List Cell) (cell : Cell) (B : Block) (made : List Node) (n m : ℕ) (e : BlockFault)
    (f : C → Result (List Item × ℕ) ℕ) (g : A → Result (List Node × ℕ) ℕ) → 1 ≤ depth → depth ≤ 251 → left ≡ cell ∷ rest → B ≡ cell.lines
    → each_after (entry_of (within_at (depth - 1))) made left m ≡ each (entry_of (within_at (depth - 1))) cells n → Keeps (Err e) f (text_items depth B m)
    → Keeps (Err e) g (each (entry_of (within_at (depth - 1))) cells n)
entries_keep depth cells left rest cell B made n m e f g low high l b inv k =
    let F : Node → Result (Node × ℕ) ℕ = λ node. just node m in
    each_keeps (entry_of (within_at (depth - 1))) cell left rest made m _ e F g l inv (entry_keeps depth cell B m e f F low high b k)

-- ---- tables

-- the rows of a table at the next line of a block that is inside one block fewer than its cells
pub table_reads : (old moved mid new : OpenBlock) (B : Block) (depth : ℕ) (found : TableResult) (cols : List ℕ) (head end : ℕ) (rows : List (List Cell)) (made : List Node) (node : Node) (n m : ℕ)
    → found ≡ Table cols head rows end → depth ≡ suc old.depth → each (row_of (within_at (depth - 1))) rows n ≡ Ok (made, m) → node ≡ table_node cols head made (first_number (drop old.at B))
    → IsMoved old moved → moved.at ≡ end → HasMore moved mid (node ∷ []) → HasMore mid new (ending_notes (alone_ending grid) (drop mid.at B))
    → reads new B m ≡ comes old B (Cells found) n
table_reads old moved mid new B depth found cols head end rows made node n m q d h e mv at some more =
    let N : List Node = ending_notes (alone_ending grid) (drop end B) in
    let T : List Node → List Node = λ made. table_node cols head made (first_number (drop old.at B)) ∷ [] in
    let c : depth - 1 ≡ old.depth = omega (arith, d) in
    let k : mid.at ≡ end = some.at ∙ at in
    let all : HasMore moved new (node ∷ N) = more_more some (subst (λ i. HasMore mid new (ending_notes (alone_ending grid) (drop i B))) k more) in
    at_number m (more_is_read B (moved_more mv at all))
    ∙ ap (λ node. reads_from old B (node ∷ N) end m) e
    ∙ ap (λ r. then_read (λ ns. reads_from old B (ns ++ N) end) (then_read (λ made. just (T made)) r)) (sym (ap (λ depth. each (row_of (within_at depth)) rows n) (sym c) ∙ h))
    ∙ ap (λ t. comes old B (Cells t) n) (sym q)

-- where its rows are refused, so is the table
pub table_keeps : {A C : Type 0} (old : OpenBlock) (B : Block) (depth : ℕ) (found : TableResult) (cols : List ℕ) (head end : ℕ) (rows : List (List Cell)) (n : ℕ) (e : BlockFault)
    (f : C → Result (List Node × ℕ) ℕ) (g : A → Result (List Item × ℕ) ℕ) → found ≡ Table cols head rows end → depth ≡ suc old.depth
    → Keeps (Err e) f (each (row_of (within_at (depth - 1))) rows n) → Keeps (Err e) g (comes old B (Cells found) n)
table_keeps old B depth found cols head end rows n (TooDeep line) f g t d k =
    let N : List Node = ending_notes (alone_ending grid) (drop end B) in
    let T : List Node → List Node = λ made. table_node cols head made (first_number (drop old.at B)) ∷ [] in
    let c : old.depth ≡ depth - 1 = omega (arith, d) in
    ap (λ t. comes old B (Cells t) n) t
    ∙ ap (λ depth. then_read (λ ns. reads_from old B (ns ++ N) end) (then_read (λ made. just (T made)) (each (row_of (within_at depth)) rows n))) c
    ∙ ap (λ r. then_read (λ ns. reads_from old B (ns ++ N) end) (then_read (λ made. just (T made)) r)) k
table_keeps old B depth found cols head end rows n NoMemory f g t d k = tt

-- an entry more
pub entry_next : (depth : ℕ) (cell : Cell) (B : Block) (left rest : List Cell) (level : OpenBlock) (made new : List Node) (node : Node) (n m : ℕ) (all : Result (List Node × ℕ) ℕ)
    → 1 ≤ depth → depth ≤ 251 → level.depth ≡ depth → left ≡ cell ∷ rest → B ≡ cell.lines → just (done_of level) m ≡ text_items depth B n
    → node ≡ filled (entry_node cell.morerows cell.morecols 0) level.nodes → new ≡ made ++ node ∷ []
    → each_after (entry_of (within_at (depth - 1))) made left n ≡ all → each_after (entry_of (within_at (depth - 1))) new rest m ≡ all
entry_next depth cell B left rest level made new node n m all low high d l b k e v inv =
    each_goes_on (entry_of (within_at (depth - 1))) cell left rest made new node n m all l (sym (entry_reads depth cell B level node n m low high d b k e)) v inv
