-- A block quote as the machine reads it: a quote with its attribution, and then the lines that are left.
use Rattle.std.proofs.Common.{◌≡◌, ℕ, zero, suc, ◌+◌, ◌-◌, ◌<◌, ◌≤◌, Bool, cond, List, [], ◌∷◌, ◌++◌, length, length-drop, take, drop, map, Option, Some, None, option_map, Ok, Box, box_value, Global, arith, refl, sym, ◌∙◌, ap, subst, append-nil, append_assoc, inl, inr, lt-ltb, le-ltb, ne_eqb, if◌then◌else◌}
use Rattle.std.proofs.lemmas.Bool.{cases_lt}
use Rattle.std.proofs.lemmas.List.{drop_all, drop-drop, map-append}
use Rattle.rst_text.specs.Block.{Block, cut, shorten_all, first_number, first_parts}
use Rattle.rst_text.specs.Extent.{extent}
use Rattle.rst_text.proofs.CutLaws.{take-cut, drop-cut, length-cut}
use Rattle.rst_tree.specs.declared.attrs.Attr.{Attr}
use Rattle.rst_tree.specs.declared.node.Node.{Node}
use Rattle.rst_tree.specs.declared.tag.Tag.TheVariants.{BlockQuote, Attribution as AttributionTag}
use Rattle.rst_markup_blocks.specs.Attributions.{attribution_part}
use Rattle.rst_markup_blocks.specs.Begun.{IsBegun}
use Rattle.rst_markup_blocks.specs.Lines.{lines_while}
use Rattle.rst_markup_blocks.specs.Parts.{IsBlock}
use Rattle.rst_markup_blocks.proofs.RowLaws.{extent_le, while_le}
use Rattle.rst_markup_blocks.specs.declared.attribution.Attribution.{Attribution}
use Rattle.rst_markup_blocks.specs.declared.begun.Begun.TheVariants as Begins
use Rattle.rst_markup_blocks.specs.declared.lines.LineTest.TheVariants.{Blank}
use Rattle.rst_markup_blocks.specs.declared.part.Part.{Part}
use Rattle.rst_block_nodes.specs.Elements.{element_of}
use Rattle.rst_block_nodes.specs.declared.texted.Texted.{Texted}
use Rattle.rst_block_state.specs.Constructs.{block_quote, Found}
use Rattle.rst_block_state.specs.Joins.{alone_ending}
use Rattle.rst_block_state.specs.machine.MeaningLaws.{IsAttributed, first_lines_of}
use Rattle.rst_block_state.specs.machine.Meanings.{open_run_of, within_at, done_of, reads, reads_from, quote_by, quotes_from, after_quote, comes}
use Rattle.rst_block_state.specs.Nodes.{piece_of, ending_notes}
use Rattle.rst_block_state.specs.Numbered.{Numbered, then_read, ◌>>=◌, just, before}
use Rattle.rst_block_state.specs.machine.OpenBlocks.{IsMoved, HasMore}
use Rattle.rst_block_state.specs.Quotes.{first_attribution, quote_after, quote_node, quotes_by, quotes}
use Rattle.rst_block_state.specs.machine.Rest.{no_run, rest}
use Rattle.rst_block_state.specs.machine.RestLaws.{found_as}
use Rattle.rst_block_state.specs.machine.Steps.{IsRest, rest_of}
use Rattle.rst_block_state.specs.Texts.{joined, lines_in, texted}
use Rattle.rst_block_state.specs.Titles.{Item, plain}
use Rattle.rst_block_state.specs.Within.{Within, indented_part}
use Rattle.rst_block_state.specs.declared.open_block.OpenBlock.{OpenBlock}
use Rattle.rst_block_state.specs.declared.waits.Waits.TheVariants.{Quote}
use Rattle.rst_block_state.specs.declared.step.Step.TheVariants.{Open}
use Rattle.rst_block_state.proofs.Blocks.{rest_block}
use Rattle.rst_block_state.proofs.Changes.{done_more, reads_from_is, moved_reads_from, more_is_read}
use Rattle.rst_block_state.proofs.NextConstructs.{next_of, span_to, HasEnded, next_alone}
use Rattle.rst_block_state.proofs.NumberedLemmas.{same_after, after_after, before_before, before_then, at_number}
use Rattle.rst_block_state.proofs.QuoteCounts.{attribution_within, quotes_enough, quotes_same}

-- the first of some quotes, and the others
quotes_first : (c : Within) (m : ℕ) (Q : Block) (n : ℕ) → 1 ≤ length Q → length Q ≤ m → quotes c m Q n ≡ quotes_by c (quotes c m) Q (first_attribution Q) n
quotes_first c m [] n some h = absurd (omega (arith, some))
quotes_first c zero (l ∷ ls) n some h = absurd (omega (arith, h))
quotes_first c (suc m) (l ∷ ls) n some h =
    quotes_same c (quotes c m) (quotes c (suc m)) (l ∷ ls) n (first_attribution (l ∷ ls)) refl
    (λ a others k. quotes_enough c m (suc m) (quote_after (l ∷ ls) a) k (omega (arith, h, others)) (omega (arith, h, others)))

-- a quote without an attribution
pub plain_quote : (old new : OpenBlock) (B : Block) (p : Part) (line n : ℕ) → first_attribution (lines_in B p) ≡ None → 1 ≤ length (lines_in B p) → length (lines_in B p) ≤ p.to - p.from
    → IsMoved old new → new.at ≡ p.to → line ≡ first_number (lines_in B p)
    → quotes_from old B [] p n ≡ comes new B (Open (Quote line None None p.to) p None) n
plain_quote old new B p line n none some enough m at h =
    let c : Within = within_at old.depth in
    let Q : Block = lines_in B p in
    let E : List Node = ending_notes (alone_ending block_quote) (drop p.to B) in
    let R : List Node → Numbered (List Item) = λ more. reads_from old B (more ++ E) p.to in
    ap (then_read R) (quotes_first c (p.to - p.from) Q n some enough ∙ ap (λ o. quotes_by c (quotes c (p.to - p.from)) Q o n) none)
    ∙ after_after (c.inner Q n) (λ nodes. just (quote_node Q nodes ∷ [])) R
    ∙ same_after (c.inner Q n) (λ nodes. R (quote_node Q nodes ∷ [])) (λ nodes. reads_from new B (quote_by line None nodes ++ E) new.at)
    (λ nodes k.
    at_number k (sym (
    ap (reads_from new B (quote_by line None nodes ++ E)) at ∙ moved_reads_from B (quote_by line None nodes ++ E) p.to m ∙ ap (λ i. reads_from old B (quote_by i None nodes ++ E) p.to) h)))
    ∙ ap (λ d. then_read (λ nodes. reads_from new B (quote_by line None nodes ++ E) new.at) ((within_at d).inner Q n)) (sym m.depth)

-- ---- a quote with an attribution

-- what is left of a part after its first lines keeps their indentation cut
left_of : Part → ℕ → Part
left_of p next = record { from = p.from + next; to = p.to; first_cut = p.rest_cut; rest_cut = p.rest_cut }

left_lines : (B : Block) (p : Part) (next : ℕ) → next ≤ p.to - p.from → 1 ≤ next → drop next (lines_in B p) ≡ lines_in B (left_of p next)
unfolding left_of
left_lines B p next h some =
    drop-cut B p.from p.to p.first_cut p.rest_cut next h
    ∙ ap (λ b. cut B (p.from + next) p.to (cond b p.first_cut p.rest_cut) p.rest_cut) (ne_eqb next 0 (λ e. omega (arith, e, some)))

-- further quotes of what is left of a part, after the nodes of the first
further_quotes : (old new : OpenBlock) (B : Block) (p : Part) (next : ℕ) (earlier : List Node) (j : ℕ) → next ≤ p.to - p.from → 1 ≤ next → p.to ≤ length B
    → IsMoved old new → new.at ≡ p.from + next
    → then_read (λ more. reads_from old B ((earlier ++ more) ++ ending_notes (alone_ending block_quote) (drop p.to B)) p.to) (quotes (within_at old.depth) (p.to - p.from) (drop next (lines_in B p)) j)
    ≡ after_quote new B earlier (rest_of p next) p.to j
unfolding left_of
further_quotes old new B p next earlier j h some within m at =
    let c : Within = within_at old.depth in
    let E : List Node = ending_notes (alone_ending block_quote) (drop p.to B) in
    let R : List Node → Numbered (List Item) = λ more. reads_from old B ((earlier ++ more) ++ E) p.to in
    let N : ℕ = p.to - p.from in
    let M : ℕ = p.to - (p.from + next) in
    let X : Block = lines_in B (left_of p next) in
    let length_X : length X ≡ M = length-cut B (p.from + next) p.to p.rest_cut p.rest_cut within in
    let length_Q : length (lines_in B p) ≡ N = length-cut B p.from p.to p.first_cut p.rest_cut within in
    elim (cases_lt (p.from + next) p.to) [
      | inl below ↦
          ap (λ Q. then_read R (quotes c N Q j)) (left_lines B p next h some)
          ∙ ap (then_read R) (quotes_enough c N M X j (omega (arith, length_X)) (omega (arith, length_X)))
          ∙ same_after (quotes c M X j) R (λ more. reads_from new B (earlier ++ more ++ E) p.to)
          (λ more i. at_number i (sym (moved_reads_from B (earlier ++ more ++ E) p.to m)))
          ∙ ap (λ d. then_read (λ more. reads_from new B (earlier ++ more ++ E) p.to) (quotes (within_at d) M X j)) (sym m.depth)
          ∙ ap (λ (b : Bool). after_quote new B earlier (if b then Some (left_of p next) else None) p.to j) (sym (lt-ltb (p.from + next) p.to below))
      | inr over ↦
          let all : length (lines_in B p) ≤ next = omega (arith, length_Q, over) in
          let stop : p.to ≡ p.from + next = omega (arith, h, some, over) in
          ap (λ Q. then_read R (quotes c N Q j)) (drop_all next (lines_in B p) all)
          ∙ ap (then_read R) (quotes_enough c N 0 [] j (omega arith) (omega arith))
          ∙ at_number j
          (ap (λ ns. reads_from old B (ns ++ E) p.to) (append-nil earlier)
          ∙ sym (moved_reads_from B (earlier ++ E) p.to m)
          ∙ ap (reads_from new B (earlier ++ E)) (stop ∙ sym at))
          ∙ ap (λ (b : Bool). after_quote new B earlier (if b then Some (left_of p next) else None) p.to j) (sym (le-ltb (p.from + next) p.to over))
    ]

-- a quote with an attribution, and further quotes
pub attributed_quote : (old new : OpenBlock) (B : Block) (p : Part) (k next line n m : ℕ) (box : Box Texted Global) → IsAttributed (lines_in B p) k next (box_value box) n m
    → p.to ≤ length B → IsMoved old new → new.at ≡ p.from + next → line ≡ first_number (lines_in B p)
    → quotes_from old B [] p n ≡ comes new B (Open (Quote line (Some box) (rest_of p next) p.to) (first_lines_of p k) None) m
attributed_quote old new B p k next line n m box t within moved at number =
    let c : Within = within_at old.depth in
    let Q : Block = lines_in B p in
    let N : ℕ = p.to - p.from in
    let E : List Node = ending_notes (alone_ending block_quote) (drop p.to B) in
    let a : Attribution = t.attribution in
    let made : Texted = box_value box in
    let R : List Node → Numbered (List Item) = λ more. reads_from old B (more ++ E) p.to in
    let G : List Node → Numbered (List Node) = λ nodes. quotes c N (quote_after Q a) >>= λ more. just (quote_node Q (nodes ++ made.element ∷ []) ∷ made.notes.items ++ more) in
    let F : List Node → Numbered (List Item) = λ nodes. after_quote new B (quote_by line (Some made) nodes) (rest_of p next) p.to in
    let length_Q : length Q ≡ N = length-cut B p.from p.to p.first_cut p.rest_cut within in
    let inside = attribution_within Q k a t.first in
    let some : 1 ≤ next = omega (arith, inside.0, t.after_blanks) in
    let h : next ≤ N = omega (arith, inside.1, t.after_blanks, while_le Blank (drop a.end Q), length-drop a.end Q, length_Q) in
    ap (then_read R)
    (quotes_first c N Q n (omega (arith, length_Q, some, h)) (omega (arith, length_Q))
    ∙ ap (λ o. quotes_by c (quotes c N) Q o n) t.first
    ∙ ap (then_read (λ (read : Node × List Node). c.inner (take k Q) >>= λ nodes. quotes c N (quote_after Q a) >>= λ more. just (quote_node Q (nodes ++ read.0 ∷ []) ∷ read.1 ++ more))) t.read)
    ∙ after_after (c.inner (take k Q) m) G R
    ∙ same_after (c.inner (take k Q) m) (λ nodes. G nodes >>= R) F
    (λ nodes j.
    let earlier : ℕ → List Node = λ i. element_of BlockQuote [] (nodes ++ made.element ∷ []) i ∷ made.notes.items in
    after_after (quotes c N (quote_after Q a) j) (λ more. just (earlier (first_number Q) ++ more)) R
    ∙ ap (λ X. then_read (λ more. reads_from old B ((earlier (first_number Q) ++ more) ++ E) p.to) (quotes c N X j))
    (drop-drop (lines_while Blank (drop a.end Q)) a.end Q ∙ ap (λ i. drop i Q) (sym t.after_blanks))
    ∙ further_quotes old new B p next (earlier (first_number Q)) j h some within moved at
    ∙ ap (λ i. after_quote new B (earlier i) (rest_of p next) p.to j) (sym number))
    ∙ ap (λ X. then_read F (c.inner X m)) (take-cut B p.from p.to p.first_cut p.rest_cut k (omega (arith, inside.0, inside.1, length_Q)))
    ∙ ap (λ d. then_read F ((within_at d).inner (lines_in B (first_lines_of p k)) m)) (sym moved.depth)

-- ---- parts as they are read

-- a part of a block has the number of its first line
part_number : (f r n : ℕ) (X : Block) → 1 ≤ n → first_number (shorten_all f r (take n X)) ≡ first_number X
part_number f r zero X h = absurd (omega (arith, h))
part_number f r (suc n) [] h = refl
part_number f r (suc n) (l ∷ ls) h = refl

-- L are the lines of a part in which no attribution was found
pub plain_part : (old new : OpenBlock) (B : Block) (p : Part) (line n : ℕ) (L : Block) → L ≡ lines_in B p → None ≡ first_attribution L → length L ≡ p.to - p.from → p.from < p.to
    → IsMoved old new → new.at ≡ p.to → line ≡ first_number (drop p.from B)
    → comes new B (Open (Quote line None None p.to) p None) n ≡ quotes_from old B [] p n
plain_part old new B p line n L is none size filled m at h =
    let count : length (lines_in B p) ≡ p.to - p.from = ap length (sym is) ∙ size in
    sym (plain_quote old new B p line n (ap first_attribution (sym is) ∙ sym none) (omega (arith, count, filled)) (omega (arith, count)) m at
    (h ∙ sym (part_number p.first_cut p.rest_cut (p.to - p.from) (drop p.from B) (omega (arith, filled)))))

-- L are the lines of a part in which an attribution was found, whose text was read
pub attributed_part : (old new : OpenBlock) (B : Block) (p : Part) (k next line n m : ℕ) (a : Attribution) (made : Texted) (box : Box Texted Global) (L : Block) → L ≡ lines_in B p
    → Some (k, a) ≡ first_attribution L → next ≡ a.end + lines_while Blank (drop a.end L)
    → texted (first_parts (drop k L)) AttributionTag (first_number (drop k L)) (joined (lines_in L (attribution_part k a))) (first_number (drop k L)) n ≡ Ok ((made.element, made.notes.items), m)
    → box_value box ≡ made → p.from < p.to → p.to ≤ length B
    → IsMoved old new → new.at ≡ p.from + next → line ≡ first_number (drop p.from B)
    → comes new B (Open (Quote line (Some box) (rest_of p next) p.to) (first_lines_of p k) None) m ≡ quotes_from old B [] p n
attributed_part old new B p k next line n m a made box L is first after_blanks read value filled within moved at h =
    let t : IsAttributed L k next made n m = record { attribution = a; first = sym first; after_blanks = after_blanks; read = read } in
    let u : IsAttributed (lines_in B p) k next (box_value box) n m =
    subst (λ Q. IsAttributed Q k next (box_value box) n m) is (subst (λ x. IsAttributed L k next x n m) (sym value) t) in
    sym (attributed_quote old new B p k next line n m box u within moved at
    (h ∙ sym (part_number p.first_cut p.rest_cut (p.to - p.from) (drop p.from B) (omega (arith, filled)))))

-- ---- quotes after more nodes

-- nodes that a block has already come before those that it is to get
reads_after : {old new : OpenBlock} {earlier : List Node} (B : Block) (more : List Node) (at : ℕ) → HasMore old new earlier → reads_from new B more at ≡ reads_from old B (earlier ++ more) at
reads_after {old} {new} {earlier} B more at m =
    let done : done_of new ++ map plain more ≡ done_of old ++ map plain (earlier ++ more) =
    ap (λ items. items ++ map plain more) (done_more m)
    ∙ append_assoc (done_of old) (map plain earlier) (map plain more)
    ∙ ap (λ items. done_of old ++ items) (sym (map-append plain earlier more)) in
    reads_from_is new B more at done m.depth (ap open_run_of m.run)

-- what comes after a quote is the same once its nodes are among those of the block
pub after_more : (old new : OpenBlock) (B : Block) (earlier : List Node) (left : Option Part) (end n : ℕ) → HasMore old new earlier
    → after_quote new B [] left end n ≡ after_quote old B earlier left end n
after_more old new B earlier None end n m =
    let E : List Node = ending_notes (alone_ending block_quote) (drop end B) in
    at_number n (ap (reads_from new B E) m.at ∙ reads_after B E old.at m)
after_more old new B earlier (Some p) end n m =
    let E : List Node = ending_notes (alone_ending block_quote) (drop p.to B) in
    let N : ℕ = p.to - p.from in
    ap (λ d. then_read (λ more. reads_from new B (more ++ E) p.to) (quotes (within_at d) N (lines_in B p) n)) m.depth
    ∙ same_after (quotes (within_at old.depth) N (lines_in B p) n) (λ more. reads_from new B (more ++ E) p.to) (λ more. reads_from old B (earlier ++ more ++ E) p.to)
    (λ more j. at_number j (reads_after B (more ++ E) p.to m ∙ ap (λ ns. reads_from old B ns p.to) (sym (append_assoc earlier more E))))

-- where no blank line follows the last quote, the WARNING comes next
pub quote_ends : {old new : OpenBlock} {left : Option Part} (B : Block) (end n : ℕ) {m : ℕ} → left ≡ None → m ≡ n
    → HasMore old new (ending_notes (alone_ending block_quote) (drop end B)) → reads new B m ≡ after_quote old B [] left end n
quote_ends {old} {new} B end n none same h = ap (reads new B) same ∙ at_number n (more_is_read B h) ∙ ap (λ o. after_quote old B [] o end n) (sym none)

-- what is left of a quote may come next in a block that goes on no later
pub rest_follows : (B : Block) (quote : Part) (next at : ℕ) → IsBlock B quote → at ≤ quote.from + next → IsRest B at (rest_of quote next)
rest_follows B quote next at b h = elim (cases_lt (quote.from + next) quote.to) [
  | inl below ↦ rw (lt-ltb (quote.from + next) quote.to below) ((rest_block B quote next b below, below, h))
  | inr above ↦ rw (le-ltb (quote.from + next) quote.to above) tt
]

-- ---- where a quote begins

-- where a quote begins the block gives the quotes of the indented lines, once the open run has ended
pub quote_reads : {old mid : OpenBlock} {B : Block} {n m : ℕ} → old.at ≤ length B → IsBegun (drop old.at B) Begins.Quote → HasEnded old mid B n m
    → reads old B n ≡ quotes_from mid B [] (indented_part old.at (drop old.at B)) m
quote_reads {old} {mid} {B} {n} {m} inside b e =
    let c : Within = within_at old.depth in
    let X : Block = drop old.at B in
    let p : Part = indented_part old.at X in
    let f : Found = found_as block_quote (span_to old.at (old.at + extent 1 X)) in
    let Q : Block = lines_in B p in
    let N : ℕ = p.to - p.from in
    let E : List Node = ending_notes (alone_ending block_quote) (drop p.to B) in
    let rows : Numbered (List Item) = rest c B p.to no_run in
    let length_Q : length Q ≡ N = length-cut B p.from p.to p.first_cut p.rest_cut (omega (arith, extent_le 1 X, length-drop old.at B, inside)) in
    next_alone (next_of Begins.Quote old B b tt) tt e
    ∙ before_then (done_of mid) (piece_of c B f) (λ items. before (items ++ map plain E) rows) m
    ∙ after_after (quotes c (length Q) Q m) (λ nodes. just (map plain nodes)) (λ items. before (done_of mid) (before (items ++ map plain E) rows))
    ∙ same_after (quotes c (length Q) Q m) (λ nodes. before (done_of mid) (before (map plain nodes ++ map plain E) rows)) (λ nodes. before (done_of mid ++ map plain (nodes ++ E)) rows)
    (λ nodes j.
    before_before (done_of mid) (map plain nodes ++ map plain E) rows j
    ∙ ap (λ items. before (done_of mid ++ items) rows j) (sym (map-append plain nodes E)))
    ∙ ap (then_read (λ nodes. before (done_of mid ++ map plain (nodes ++ E)) rows)) (quotes_enough c (length Q) N Q m (omega arith) (omega (arith, length_Q)))
    ∙ ap (λ o. then_read (λ nodes. before (done_of mid ++ map plain (nodes ++ E)) (rest c B p.to o)) (quotes c N Q m)) (sym e.closed.run)
    ∙ ap (λ d. then_read (λ nodes. before (done_of mid ++ map plain (nodes ++ E)) (rest (within_at d) B p.to (open_run_of mid.run))) (quotes (within_at d) N Q m)) (sym e.closed.depth)

-- a quote with its attribution, as it is put together, and the messages on that
pub quote_made : (line : ℕ) (nodes all : List Node) (attribution : Option (Box Texted Global)) (boxed : Box Texted Global) (made : Texted) (attrs : List Attr) (element quote : Node) → attribution ≡ Some boxed → made ≡ box_value boxed
    → attrs ≡ [] → element ≡ made.element → all ≡ nodes ++ element ∷ [] → quote ≡ element_of BlockQuote attrs all line → quote ∷ made.notes.items ≡ quote_by line (option_map box_value attribution) nodes
quote_made line nodes all attribution boxed made attrs element quote is value bare own whole quote_is = rw (is, quote_is, whole, own, bare, value) refl
