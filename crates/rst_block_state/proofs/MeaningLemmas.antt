-- The meaning of the machine's state: where blocks begin, wait and end.
use Rattle.std.proofs.Common.{◌≡◌, ℕ, zero, suc, ◌-◌, ◌≤◌, Bool, true, false, List, [], ◌∷◌, ◌++◌, map, None, Err, arith, refl, sym, ◌∙◌, ap, ne_eqb}
use Rattle.std.specs.Prelude.{◌==◌}
use Rattle.rst_text.specs.Block.{Block}
use Rattle.rst_text.specs.ViewBlock.{placement_block}
use Rattle.rst_tree.specs.declared.node.Node.{Node}
use Rattle.rst_tree.specs.declared.tag.Tag.TheVariants.{ListItem}
use Rattle.rst_markup_blocks.specs.declared.part.Part.{Part}
use Rattle.rst_block_nodes.specs.Elements.{element_of}
use Rattle.rst_block_state.specs.Lists.{list_item}
use Rattle.rst_block_state.specs.machine.Meanings.{IsNew, open_run_of, deepest, within_at, done_of, reads, text_items, text_with, with_item, resumed, after, plug, comes}
use Rattle.rst_block_state.specs.Nodes.{below_last_level, block_items, inner_nodes, nodes_among}
use Rattle.rst_block_state.specs.Numbered.{Numbered, then_read, ◌>>=◌, just, before}
use Rattle.rst_block_state.specs.machine.Rest.{ListSoFar, open_list, with_items, rest}
use Rattle.rst_block_state.specs.Texts.{lines_in}
use Rattle.rst_block_state.specs.Titles.{Item, plain}
use Rattle.rst_block_state.specs.Within.{Within}
use Rattle.rst_block_state.specs.declared.frame.Frame.{Frame}
use Rattle.rst_block_state.specs.declared.open_block.OpenBlock.{OpenBlock}
use Rattle.rst_block_state.specs.declared.waits.Waits.{Waits}
use Rattle.rst_block_state.specs.declared.waits.Waits.TheVariants.{ListItem as InItem}
use Rattle.rst_block_state.specs.declared.step.Step.TheVariants.{Begin, Open}
use Rattle.rst_block_state.proofs.RestLemmas.{nodes_among_plain}
use Rattle.rst_block_state.proofs.NumberedLemmas.{same_after, after_after, then_just, before_nil, before_then, at_number}
use Rattle.rst_block_state.proofs.OpenRuns.{rest_is_all}

-- ---- blocks that wait

-- what the innermost of some blocks that wait makes of what is read, the others go on with
plug_push : (S : Block) (fs : List Frame) (f : Frame) (read : Numbered (List Item))
    → plug S (fs ++ f ∷ []) read ≡ plug S fs (read >>= λ items. after f.level (placement_block S f.placement) f.waits f.second f.nodes (nodes_among items))
unfolding plug
plug_push S [] f read = refl
plug_push S (g ∷ fs) f read =
    ap (λ (r : Numbered (List Item)). r >>= λ items. after g.level (placement_block S g.placement) g.waits g.second g.nodes (nodes_among items)) (plug_push S fs f read)

pub plug_none : (S : Block) (read : Numbered (List Item)) → plug S [] read ≡ read
unfolding plug
plug_none S read = refl

-- the same in what is read is the same in what the blocks give that wait, whatever the numbers of messages
pub plug_same : (S : Block) (fs : List Frame) (r s : Numbered (List Item)) (m n : ℕ) → r m ≡ s n → plug S fs r m ≡ plug S fs s n
unfolding plug
plug_same S [] r s m n h = h
plug_same S (f ∷ fs) r s m n h =
    ap (then_read (λ items. after f.level (placement_block S f.placement) f.waits f.second f.nodes (nodes_among items))) (plug_same S fs r s m n h)

-- what is nested too deeply in what is read is so in all
pub plug_refused : (S : Block) (fs : List Frame) (r : Numbered (List Item)) (n line : ℕ) → r n ≡ Err line → plug S fs r n ≡ Err line
unfolding plug
plug_refused S [] r n line h = h
plug_refused S (f ∷ fs) r n line h =
    ap (then_read (λ items. after f.level (placement_block S f.placement) f.waits f.second f.nodes (nodes_among items))) (plug_refused S fs r n line h)

-- ---- a block begins

-- a text that isn't too deep is a block
text_there : (depth : ℕ) (B : Block) (n : ℕ) → depth ≤ deepest → text_items depth B n ≡ block_items (within_at depth) B n
text_there depth B n h =
    let k : suc deepest - depth ≡ suc (deepest - depth) = omega (arith, h) in
    ap (λ levels. text_with levels depth B n) k

pub reads_all : (l : OpenBlock) (B : Block) (n : ℕ) → IsNew l → l.depth ≤ deepest → reads l B n ≡ comes l B Begin n
reads_all l B n new h =
    let c : Within = within_at l.depth in
    ap (λ done. before done (rest c B l.at (open_run_of l.run)) n) new.done
    ∙ before_nil (rest c B l.at (open_run_of l.run)) n
    ∙ ap (λ at. rest c B at (open_run_of l.run) n) new.at
    ∙ ap (λ o. rest c B 0 o n) new.run
    ∙ rest_is_all c B n
    ∙ sym (text_there l.depth B n h)

pub not_zero : (d : ℕ) → (suc d == 0) ≡ false
not_zero d = ne_eqb (suc d) 0 (λ e. omega (arith, e))

abbrev pub within_level : Bool → ℕ → ℕ → Within
within_level titles levels left = record { titles = titles; code = true; levels = levels; inner = inner_nodes true left }

pub within_is : (d : ℕ) → suc d ≤ deepest → within_at (suc d) ≡ within_level false (suc (deepest - suc d)) (deepest - suc d)
within_is d h =
    let e : suc deepest - suc d ≡ suc (deepest - suc d) = omega (arith, h) in
    ap (λ b. within_level b (suc deepest - suc d) (deepest - suc d)) (not_zero d) ∙ ap (λ k. within_level false k (deepest - suc d)) e

pub inner_is : (k : ℕ) (B : Block) (n : ℕ) → inner_nodes true (suc k) B n ≡ (block_items (within_level false (suc k) k) B >>= λ items. just (nodes_among items)) n
unfolding inner_nodes
inner_is k B n = refl

pub last_level : (code : Bool) (X : Block) → inner_nodes code 0 X ≡ below_last_level X
unfolding inner_nodes
last_level code X = refl

-- the nodes of a text that is inside one block more
text_as : (d k : ℕ) (B : Block) (n : ℕ) → d ≤ deepest → deepest - d ≡ k → (text_with k (suc d) B >>= λ items. just (nodes_among items)) n ≡ inner_nodes true k B n
text_as d zero B n h e =
    after_after (below_last_level B n) (λ nodes. just (map plain nodes)) (λ items. just (nodes_among items))
    ∙ same_after (below_last_level B n) (λ nodes. just (nodes_among (map plain nodes))) just (λ nodes k. ap (λ (ns : List Node). just ns k) (nodes_among_plain nodes))
    ∙ then_just (below_last_level B n)
    ∙ at_number n (sym (last_level true B))
text_as d (suc k) B n h e =
    let j : deepest - suc d ≡ k = omega (arith, e) in
    ap (λ c. (block_items c B >>= λ items. just (nodes_among items)) n) (within_is d (omega (arith, e)))
    ∙ sym (inner_is (deepest - suc d) B n)
    ∙ ap (λ left. inner_nodes true (suc left) B n) j

pub text_inside : (d : ℕ) (B : Block) (n : ℕ) → d ≤ deepest → (text_items (suc d) B >>= λ items. just (nodes_among items)) n ≡ (within_at d).inner B n
text_inside d B n h =
    let k : suc deepest - suc d ≡ deepest - d = omega arith in
    ap (λ levels. (text_with levels (suc d) B >>= λ items. just (nodes_among items)) n) k ∙ text_as d (deepest - d) B n h refl

-- a part of the lines of a block that waits is read from its begin
pub part_means : (S : Block) (fs : List Frame) (f : Frame) (l : OpenBlock) (X : Block) (n : ℕ) → f.level.depth ≤ deepest → l.depth ≡ suc f.level.depth
    → plug S (fs ++ f ∷ []) (comes l X Begin) n
    ≡ plug S fs ((within_at f.level.depth).inner X >>= λ ns. after f.level (placement_block S f.placement) f.waits f.second f.nodes ns) n
part_means S fs f l X n h e =
    let K : List Node → Numbered (List Item) = λ ns. after f.level (placement_block S f.placement) f.waits f.second f.nodes ns in
    at_number n (plug_push S fs f (text_items l.depth X))
    ∙ plug_same S fs (text_items l.depth X >>= λ items. K (nodes_among items)) ((within_at f.level.depth).inner X >>= K) n n
    (sym (after_after (text_items l.depth X n) (λ items. just (nodes_among items)) K)
    ∙ ap (λ depth. then_read K ((text_items depth X >>= λ items. just (nodes_among items)) n)) e
    ∙ ap (then_read K) (text_inside f.level.depth X n h))

-- ---- a block ends

pub done_means : (S : Block) (fs : List Frame) (f : Frame) (items : List Item) (n : ℕ)
    → plug S (fs ++ f ∷ []) (just items) n ≡ plug S fs (after f.level (placement_block S f.placement) f.waits f.second f.nodes (nodes_among items)) n
done_means S fs f items n =
    at_number n (plug_push S fs f (just items))
    ∙ plug_same S fs (just items >>= λ items. after f.level (placement_block S f.placement) f.waits f.second f.nodes (nodes_among items))
    (after f.level (placement_block S f.placement) f.waits f.second f.nodes (nodes_among items)) n n refl

-- ---- items of lists

-- a block whose list waits for the nodes of an item that becomes this node
pub waiting_means : (l : OpenBlock) (B : Block) (w : Waits) (E : List Node → Node) (part : Part) (r : ListSoFar) (n : ℕ) → open_run_of l.run ≡ open_list r
    → ((ns : List Node) → resumed l B w ns ≡ with_item l B (E ns) (open_run_of l.run))
    → comes l B (Open w part None) n
    ≡ before (done_of l) (((within_at l.depth).inner (lines_in B part) >>= λ ns. just (E ns ∷ [])) >>= λ ns. rest (within_at l.depth) B l.at (with_items ns (open_list r))) n
waiting_means l B w E part r n h waits =
    let c : Within = within_at l.depth in
    let R : List Node → Numbered (List Item) = λ ns. rest c B l.at (with_items ns (open_list r)) in
    same_after (c.inner (lines_in B part) n) (λ ns. resumed l B w ns) (λ ns. with_item l B (E ns) (open_run_of l.run)) (λ ns k. at_number k (waits ns))
    ∙ ap (λ o. then_read (λ ns. with_item l B (E ns) o) (c.inner (lines_in B part) n)) h
    ∙ sym (
    before_then (done_of l) (c.inner (lines_in B part) >>= λ ns. just (E ns ∷ [])) R n
    ∙ after_after (c.inner (lines_in B part) n) (λ ns. just (E ns ∷ [])) (λ ns. before (done_of l) (R ns)))

-- that of a bullet list or of an enumerated list
pub item_means : (l : OpenBlock) (B : Block) (line : ℕ) (part : Part) (r : ListSoFar) (n : ℕ) → open_run_of l.run ≡ open_list r
    → comes l B (Open (InItem line) part None) n
    ≡ before (done_of l) (list_item (within_at l.depth) B line part >>= λ ns. rest (within_at l.depth) B l.at (with_items ns (open_list r))) n
item_means l B line part r n h = waiting_means l B (InItem line) (λ ns. element_of ListItem [] ns line) part r n h (λ ns. refl)
