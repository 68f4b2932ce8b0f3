-- A block inside one that waits has ended: the next part is read for the one that waits, or it goes on with the nodes of the one inside.
use Rattle.std.proofs.Common.{◌≡◌, ℕ, suc, ◌<◌, ◌≤◌, List, [], ◌∷◌, ◌++◌, Option, Some, None, Result, Err, arith, sym, ◌∙◌, ap}
use Rattle.rst_text.specs.Block.{Block}
use Rattle.rst_text.specs.ViewBlock.{block_of, placement_block}
use Rattle.rst_text.specs.declared.view.View.{View}
use Rattle.rst_tree.specs.declared.node.Node.{Node}
use Rattle.rst_markup_blocks.specs.declared.part.Part.{Part}
use Rattle.rst_block_nodes.specs.Sections.{items_of}
use Rattle.rst_block_state.specs.machine.Frames.{ended_as}
use Rattle.rst_block_state.specs.machine.Meanings.{Keeps, after, comes, deepest, done_of, open_run_of, plug, reads, reads_from, resumed, with_item, within_at}
use Rattle.rst_block_state.specs.Nodes.{nodes_among}
use Rattle.rst_block_state.specs.Numbered.{Numbered, ◌>>=◌, just}
use Rattle.rst_block_state.specs.machine.OpenBlocks.{HasMore, HasItem}
use Rattle.rst_block_state.specs.Texts.{lines_in}
use Rattle.rst_block_state.specs.Titles.{Item}
use Rattle.rst_block_nodes.specs.declared.fault.BlockFault.{BlockFault}
use Rattle.rst_block_nodes.specs.declared.fault.BlockFault.TheVariants.{TooDeep, NoMemory}
use Rattle.rst_block_state.specs.declared.frame.Ended.TheVariants.{Waiting, GoesOn}
use Rattle.rst_block_state.specs.declared.frame.Frame.{Frame}
use Rattle.rst_block_state.specs.declared.open_block.OpenBlock.{OpenBlock}
use Rattle.rst_block_state.specs.declared.waits.Waits.{Waits}
use Rattle.rst_block_state.specs.declared.step.Step.{Step}
use Rattle.rst_block_state.specs.declared.step.Step.TheVariants.{Begin, Open}
use Rattle.rst_block_state.specs.declared.texts.Pass.{Pass}
use Rattle.rst_block.specs.Reading.{Continues}
use Rattle.rst_block_state.proofs.Changes.{more_is_read, item_is_read}
use Rattle.rst_block_state.proofs.MeaningLemmas.{part_means, done_means, plug_none, plug_same, plug_refused}
use Rattle.rst_block_state.proofs.NumberedLemmas.{at_number}
use Rattle.rst_block_state.proofs.RestLemmas.{nodes_among_plain}

-- ---- a call that can't go on

pub stops : {B : Block} {old new : OpenBlock} {before after : Pass} {given : Numbered (List Item)} {most least : ℕ} {result : Result Step BlockFault} (fault : BlockFault) → result ≡ Err fault
    → Keeps (Err fault) (λ s. comes new B s after.numbers) (given before.numbers) → Continues B old before given most least new after result
stops fault e h = record { kept = rw e tt; read = rw e h; paid = rw e tt }

-- ---- the nodes of the one inside

-- the nodes of a block that was read inside another: it has no titles
pub among_done : (l : OpenBlock) → 0 < l.depth → nodes_among (done_of l) ≡ l.nodes
unfolding items_of
among_done l inner = ap (λ hs. nodes_among (items_of hs l.nodes)) (l.untitled inner) ∙ nodes_among_plain l.nodes

-- what a block gives that waits for these lines
abbrev pub waiting_for : OpenBlock → Block → Block → Waits → Option Part → List Node → Numbered (List Item)
waiting_for l B X w second earlier = do
  ns ← (within_at l.depth).inner X
  after l B w second earlier ns

-- the second part is read after the first one
pub second_reads : (S : Block) (f : Frame) (old level : OpenBlock) (p : Part) (X : Block) (nodes : List Node) (n : ℕ) → 0 < old.depth → f.second ≡ Some p → level ≡ f.level
    → X ≡ lines_in (placement_block S f.placement) p → nodes ≡ f.nodes ++ old.nodes
    → waiting_for level (placement_block S f.placement) X f.waits None nodes n
    ≡ after f.level (placement_block S f.placement) f.waits f.second f.nodes (nodes_among (done_of old)) n
second_reads S f old level p X nodes n inner e l x m =
    let B : Block = placement_block S f.placement in
    ap (λ level. waiting_for level B X f.waits None nodes n) l
    ∙ ap (λ Y. waiting_for f.level B Y f.waits None nodes n) x
    ∙ ap (λ (earlier : List Node). waiting_for f.level B (lines_in B p) f.waits None earlier n) (m ∙ ap (λ (ns : List Node). f.nodes ++ ns) (sym (among_done old inner)))
    ∙ ap (λ second. after f.level B f.waits second f.nodes (nodes_among (done_of old)) n) (sym e)

-- the block goes on that waited
pub last_reads : (S : Block) (f : Frame) (old level : OpenBlock) (X : Block) (nodes : List Node) (n : ℕ) → 0 < old.depth → f.second ≡ None → level ≡ f.level
    → X ≡ placement_block S f.placement → nodes ≡ f.nodes ++ old.nodes
    → resumed level X f.waits nodes n ≡ after f.level (placement_block S f.placement) f.waits f.second f.nodes (nodes_among (done_of old)) n
last_reads S f old level X nodes n inner e l x m =
    let B : Block = placement_block S f.placement in
    ap (λ level. resumed level X f.waits nodes n) l
    ∙ ap (λ Y. resumed f.level Y f.waits nodes n) x
    ∙ ap (λ (ns : List Node). resumed f.level B f.waits ns n) (m ∙ ap (λ (ns : List Node). f.nodes ++ ns) (sym (among_done old inner)))
    ∙ ap (λ second. after f.level B f.waits second f.nodes (nodes_among (done_of old)) n) (sym e)

-- ---- what all blocks give that wait

-- the block that is read goes on, so all do
pub plug_goes_on : (S : Block) (fs : List Frame) (r s : Numbered (List Item)) (m n : ℕ) (all : Result (List Item × ℕ) ℕ) → r m ≡ s n → plug S fs s n ≡ all → plug S fs r m ≡ all
plug_goes_on S fs r s m n all h inv = plug_same S fs r s m n h ∙ inv

-- it is refused, so all are
pub plug_fails : {A C : Type 0} (S : Block) (fs : List Frame) (r : Numbered (List Item)) (n : ℕ) (all : Result (List Item × ℕ) ℕ) (e : BlockFault)
    (f : A → Result (List Item × ℕ) ℕ) (g : C → Result (List Item × ℕ) ℕ) → plug S fs r n ≡ all → Keeps (Err e) f (r n) → Keeps (Err e) g all
plug_fails S fs r n all (TooDeep line) f g inv h = sym inv ∙ plug_refused S fs r n line h
plug_fails S fs r n all NoMemory f g inv h = tt

-- the block that is read waits for a part, which is read next
pub plug_opens : (S : Block) (fs : List Frame) (f : Frame) (old l : OpenBlock) (B X : Block) (w : Waits) (first : Part) (second : Option Part) (n : ℕ)
    → f.level ≡ old → placement_block S f.placement ≡ B → f.waits ≡ w → f.second ≡ second → f.nodes ≡ [] → X ≡ lines_in B first
    → l.depth ≡ suc old.depth → old.depth ≤ deepest
    → plug S (fs ++ f ∷ []) (comes l X Begin) n ≡ plug S fs (comes old B (Open w first second)) n
plug_opens S fs f old l B X w first second n a b c d e x i j =
    let depth : f.level.depth ≡ old.depth = ap (λ (o : OpenBlock). o.depth) a in
    part_means S fs f l X n (omega (arith, depth, j)) (i ∙ ap suc (sym depth))
    ∙ ap (λ Y. plug S fs (waiting_for f.level (placement_block S f.placement) Y f.waits f.second f.nodes) n) x
    ∙ ap (λ o. plug S fs (waiting_for o (placement_block S f.placement) (lines_in B first) f.waits f.second f.nodes) n) a
    ∙ ap (λ C. plug S fs (waiting_for old C (lines_in B first) f.waits f.second f.nodes) n) b
    ∙ ap (λ w. plug S fs (waiting_for old B (lines_in B first) w f.second f.nodes) n) c
    ∙ ap (λ second. plug S fs (waiting_for old B (lines_in B first) w second f.nodes) n) d
    ∙ ap (λ (earlier : List Node). plug S fs (waiting_for old B (lines_in B first) w second earlier) n) e

-- a block was read, and the one that waits for it reads another part
pub plug_waits : (S : Block) (fs : List Frame) (f g : Frame) (old l : OpenBlock) (part : View) (m n : ℕ) (all : Result (List Item × ℕ) ℕ)
    → ended_as S l (Waiting g part) m ≡ after f.level (placement_block S f.placement) f.waits f.second f.nodes (nodes_among (done_of old)) n
    → l.depth ≡ suc g.level.depth → g.level.depth ≤ deepest → plug S (fs ++ f ∷ []) (just (done_of old)) n ≡ all
    → plug S (fs ++ g ∷ []) (comes l (block_of part) Begin) m ≡ all
plug_waits S fs f g old l part m n all h d i inv =
    part_means S fs g l (block_of part) m i d
    ∙ plug_same S fs (ended_as S l (Waiting g part)) (after f.level (placement_block S f.placement) f.waits f.second f.nodes (nodes_among (done_of old))) m n h
    ∙ sym (done_means S fs f (done_of old) n)
    ∙ inv

-- or it goes on
pub plug_ends : (S : Block) (fs : List Frame) (f : Frame) (old l : OpenBlock) (view : View) (s : Step) (m n : ℕ) (all : Result (List Item × ℕ) ℕ)
    → ended_as S l (GoesOn view s) m ≡ after f.level (placement_block S f.placement) f.waits f.second f.nodes (nodes_among (done_of old)) n
    → plug S (fs ++ f ∷ []) (just (done_of old)) n ≡ all → plug S fs (comes l (block_of view) s) m ≡ all
plug_ends S fs f old l view s m n all h inv =
    plug_same S fs (comes l (block_of view) s) (after f.level (placement_block S f.placement) f.waits f.second f.nodes (nodes_among (done_of old))) m n h
    ∙ sym (done_means S fs f (done_of old) n)
    ∙ inv

-- or it can't go on
pub plug_end_fails : {A C : Type 0} (S : Block) (fs : List Frame) (f : Frame) (old : OpenBlock) (n : ℕ) (all : Result (List Item × ℕ) ℕ) (e : BlockFault)
    (g : A → Result (List Item × ℕ) ℕ) (k : C → Result (List Item × ℕ) ℕ) → plug S (fs ++ f ∷ []) (just (done_of old)) n ≡ all
    → Keeps (Err e) g (after f.level (placement_block S f.placement) f.waits f.second f.nodes (nodes_among (done_of old)) n) → Keeps (Err e) k all
plug_end_fails S fs f old n all e g k inv h =
    plug_fails S fs (after f.level (placement_block S f.placement) f.waits f.second f.nodes (nodes_among (done_of old))) n all e g k (sym (done_means S fs f (done_of old) n) ∙ inv) h

-- ---- a text begins and ends

-- where no block waits, a text gives what its first block does
pub plug_alone : (S : Block) (fs : List Frame) (read : Numbered (List Item)) (n : ℕ) → fs ≡ [] → plug S fs read n ≡ read n
plug_alone S fs read n e = ap (λ fs. plug S fs read n) e ∙ at_number n (plug_none S read)

-- ---- the nodes that a block gets once one inside it is read

-- more nodes are given next
pub nodes_given : {old new last : OpenBlock} {more wanted : List Node} (B : Block) (n : ℕ) → HasMore old new more → more ≡ wanted → last ≡ new
    → reads last B n ≡ reads_from old B wanted old.at n
nodes_given {old} B n h e is = ap (λ l. reads l B n) is ∙ at_number n (more_is_read B h) ∙ ap (λ ns. reads_from old B ns old.at n) e

-- an item is given in its list
pub item_given : (old new last : OpenBlock) (B : Block) (item wanted : Node) (n : ℕ) → HasItem old new item → item ≡ wanted → last ≡ new
    → reads last B n ≡ with_item old B wanted (open_run_of old.run) n
item_given old new last B item wanted n h e is =
    ap (λ l. reads l B n) is ∙ at_number n (item_is_read old new B item h) ∙ ap (λ node. with_item old B node (open_run_of old.run) n) e
