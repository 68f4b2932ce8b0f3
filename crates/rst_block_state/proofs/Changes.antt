-- Changes of the block that is read: one after the other, and what the block means after them.
use Rattle.std.proofs.Common.{◌≡◌, ℕ, List, [], ◌∷◌, ◌++◌, map, Result, refl, sym, ◌∙◌, ap, append_assoc}
use Rattle.std.proofs.lemmas.List.{map-append}
use Rattle.rst_text.specs.Block.{Block}
use Rattle.rst_tree.specs.declared.node.Node.{Node}
use Rattle.rst_block_nodes.specs.Sections.{items_of, title_of}
use Rattle.rst_block_nodes.specs.declared.heading.Heading.{Heading}
use Rattle.rst_block_state.specs.machine.Meanings.{open_run_of, within_at, done_of, reads, reads_from, with_item}
use Rattle.rst_block_state.specs.Numbered.{before}
use Rattle.rst_block_state.specs.machine.OpenBlocks.{IsMoved, HasRun, HasMoreAt, HasMore, IsClosed, HasItemIn, HasItem, HasTitle}
use Rattle.rst_block_state.specs.machine.Rest.{OpenRun, open_list, rest}
use Rattle.rst_block_state.specs.Titles.{Item, plain, titled}
use Rattle.rst_block_state.specs.declared.open_block.OpenBlock.{OpenBlock}

-- ---- one after the other

-- the same nodes and the same place
pub more_as : {old new : OpenBlock} {some more : List Node} {i j : ℕ} → some ≡ more → i ≡ j → HasMoreAt old new some i → HasMoreAt old new more j
more_as {old} e f h = record { depth = h.depth; at = h.at ∙ f; nodes = h.nodes ∙ ap (λ more. old.nodes ++ more) e; headings = h.headings; run = h.run }

-- more nodes come after those that came, and the block goes on at the place of the second change
pub more_then : {old mid new : OpenBlock} {some more : List Node} {i j : ℕ} → HasMoreAt old mid some i → HasMoreAt mid new more j → HasMoreAt old new (some ++ more) j
more_then {old} {mid} {new} {some} {more} h k = record {
  depth = k.depth ∙ h.depth;
  at = k.at;
  nodes = k.nodes ∙ ap (λ ns. ns ++ more) h.nodes ∙ append_assoc old.nodes some more;
  headings = k.headings ∙ h.headings;
  run = k.run ∙ h.run;
}

-- the same, where the second change leaves the place as it is
pub more_more : {old mid new : OpenBlock} {some more : List Node} {at : ℕ} → HasMoreAt old mid some at → HasMore mid new more → HasMoreAt old new (some ++ more) at
more_more h k = more_as refl h.at (more_then h k)

-- the block moves to a place, and then gets nodes
pub moved_more : {old mid new : OpenBlock} {more : List Node} {at : ℕ} → IsMoved old mid → mid.at ≡ at → HasMore mid new more → HasMoreAt old new more at
moved_more {more = more} m e h = record {
  depth = h.depth ∙ m.depth;
  at = h.at ∙ e;
  nodes = h.nodes ∙ ap (λ ns. ns ++ more) m.nodes;
  headings = h.headings ∙ m.headings;
  run = h.run ∙ m.run;
}

-- the block gets nodes, and then moves to a place
pub more_moved : {old mid new : OpenBlock} {more : List Node} {i j : ℕ} → HasMoreAt old mid more i → IsMoved mid new → new.at ≡ j → HasMoreAt old new more j
more_moved h m e = record { depth = m.depth ∙ h.depth; at = e; nodes = m.nodes ∙ h.nodes; headings = m.headings ∙ h.headings; run = m.run ∙ h.run }

-- the open run changes twice
pub run_then : {old mid new : OpenBlock} {o p : OpenRun} → HasRun old mid o → HasRun mid new p → HasRun old new p
run_then h k = record { depth = k.depth ∙ h.depth; at = k.at ∙ h.at; nodes = k.nodes ∙ h.nodes; headings = k.headings ∙ h.headings; run = k.run }

-- the open run ends, and then another is open
pub closed_then : {read : Result (List Item × ℕ) ℕ} {old mid new : OpenBlock} {next : ℕ} {o p : OpenRun} → IsClosed read old mid next o → HasRun mid new p → IsClosed read old new next p
closed_then h k = record {
  more = h.more;
  given = h.given;
  depth = k.depth ∙ h.depth;
  at = k.at ∙ h.at;
  nodes = k.nodes ∙ h.nodes;
  headings = k.headings ∙ h.headings;
  run = k.run;
}

-- ---- the items of a block so far

-- where there are no nodes and no titles there is no item
pub begun_is : (nodes : List Node) (hs : List Heading) → nodes ≡ [] → hs ≡ [] → items_of hs nodes ≡ []
unfolding items_of
begun_is nodes hs e f = ap (items_of hs) e ∙ ap (λ hs. items_of hs []) f

items_push : (hs : List Heading) (nodes more : List Node) → items_of hs (nodes ++ more) ≡ items_of hs nodes ++ map plain more
unfolding items_of
items_push [] nodes more = map-append plain nodes more
items_push (h ∷ hs) nodes more =
    ap (λ others. map plain h.nodes ++ titled (title_of h) ∷ others) (items_push hs nodes more)
    ∙ sym (append_assoc (map plain h.nodes) (titled (title_of h) ∷ items_of hs nodes) (map plain more))

title_push : (hs : List Heading) (h : Heading) → items_of (hs ++ h ∷ []) [] ≡ items_of hs h.nodes ++ titled (title_of h) ∷ []
unfolding items_of
title_push [] h = refl
title_push (g ∷ gs) h =
    ap (λ others. map plain g.nodes ++ titled (title_of g) ∷ others) (title_push gs h)
    ∙ sym (append_assoc (map plain g.nodes) (titled (title_of g) ∷ items_of gs h.nodes) (titled (title_of h) ∷ []))

done_pushed : (old new : OpenBlock) (more : List Node) → new.nodes ≡ old.nodes ++ more → new.headings.items ≡ old.headings.items → done_of new ≡ done_of old ++ map plain more
done_pushed old new more n h = ap (items_of new.headings.items) n ∙ ap (λ hs. items_of hs (old.nodes ++ more)) h ∙ items_push old.headings.items old.nodes more

pub done_same : (old new : OpenBlock) → new.nodes ≡ old.nodes → new.headings.items ≡ old.headings.items → done_of new ≡ done_of old
done_same old new n h = ap (items_of new.headings.items) n ∙ ap (λ hs. items_of hs old.nodes) h

pub done_moved : {old new : OpenBlock} → IsMoved old new → done_of new ≡ done_of old
done_moved {old} {new} m = done_same old new m.nodes m.headings

pub done_more : {old new : OpenBlock} {more : List Node} {at : ℕ} → HasMoreAt old new more at → done_of new ≡ done_of old ++ map plain more
done_more {old} {new} {more} m = done_pushed old new more m.nodes m.headings

pub done_closed : {read : Result (List Item × ℕ) ℕ} {old new : OpenBlock} {next : ℕ} {o : OpenRun} (h : IsClosed read old new next o) → done_of new ≡ done_of old ++ map plain h.more
done_closed {old = old} {new = new} h = done_pushed old new h.more h.nodes h.headings

pub done_title : {old new : OpenBlock} {heading : Heading} → HasTitle old new heading → done_of new ≡ done_of old ++ titled (title_of heading) ∷ []
done_title {old} {new} {heading} m =
    ap (items_of new.headings.items) m.nodes ∙ ap (λ hs. items_of hs []) m.headings ∙ title_push old.headings.items (record heading { nodes = old.nodes })

-- a block is as deep after an item
item_depth_in : (o : OpenRun) (old new : OpenBlock) (item : Node) → HasItemIn o old new item → new.depth ≡ old.depth
item_depth_in (open_list l) old new item h = h.depth
item_depth_in _ old new item h = h.depth

pub item_depth : (old new : OpenBlock) (item : Node) → HasItem old new item → new.depth ≡ old.depth
item_depth old new item h = item_depth_in (open_run_of old.run) old new item h

-- ---- what the block gives

-- a block with these items so far, which is read from a place on, and whose open run is this
pub reads_is : (new : OpenBlock) (B : Block) {done : List Item} {depth at : ℕ} {o : OpenRun} → done_of new ≡ done → new.depth ≡ depth → new.at ≡ at → open_run_of new.run ≡ o
    → reads new B ≡ before done (rest (within_at depth) B at o)
reads_is new B {done} {depth} {at} {o} d e a r =
    ap (λ items. before items (rest (within_at new.depth) B new.at (open_run_of new.run))) d
    ∙ ap (λ k. before done (rest (within_at k) B new.at (open_run_of new.run))) e
    ∙ ap (λ i. before done (rest (within_at depth) B i (open_run_of new.run))) a
    ∙ ap (λ p. before done (rest (within_at depth) B at p)) r

-- the same with more nodes, from another place on
pub reads_from_is : (new : OpenBlock) (B : Block) (more : List Node) (at : ℕ) {done : List Item} {depth : ℕ} {o : OpenRun} → done_of new ++ map plain more ≡ done → new.depth ≡ depth → open_run_of new.run ≡ o
    → reads_from new B more at ≡ before done (rest (within_at depth) B at o)
reads_from_is new B more at {done} {depth} {o} d e r =
    ap (λ items. before items (rest (within_at new.depth) B at (open_run_of new.run))) d
    ∙ ap (λ k. before done (rest (within_at k) B at (open_run_of new.run))) e
    ∙ ap (λ p. before done (rest (within_at depth) B at p)) r

-- what the block gives from a place on depends on the place where it goes on no more
pub moved_reads_from : {old new : OpenBlock} (B : Block) (more : List Node) (at : ℕ) → IsMoved old new → reads_from new B more at ≡ reads_from old B more at
moved_reads_from {old} {new} B more at m = reads_from_is new B more at (ap (λ items. items ++ map plain more) (done_moved m)) m.depth (ap open_run_of m.run)

-- after more nodes the block gives them too
pub more_is_read : {old new : OpenBlock} {more : List Node} {at : ℕ} (B : Block) → HasMoreAt old new more at → reads new B ≡ reads_from old B more at
more_is_read {new = new} B m = reads_is new B (done_more m) m.depth m.at (ap open_run_of m.run)

item_at : (o : OpenRun) (old new : OpenBlock) (B : Block) (item : Node) → open_run_of old.run ≡ o → HasItemIn o old new item → reads new B ≡ with_item old B item o
item_at (open_list l) old new B item e m = reads_is new B (done_same old new m.nodes m.headings) m.depth m.at m.run
item_at _ old new B item e m = reads_is new B (done_more m) m.depth m.at (ap open_run_of m.run ∙ e)

-- after an item the block gives it in its list
pub item_is_read : (old new : OpenBlock) (B : Block) (item : Node) → HasItem old new item → reads new B ≡ with_item old B item (open_run_of old.run)
item_is_read old new B item m = item_at (open_run_of old.run) old new B item refl m
