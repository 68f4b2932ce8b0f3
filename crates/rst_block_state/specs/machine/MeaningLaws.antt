-- Laws on what the state of the machine means: where blocks begin, wait and end.
use Rattle.std.specs.Prelude.{◌≡◌, ℕ, suc, ◌+◌, ◌-◌, ◌<◌, ◌≤◌, length, List, [], ◌∷◌, ◌++◌, drop, Some, None, Result, Ok, Err, Box, box_value}
use Rattle.std.specs.declared.alloc.Global.{Global}
use Rattle.rst_text.specs.Block.{Block, first_number, first_parts}
use Rattle.rst_text.specs.ViewBlock.{placement_block}
use Rattle.rst_tree.specs.declared.node.Node.{Node}
use Rattle.rst_tree.specs.declared.tag.Tag.TheVariants.{Attribution as AttributionTag}
use Rattle.rst_markup_blocks.specs.Attributions.{attribution_part}
use Rattle.rst_markup_blocks.specs.Lines.{lines_while}
use Rattle.rst_markup_blocks.specs.declared.attribution.Attribution.{Attribution}
use Rattle.rst_markup_blocks.specs.declared.lines.LineTest.TheVariants.{Blank}
use Rattle.rst_markup_blocks.specs.declared.part.Part.{Part}
use Rattle.rst_block_nodes.specs.declared.texted.Texted.{Texted}
use Rattle.rst_block_nodes.specs.declared.heading.Heading.{Heading}
use Rattle.rst_block_nodes.specs.Sections.{title_of}
use Rattle.rst_block_state.specs.Lists.{list_item}
use Rattle.rst_block_state.specs.machine.Meanings.{IsNew, open_run_of, deepest, within_at, done_of, reads, reads_from, quotes_from, with_item, after, plug, comes}
use Rattle.rst_block_state.specs.Nodes.{below_last_level, nodes_among}
use Rattle.rst_block_state.specs.Numbered.{◌>>=◌, just, before}
use Rattle.rst_block_state.specs.machine.OpenBlocks.{IsMoved, HasMore, HasItem, HasTitle}
use Rattle.rst_block_state.specs.Quotes.{first_attribution, quotes}
use Rattle.rst_block_state.specs.machine.Rest.{ListSoFar, open_list, with_items, rest}
use Rattle.rst_block_state.specs.machine.Steps.{rest_of}
use Rattle.rst_block_state.specs.Texts.{joined, lines_in, texted}
use Rattle.rst_block_state.specs.Titles.{Item, titled}
use Rattle.rst_block_state.specs.Within.{Within}
use Rattle.rst_block_state.specs.declared.frame.Frame.{Frame}
use Rattle.rst_block_state.specs.declared.open_block.OpenBlock.{OpenBlock}
use Rattle.rst_block_state.specs.declared.waits.Waits.TheVariants.{ListItem, Quote}
use Rattle.rst_block_state.specs.declared.step.Step.TheVariants.{Begin, Open}

-- ---- blocks that wait

-- what is still to come of a block of which nothing was read is all that it gives
abbrev pub NewBlockIsAll : Type 0
NewBlockIsAll = (l : OpenBlock) (B : Block) (number : ℕ) → IsNew l → l.depth ≤ deepest → reads l B number ≡ comes l B Begin number

-- some blocks that wait, and one inside of them that waits for the part X of its lines: it is as if this part were read in a block of its own
abbrev pub PartIsBlock : Type 0
PartIsBlock = (S : Block) (fs : List Frame) (f : Frame) (l : OpenBlock) (X : Block) (number : ℕ) → f.level.depth ≤ deepest
    → l.depth ≡ suc f.level.depth
    → plug S (fs ++ f ∷ []) (comes l X Begin) number
    ≡ plug S fs ((within_at f.level.depth).inner X >>= λ ns.
    after f.level (placement_block S f.placement) f.waits f.second f.nodes ns) number

-- once a block is read, the one that waits for it has its nodes
abbrev pub EndedBlockIsPassed : Type 0
EndedBlockIsPassed = (S : Block) (fs : List Frame) (f : Frame) (items : List Item) (number : ℕ)
    → plug S (fs ++ f ∷ []) (just items) number
    ≡ plug S fs (after f.level (placement_block S f.placement) f.waits f.second f.nodes (nodes_among items)) number

-- The first n lines of a block below the last level are blank: if they are all its lines, it gives nothing, else it is refused at the line after
-- them.
pub record IsRefusedBelow (n : ℕ) (X : Block) (read : Result (List Node × ℕ) ℕ) (number : ℕ) : Type 0 where
  pub blank : n ≡ length X → read ≡ Ok ([], number)
  pub refused : n < length X → read ≡ Err (first_number (drop n X))

-- a block below the last level is refused at its first line that isn't blank
abbrev pub BelowLastLevel : Type 0
BelowLastLevel = (X : Block) (number : ℕ) → IsRefusedBelow (lines_while Blank X) X (below_last_level X number) number

-- the quotes of some lines are the same under each count that isn't less than the number of lines
abbrev pub EnoughQuotes : Type 0
EnoughQuotes = (c : Within) (m n : ℕ) (Q : Block) (number : ℕ) → length Q ≤ m → length Q ≤ n → quotes c m Q number ≡ quotes c n Q number

-- ---- items of lists

-- a block waits for the nodes of an item of its open list
abbrev pub ItemIsRead : Type 0
ItemIsRead = (l : OpenBlock) (B : Block) (line : ℕ) (part : Part) (r : ListSoFar) (number : ℕ) → open_run_of l.run ≡ open_list r
    → comes l B (Open (ListItem line) part None) number
    ≡ before (done_of l) (list_item (within_at l.depth) B line part >>= λ ns.
    rest (within_at l.depth) B l.at (with_items ns (open_list r))) number

-- ---- changes

-- more nodes after the last are given next
abbrev pub NodesAreRead : Type 0
NodesAreRead = (old new : OpenBlock) (B : Block) (more : List Node) → HasMore old new more → reads new B ≡ reads_from old B more old.at

-- an item after the last is given in its list
abbrev pub ItemIsAdded : Type 0
ItemIsAdded = (old new : OpenBlock) (B : Block) (item : Node) → HasItem old new item → reads new B ≡ with_item old B item (open_run_of old.run)

-- a title after the last node is the last item so far
abbrev pub TitleIsLast : Type 0
TitleIsLast = (old new : OpenBlock) (h : Heading) → HasTitle old new h
    → done_of new ≡ done_of old ++ titled (title_of h) ∷ []

-- ---- block quotes

-- a part is read as one quote where no attribution is in it: the block waits for the nodes of all its lines
abbrev pub QuoteIsRead : Type 0
QuoteIsRead = (old new : OpenBlock) (B : Block) (p : Part) (line number : ℕ) → first_attribution (lines_in B p) ≡ None
    → 1 ≤ length (lines_in B p)
    → length (lines_in B p) ≤ p.to - p.from → IsMoved old new → new.at ≡ p.to → line ≡ first_number (lines_in B p)
    → quotes_from old B [] p number ≡ comes new B (Open (Quote line None None p.to) p None) number

-- The first attribution of a quote's lines, at place k, once its text is read: the element and the messages, and the number of the next message.
-- The first line after it that isn't blank is at place `next`.
pub record IsAttributed (Q : Block) (k next : ℕ) (made : Texted) (number after : ℕ) : Type 0 where
  pub attribution : Attribution
  pub first : first_attribution Q ≡ Some (k, attribution)
  pub after_blanks : next ≡ attribution.end + lines_while Blank (drop attribution.end Q)
  pub read : texted (first_parts (drop k Q)) AttributionTag (first_number (drop k Q)) (joined (lines_in Q (attribution_part k attribution))) (first_number (drop k Q)) number
      ≡ Ok ((made.element, made.notes.items), after)

-- the first k lines of a part
abbrev pub first_lines_of : Part → ℕ → Part
first_lines_of p k = record { from = p.from; to = p.from + k; first_cut = p.first_cut; rest_cut = p.rest_cut }

-- A part in which there is an attribution is read as the quote of the lines before that, and then as further quotes of what is left of the part. The
-- attribution's text is read first, so the messages on it have earlier numbers than those on the lines before it.
abbrev pub AttributedQuoteIsRead : Type 0
AttributedQuoteIsRead = (old new : OpenBlock) (B : Block) (p : Part) (k next line number after : ℕ) (made : Box Texted Global)
    → IsAttributed (lines_in B p) k next (box_value made) number after
    → p.to ≤ length B → IsMoved old new → new.at ≡ p.from + next → line ≡ first_number (lines_in B p)
    → quotes_from old B [] p number ≡ comes new B (Open (Quote line (Some made) (rest_of p next) p.to) (first_lines_of p k) None) after
