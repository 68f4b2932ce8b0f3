-- Block quotes with their attributions (Markup Specification, 'Block Quotes').
use Rattle.std.specs.Prelude.{ℕ, zero, suc, ◌-◌, List, [], ◌∷◌, ◌++◌, drop, take, length, if◌then◌else◌, Option, Some, None, is_some, option_map, option_and_then}
use Rattle.rst_text.specs.Block.{Block, first_number, is_blank, first_parts}
use Rattle.rst_text.specs.Places.{first_from}
use Rattle.rst_tree.specs.declared.node.Node.{Node}
use Rattle.rst_tree.specs.declared.tag.Tag.TheVariants.{BlockQuote, Attribution as AttributionTag}
use Rattle.rst_markup_blocks.specs.Attributions.{attribution_at, attribution_part}
use Rattle.rst_markup_blocks.specs.Conditions.{text_at}
use Rattle.rst_markup_blocks.specs.Lines.{lines_while}
use Rattle.rst_markup_blocks.specs.declared.attribution.Attribution.{Attribution}
use Rattle.rst_markup_blocks.specs.declared.lines.LineTest.TheVariants.{Blank}
use Rattle.rst_block_nodes.specs.Elements.{element_of}
use Rattle.rst_block_state.specs.Numbered.{Numbered, ◌>>=◌, just}
use Rattle.rst_block_state.specs.Texts.{joined, lines_in, texted}
use Rattle.rst_block_state.specs.Within.{Within}

-- the attribution that begins in line k of a quote, directly after a blank line; the quote's first line isn't blank, so a text comes before it
abbrev pub attribution_in : Block → ℕ → Option Attribution
attribution_in Q k = if is_blank (text_at Q (k - 1)) then attribution_at k (drop k Q) else None

-- the first attribution in a quote, with the place of its first line
abbrev pub first_attribution : Block → Option (ℕ × Attribution)
first_attribution Q =
    option_and_then (λ k. option_map (λ a. (k, a)) (attribution_in Q k)) (first_from (λ k. is_some (attribution_in Q k)) 1 (length Q - 1))

-- the lines of a quote after an attribution, from the next one on that isn't blank; they keep their indentation
abbrev pub quote_after : Block → Attribution → Block
quote_after Q a = drop (lines_while Blank (drop a.end Q)) (drop a.end Q)

-- the block quote of some lines, of which these are the nodes
abbrev pub quote_node : Block → List Node → Node
quote_node Q nodes = element_of BlockQuote [] nodes (first_number Q)

-- A quote has all its lines, unless there is an attribution in it: that is its last child and ends it, and the lines after it are further quotes.
-- The messages on the attribution's text come after the quote.
abbrev pub quotes_by : Within → (Block → Numbered (List Node)) → Block → Option (ℕ × Attribution) → Numbered (List Node)
quotes_by c others Q None = do
  nodes ← c.inner Q
  just (quote_node Q nodes ∷ [])
quotes_by c others Q (Some (k, a)) = do
  made ← texted (first_parts (drop k Q)) AttributionTag (first_number (drop k Q)) (joined (lines_in Q (attribution_part k a))) (first_number (drop k Q))
  nodes ← c.inner (take k Q)
  more ← others (quote_after Q a)
  just (quote_node Q (nodes ++ made.0 ∷ []) ∷ made.1 ++ more)

-- the quotes of some lines, up to this number of them
abbrev pub quotes : Within → ℕ → Block → Numbered (List Node)
quotes c zero Q = just []
quotes c (suc n) [] = just []
quotes c (suc n) (l ∷ ls) = quotes_by c (quotes c n) (l ∷ ls) (first_attribution (l ∷ ls))

-- the block quotes of an indented block; each has a line, so there are no more of them than lines
abbrev pub quote_nodes : Within → Block → Numbered (List Node)
quote_nodes c Q = quotes c (length Q) Q
