-- Where no call of program code is in the lines of a block, none is in the blocks that its constructs open, and none is in the cells of its tables.
use Rattle.std.proofs.Common.{ℕ, zero, suc, ◌-◌, cond, List, [], ◌∷◌, take, drop, Option, None, Some}
use Rattle.std.specs.List.{AllByRecursion}
use Rattle.rst_text.specs.Block.{Block, shorten, shorten_all}
use Rattle.rst_markup_blocks.specs.Explicit.{explicit_of}
use Rattle.rst_markup_blocks.specs.Lines.{lines_while}
use Rattle.rst_markup_blocks.specs.declared.attribution.Attribution.{Attribution}
use Rattle.rst_markup_blocks.specs.declared.forms.Explicit.{Explicit}
use Rattle.rst_markup_blocks.specs.declared.forms.Explicit.TheVariants.{Footnote, Citation, Substitution, Directive}
use Rattle.rst_markup_blocks.specs.declared.lines.LineTest.TheVariants.{Blank}
use Rattle.rst_markup_blocks.specs.declared.part.Part.{Part}
use Rattle.rst_markup_directives.specs.Directive.{Outcome, found, handed, wrong}
use Rattle.rst_markup_directives.specs.Kind.{has_blocks}
use Rattle.rst_markup_directives.specs.declared.found.Content.{Content}
use Rattle.rst_markup_directives.specs.declared.found.Place.TheVariants.{Top, Body, Substitution as InDefinition}
use Rattle.rst_block_state.specs.Constructs.{Construct, block_quote, item_of_list, grid, simple, explicit_markup}
use Rattle.rst_block_state.specs.Directives.{called}
use Rattle.rst_block_state.specs.Inside.{cells_by, content_blocks, directive_blocks, markup_blocks, opened_by, part_of_item, quoted, quoted_by}
use Rattle.rst_block_state.specs.Quotes.{first_attribution, quote_after}
use Rattle.rst_block_state.specs.Texts.{lines_in}
use Rattle.rst_block_state.specs.Within.{Within, indented_part}
use Rattle.rst_block_state.proofs.MarkFacts.{chosen}
use Rattle.rst2pseudoxml_run.specs.CodeCalls.{IsWithoutCode}
use Rattle.rst2pseudoxml_run.proofs.ProfilesCells.{IsLineFree, grid_cells_free, simple_cells_free}
use Rattle.rst2pseudoxml_run.proofs.ProfilesCode.{drop_free}
use Rattle.rst_tree_laws.proofs.Lists.{all_drop, all_map, all_take}
use Rattle.rst2pseudoxml_run.proofs.ProfilesNeeds.{CellsKeep, OpenedKeep}

-- no call is in any of some blocks
abbrev AreFree : List Block → Type 0
AreFree Bs = AllByRecursion IsWithoutCode Bs

-- ---- cuts

shortened_free : (first rest : ℕ) (B : Block) → IsWithoutCode B → IsWithoutCode (shorten_all first rest B)
shortened_free first rest [] free = tt
shortened_free first rest (l ∷ ls) free = (drop_free first l.text free.0, all_map IsLineFree IsLineFree (shorten rest) (λ k h. drop_free rest k.text h) ls free.1)

part_free_in : (B : Block) (part : Part) → IsWithoutCode B → IsWithoutCode (lines_in B part)
part_free_in B part free =
    shortened_free part.first_cut part.rest_cut (take (part.to - part.from) (drop part.from B)) (all_take IsLineFree (part.to - part.from) (drop part.from B) (all_drop IsLineFree part.from B free))

-- ---- block quotes

quoted_free : (n : ℕ) (Q : Block) → IsWithoutCode Q → AreFree (quoted n Q)
quoted_free zero Q free = tt
quoted_free (suc n) [] free = tt
quoted_free (suc n) (l ∷ ls) free = by (first_attribution (l ∷ ls)) (λ Q also. quoted_free n Q also)
  where
    by : (o : Option (ℕ × Attribution)) → ((Q : Block) → IsWithoutCode Q → AreFree (quoted n Q)) → AreFree (quoted_by (quoted n) (l ∷ ls) o)
    by None others = (free, tt)
    by (Some (k, a)) others =
        let Q : Block = l ∷ ls in
        (all_take IsLineFree k Q free, others (quote_after Q a) (all_drop IsLineFree (lines_while Blank (drop a.end Q)) (drop a.end Q) (all_drop IsLineFree a.end Q free)))

-- ---- explicit markup

content_free : (B : Block) (content : Content) → IsWithoutCode B → AreFree (content_blocks B content)
content_free B content free = (part_free_in B content.first free, (part_free_in B content.second free, tt))

directive_free : (o : Outcome) (B : Block) → IsWithoutCode B → AreFree (directive_blocks o B)
directive_free (found read) B free = chosen AreFree (has_blocks read.kind.content) (content_blocks B read.content) [] (content_free B read.content free) tt
directive_free handed B free = tt
directive_free (wrong fault part) B free = tt

markup_free : (markup : Explicit) (c : Within) (B : Block) (i : ℕ) → IsWithoutCode B → AreFree (markup_blocks markup c B i)
markup_free (Footnote label body) c B i free = (part_free_in B body free, tt)
markup_free (Citation label body) c B i free = (part_free_in B body free, tt)
markup_free (Substitution name (Some call) end) c B i free = directive_free (called c B i call InDefinition) B free
markup_free (Directive call) c B i free = directive_free (called c B i call (cond c.titles Top Body)) B free
markup_free _ c B i free = tt

-- ---- constructs

opened_by_free : (what : Construct) (c : Within) (B : Block) (i : ℕ) (X : Block) → IsWithoutCode B → AreFree (opened_by what c B i X)
opened_by_free block_quote c B i X free = let Q : Block = lines_in B (indented_part i X) in quoted_free _ Q (part_free_in B (indented_part i X) free)
opened_by_free (item_of_list mark) c B i X free = (part_free_in B (part_of_item i mark X) free, tt)
opened_by_free explicit_markup c B i X free = markup_free (explicit_of i X) c B i free
opened_by_free _ c B i X free = tt

-- no call is in the blocks that a construct opens
pub opened_keep : OpenedKeep IsWithoutCode
opened_keep c B f free = opened_by_free f.what c B f.span.start (drop f.span.start B) free

cells_by_free : (what : Construct) (B : Block) (i : ℕ) → IsWithoutCode B → AreFree (cells_by what B i)
cells_by_free grid B i free = grid_cells_free B i free
cells_by_free simple B i free = simple_cells_free B i free
cells_by_free _ B i free = tt

-- nor in its cells
pub cells_keep : CellsKeep IsWithoutCode
cells_keep B f free = cells_by_free f.what B f.span.start free
