-- The blocks that are opened inside a block, and the cells of its tables (Markup Specification, 'Body Elements').
use Rattle.std.specs.Prelude.{ℕ, zero, suc, ◌+◌, List, [], ◌∷◌, length, take, drop, flat_map, Option, None, Some, if◌then◌else◌}
use Rattle.rst_text.specs.Block.{Block}
use Rattle.rst_markup_blocks.specs.Explicit.{explicit_of}
use Rattle.rst_markup_blocks.specs.declared.attribution.Attribution.{Attribution}
use Rattle.rst_markup_blocks.specs.declared.forms.Explicit.{Explicit}
use Rattle.rst_markup_blocks.specs.declared.forms.Explicit.TheVariants.{Footnote, Citation, Substitution, Directive}
use Rattle.rst_markup_blocks.specs.declared.forms.Invocation.{Invocation}
use Rattle.rst_markup_blocks.specs.declared.part.Part.{Part}
use Rattle.rst_markup_directives.specs.Directive.{Outcome, found, handed, wrong}
use Rattle.rst_markup_directives.specs.Kind.{has_blocks}
use Rattle.rst_markup_directives.specs.declared.found.Content.{Content}
use Rattle.rst_markup_directives.specs.declared.found.Place.TheVariants.{Top, Body, Substitution as InDefinition}
use Rattle.rst_markup_directives.specs.declared.kind.ContentKind.{ContentKind}
pub use Rattle.rst_markup_tables.specs.Results.{cell_blocks}
use Rattle.rst_markup_tables.specs.SimpleTable.{simple_table}
use Rattle.rst_markup_tables.specs.Tiling.{grid_table}
use Rattle.rst_block_state.specs.Constructs.{ItemMark, bullet_item, enumerated_item, definition_item, field_item, option_item, Construct, block_quote, item_of_list, grid, simple, explicit_markup, Found}
use Rattle.rst_block_state.specs.Directives.{called}
use Rattle.rst_block_state.specs.Quotes.{first_attribution, quote_after}
use Rattle.rst_block_state.specs.machine.Rest.{found_from}
use Rattle.rst_block_state.specs.Texts.{lines_in}
use Rattle.rst_block_state.specs.Within.{Within, hanging, indented_part, item_part}

-- ---- block quotes

-- a quote without an attribution is a block; one with an attribution is the lines before that, and the quotes after it
abbrev pub quoted_by : (Block → List Block) → Block → Option (ℕ × Attribution) → List Block
quoted_by others Q None = Q ∷ []
quoted_by others Q (Some (k, a)) = take k Q ∷ others (quote_after Q a)

-- the quotes of some lines, up to this number of them
abbrev pub quoted : ℕ → Block → List Block
quoted zero Q = []
quoted (suc n) [] = []
quoted (suc n) (l ∷ ls) = quoted_by (quoted n) (l ∷ ls) (first_attribution (l ∷ ls))

-- the block quotes of an indented block; each has a line, so there are no more of them than lines
abbrev pub quoted_blocks : Block → List Block
quoted_blocks Q = quoted (length Q) Q

-- ---- items of lists

-- the lines of an item, in line i, with which X begins
abbrev pub part_of_item : ℕ → ItemMark → Block → Part
part_of_item i (bullet_item ch m) X = item_part i m X
part_of_item i (enumerated_item e) X = item_part i e.marker X
part_of_item i (definition_item infos) X = indented_part (i + 1) (drop 1 X)
part_of_item i (field_item m) X = hanging i m.marker X
part_of_item i (option_item m) X = hanging i m X

-- ---- directives and other explicit markup

-- the lines before the options of a directive, and those after them
abbrev pub content_blocks : Block → Content → List Block
content_blocks B content = lines_in B content.first ∷ lines_in B content.second ∷ []

-- the blocks of the content of a directive, if it is blocks
abbrev pub directive_content : ContentKind → Block → Content → List Block
directive_content kind B content = if has_blocks kind then content_blocks B content else []

-- no block of a directive that is handed back, or of a wrong one, is read
abbrev pub directive_blocks : Outcome → Block → List Block
directive_blocks (found read) B = directive_content read.kind.content B read.content
directive_blocks handed B = []
directive_blocks (wrong fault part) B = []

-- a substitution definition that holds no directive has no block
abbrev pub substitution_blocks : Option Invocation → Within → Block → ℕ → List Block
substitution_blocks None c B i = []
substitution_blocks (Some call) c B i = directive_blocks (called c B i call InDefinition) B

-- the blocks of explicit markup in line i; a target and a comment have none
abbrev pub markup_blocks : Explicit → Within → Block → ℕ → List Block
markup_blocks (Footnote label body) c B i = lines_in B body ∷ []
markup_blocks (Citation label body) c B i = lines_in B body ∷ []
markup_blocks (Substitution name embedded end) c B i = substitution_blocks embedded c B i
markup_blocks (Directive call) c B i = directive_blocks (called c B i call (if c.titles then Top else Body)) B
markup_blocks _ c B i = []

-- ---- all constructs

-- the blocks that a construct in line i opens, with which X begins; a table opens none, as its cells have lines of their own
abbrev pub opened_by : Construct → Within → Block → ℕ → Block → List Block
opened_by block_quote c B i X = quoted_blocks (lines_in B (indented_part i X))
opened_by (item_of_list mark) c B i X = lines_in B (part_of_item i mark X) ∷ []
opened_by explicit_markup c B i X = markup_blocks (explicit_of i X) c B i
opened_by _ c B i X = []

-- the blocks that a construct of a block opens
abbrev pub opened_of : Within → Block → Found → List Block
opened_of c B f = opened_by f.what c B f.span.start (drop f.span.start B)

-- the cells that a construct in line i has
abbrev pub cells_by : Construct → Block → ℕ → List Block
cells_by grid B i = cell_blocks (grid_table B i)
cells_by simple B i = cell_blocks (simple_table B i)
cells_by _ B i = []

-- the cells that a construct of a block has
abbrev pub cells_with : Block → Found → List Block
cells_with B f = cells_by f.what B f.span.start

-- ---- blocks

-- the blocks that are opened in a block from line i on, in order
abbrev pub inside_from : Within → Block → ℕ → List Block
inside_from c B i = flat_map (opened_of c B) (found_from c.titles B i)

-- the cells of a block's tables from line i on
abbrev pub cells_from : Within → Block → ℕ → List Block
cells_from c B i = flat_map (cells_with B) (found_from c.titles B i)

-- the blocks that are opened in a block, in order
abbrev pub inside : Within → Block → List Block
inside c B = inside_from c B 0

-- the cells of a block's tables
abbrev pub cells : Within → Block → List Block
cells c B = cells_from c B 0
