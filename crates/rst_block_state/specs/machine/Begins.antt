-- The construct that begins at a line, by the mark that is found there (Markup Specification, 'Body Elements').
use Rattle.std.specs.Prelude.{◌≡◌, Bool}
use Rattle.rst_text.specs.Block.{Block}
use Rattle.rst_markup_blocks.specs.Begun.{IsBegun}
use Rattle.rst_markup_blocks.specs.declared.begun.Begun.{Begun}
use Rattle.rst_markup_blocks.specs.declared.begun.Begun.TheVariants.{Blank, Quote, Bullet, Enumerator, Field, OptionItem, Doctest, Line, Grid, Simple, Explicit, Anonymous, Adornment, Text}
use Rattle.rst_block_state.specs.Constructs.{Construct, nothing, block_quote, bullet_item, enumerated_item, field_item, option_item, item_of_list, doctest_block, bar_line, grid, simple, explicit_markup, adorned, plain_text, construct_at}

-- the construct with a mark; of a text and of a line of one punctuation character the lines of X decide which one it is
abbrev pub construct_with : Begun → Bool → Block → Construct
construct_with Blank titles X = nothing
construct_with Quote titles X = block_quote
construct_with (Bullet mark marker) titles X = item_of_list (bullet_item mark marker)
construct_with (Enumerator e) titles X = item_of_list (enumerated_item e)
construct_with (Field m) titles X = item_of_list (field_item m)
construct_with (OptionItem marker) titles X = item_of_list (option_item marker)
construct_with Doctest titles X = doctest_block
construct_with (Line marker) titles X = bar_line marker
construct_with Grid titles X = grid
construct_with Simple titles X = simple
construct_with Explicit titles X = explicit_markup
construct_with Anonymous titles X = explicit_markup
construct_with (Adornment mark) titles X = adorned titles X mark
construct_with Text titles X = plain_text titles X

-- the construct at a line is the one with the mark that is found there
abbrev pub MarksTellConstructs : Type 0
MarksTellConstructs = (begun : Begun) (titles : Bool) (X : Block) → IsBegun X begun → construct_at titles X ≡ construct_with begun titles X
