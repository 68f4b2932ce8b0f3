-- Where what begins at a line of a kind ends, by the row of that kind (Markup Specification, 'Body Elements').
use Rattle.std.specs.Prelude.{ℕ, Bool}
use Rattle.rst_text.specs.Block.{Block}
use Rattle.rst_markup_blocks.specs.Explicit.{explicit_size}
use Rattle.rst_markup_blocks.specs.Rows.{blank_size, own_reach, quote_size}
use Rattle.rst_markup_blocks.specs.Sizes.{adornment_size, bullet_size, doctest_size, enumerator_size, hanging_size, indented_size, text_size}
use Rattle.rst_markup_blocks.specs.TableRows.{grid_reach, grid_size, simple_reach, simple_size}
use Rattle.rst_markup_blocks.specs.declared.kind.Kind.{Kind}
use Rattle.rst_markup_blocks.specs.declared.kind.Kind.TheVariants.{Blank, Quote, Bullet, Enumerator, Field, OptionItem, Doctest, Line, Grid, Simple, Explicit, Anonymous, Adornment, Text}

-- how many lines the construct of a kind's row has; of a line of one punctuation character that depends on whether titles are allowed
-- in the block
abbrev pub row_size : Kind → Bool → Block → ℕ
row_size Blank titles X = blank_size X
row_size Quote titles X = quote_size X
row_size Bullet titles X = bullet_size X
row_size Enumerator titles X = enumerator_size X
row_size Field titles X = hanging_size X
row_size OptionItem titles X = hanging_size X
row_size Doctest titles X = doctest_size X
row_size Line titles X = indented_size X
row_size Grid titles X = grid_size X
row_size Simple titles X = simple_size X
row_size Explicit titles X = explicit_size X
row_size Anonymous titles X = indented_size X
row_size Adornment titles X = adornment_size titles X
row_size Text titles X = text_size X

-- its reach: of a table its own, of any other kind no further than through the first line after the construct that isn't blank
abbrev pub row_reach : Kind → Bool → Block → ℕ
row_reach Grid titles X = grid_reach X
row_reach Simple titles X = simple_reach X
row_reach kind titles X = own_reach (row_size kind) titles X

-- how many looks show whether the row's condition holds: one, and one more for each line below that the condition is on. No rule of
-- markup: it bounds the time.
abbrev pub row_looks : Kind → ℕ
row_looks Enumerator = 2
row_looks OptionItem = 3
row_looks kind = 1
