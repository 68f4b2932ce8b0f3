-- Kinds of lines: the first row of the table of constructs whose condition holds (Markup Specification, 'Body
-- Elements').
use Rattle.std.specs.Prelude.{ℕ, Bool, List, [], ◌∷◌, drop, if◌then◌else◌}
use Rattle.rst_text.specs.Block.{Block}
use Rattle.rst_markup_blocks.specs.Rows.{is_adornment_row, is_anonymous_row, is_bar_row, is_blank_row, is_bullet_row, is_doctest_row, is_enumerator_row, is_explicit_row, is_field_row, is_option_row, is_quote_row, is_text_row}
use Rattle.rst_markup_blocks.specs.TableRows.{is_grid_row, is_simple_row}
use Rattle.rst_markup_blocks.specs.declared.kind.Kind.{Kind}
use Rattle.rst_markup_blocks.specs.declared.kind.Kind.TheVariants.{Blank, Quote, Bullet, Enumerator, Field, OptionItem, Doctest, Line, Grid, Simple, Explicit, Anonymous, Adornment, Text}

-- the condition of a kind's row
abbrev pub row_holds : Kind → Block → Bool
row_holds Blank X = is_blank_row X
row_holds Quote X = is_quote_row X
row_holds Bullet X = is_bullet_row X
row_holds Enumerator X = is_enumerator_row X
row_holds Field X = is_field_row X
row_holds OptionItem X = is_option_row X
row_holds Doctest X = is_doctest_row X
row_holds Line X = is_bar_row X
row_holds Grid X = is_grid_row X
row_holds Simple X = is_simple_row X
row_holds Explicit X = is_explicit_row X
row_holds Anonymous X = is_anonymous_row X
row_holds Adornment X = is_adornment_row X
row_holds Text X = is_text_row X

-- all kinds, in the order of the table
abbrev pub kinds : List Kind
kinds = Blank ∷ Quote ∷ Bullet ∷ Enumerator ∷ Field ∷ OptionItem ∷ Doctest ∷ Line ∷ Grid ∷ Simple ∷ Explicit ∷ Anonymous ∷ Adornment ∷ Text ∷ []

-- the kinds from the doctest block on, whose rows look at the line alone
abbrev pub later_kinds : List Kind
later_kinds = drop 6 kinds

-- the first of some kinds whose row holds, or a text where none does
unfoldable pub first_kind : List Kind → Block → Kind
first_kind [] X = Text
first_kind (k ∷ ks) X = if row_holds k X then k else first_kind ks X

-- the kind of the first line of a block
unfoldable pub kind_at : Block → Kind
kind_at X = first_kind kinds X

-- the kind of the line at place i
abbrev pub kind_of : Block → ℕ → Kind
kind_of B i = kind_at (drop i B)
