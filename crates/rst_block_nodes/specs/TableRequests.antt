-- What the options of tables ask for (Directives, 'Table', 'List Table').
use Rattle.std.specs.Prelude.{ℕ, List, [], ◌∷◌, Option, Some, None, option_map}
use Rattle.rst_markup_directives.specs.Options.{OptionSetting}
use Rattle.rst_markup_directives.specs.Value.{Meaning, numbered, sized}
use Rattle.rst_markup_directives.specs.Widths.{Columns, columns_in}
use Rattle.rst_markup_directives.specs.declared.option.OptionName.{OptionName}
use Rattle.rst_markup_directives.specs.declared.option.OptionName.TheVariants.{HeaderRows, StubColumns, Widths}
use Rattle.rst_block_nodes.specs.declared.table_requests.TableOptions.{TableOptions}

-- what the options of a table ask for beside its attributes: how many of its rows are its head, how many of its columns are stubs, and the widths
-- of the columns; of a directive `table` the widths alone
pub record Asked : Type 0 where
  pub heads : ℕ
  pub stubs : ℕ
  pub columns : Option Columns

-- with what one more option asks for
abbrev pub asking : OptionName → Meaning → Asked → Asked
asking HeaderRows (numbered n) asked = record asked { heads = n }
asking StubColumns (numbered n) asked = record asked { stubs = n }
asking Widths (sized columns) asked = record asked { columns = Some columns }
asking _ _ asked = asked

-- with what options ask for, one after the other
abbrev pub asked_by : List OptionSetting → Asked → Asked
asked_by [] asked = asked
asked_by (ch ∷ more) asked = asked_by more (asking ch.0 ch.1 asked)

-- without an option for it, no row is head, no column is a stub, and nothing is said of widths
abbrev pub asked_of : List OptionSetting → Asked
asked_of choices = asked_by choices (record { heads = 0; stubs = 0; columns = None })

-- ---- as it is kept

-- the meaning of what is asked for
abbrev pub asked_in : TableOptions → Asked
asked_in options = record { heads = options.heads; stubs = options.stubs; columns = option_map columns_in options.widths }
