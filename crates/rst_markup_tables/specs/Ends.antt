-- Where tables end (Markup Specification, 'Grid Tables', 'Simple Tables').
use Rattle.std.specs.Prelude.{ℕ}
use Rattle.rst_markup_tables.specs.declared.results.TableResult.{TableResult}
use Rattle.rst_markup_tables.specs.declared.results.TableResult.TheVariants.{Table, Malformed}

-- the place after a table, or after lines that are none
abbrev pub end_of : TableResult → ℕ
end_of (Table cols head rows end) = end
end_of (Malformed end note) = end
