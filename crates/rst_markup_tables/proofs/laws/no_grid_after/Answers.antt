use Rattle.rst_markup_tables.proofs.ScanLemmas.{no_grid}
use Rattle.rst_markup_tables.proofs.laws.no_grid_after.Goals as goal

pub returns : goal.returns
returns c X k beyond inside = no_grid X k beyond inside
