use Rattle.rst_markup_tables.proofs.ScanLemmas.{no_simple}
use Rattle.rst_markup_tables.proofs.laws.no_simple_after.Goals as goal

pub returns : goal.returns
returns c X k beyond inside = no_simple X k beyond inside
