use Rattle.rst_markup_tables.proofs.GridLemmas.{dashed-of_line}
use Rattle.rst_markup_tables.proofs.grid_lines.put_dashes.Goals as goal

pub invariant_of-line : goal.invariant_of-line
invariant_of-line c = dashed-of_line c.places.result.now _ c.in_ok-places.ensures c.places.ensures.of_line
