use Rattle.std.proofs.Common.{length, refl, arith}
use Rattle.std.proofs.lemmas.Iterator.{YieldsList-from_range, items_from_collect}
use Rattle.rst_markup_tables.proofs.cells.all_places.Goals as goal

pub returns : goal.returns
returns c = items_from_collect _ c.collect.ensures.ran (YieldsList-from_range 0 (length c.args.lines.now) (length c.args.lines.now) refl (omega arith))
