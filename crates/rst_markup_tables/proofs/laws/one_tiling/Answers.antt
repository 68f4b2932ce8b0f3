use Rattle.rst_markup_tables.proofs.TilingLemmas.{one_tiling_of}
use Rattle.rst_markup_tables.proofs.laws.one_tiling.Goals as goal

pub returns : goal.returns
returns c G rs qs a b = one_tiling_of G rs qs a b
