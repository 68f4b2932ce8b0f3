use Rattle.rst_markup_tables.proofs.TilingLemmas.{grid_table-is, tiling_of-tiles}
use Rattle.rst_markup_tables.proofs.laws.tiling_is_found.Goals as goal

pub returns : goal.returns
returns c = record {
  tiling = λ G. tiling_of-tiles G;
  table = λ B i result h. grid_table-is B i result h;
}
