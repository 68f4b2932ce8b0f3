use Rattle.rst_block_state.proofs.RestLemmas.{item_joins, item_begins, line_joins, line_begins, markup_joins, markup_begins, alone_begins}
use Rattle.rst_block.proofs.laws.constructs_join_or_begin.Goals as goal

pub returns : goal.returns
returns c = record {
  item_joins = item_joins;
  item_begins = item_begins;
  line_joins = line_joins;
  line_begins = line_begins;
  markup_joins = markup_joins;
  markup_begins = markup_begins;
  alone = alone_begins;
}
