use Rattle.rst_block_state.proofs.WaitingLooks.{one_quote, split_quotes, resumed, quotes_go_on, rows_cells, table_read}
use Rattle.rst_block_state.proofs.LedgerLemmas.{cell_text}
use Rattle.rst_block.proofs.laws.waiting_blocks_are_paid.Goals as goal

pub returns : goal.returns
returns c = record { quote = one_quote; quotes = split_quotes; resumed = resumed; next_quote = quotes_go_on; cell = cell_text; rows = rows_cells; table = table_read }
