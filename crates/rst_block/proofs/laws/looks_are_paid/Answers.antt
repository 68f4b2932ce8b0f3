use Rattle.rst_block_state.proofs.LedgerLemmas.{begun, ended, blank_lines, construct, counted, opened, second_opened}
use Rattle.rst_block.proofs.laws.looks_are_paid.Goals as goal

pub returns : goal.returns
returns c = record { begun = begun; ended = ended; blank = blank_lines; construct = construct; counted = counted; opened = opened; second = second_opened }
