use Rattle.std.proofs.Common.{refl}
use Rattle.rst_block_state.proofs.Computing.{rst_block_state}
use Rattle.rst_block_state.proofs.rows.directives.images.Goals as goal

pub returns : goal.returns
unfolding rst_block_state
returns c = record {
  options = refl;
  target_by_name = refl;
  target_by_uri = refl;
  uri_after_a_blank_line = refl;
  empty_values = refl;
  alignments = refl;
  horizontal_alignments = refl;
}
