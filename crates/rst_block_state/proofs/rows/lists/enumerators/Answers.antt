use Rattle.std.proofs.Common.{refl}
use Rattle.rst_block_state.proofs.Computing.{rst_block_state}
use Rattle.rst_block_state.proofs.rows.lists.enumerators.Goals as goal

pub returns : goal.returns
unfolding rst_block_state
returns c = record {
  arabic = refl;
  formats = refl;
  letters = refl;
  roman = refl;
  letter_or_roman = refl;
  leading_zeros = refl;
  spelling_of_the_next = refl;
  zero = refl;
  initial = refl;
  numeral_not_canonical = refl;
  ten_digits = refl;
}
