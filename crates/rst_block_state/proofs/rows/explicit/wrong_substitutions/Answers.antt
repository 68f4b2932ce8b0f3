use Rattle.std.proofs.Common.{refl}
use Rattle.rst_block_state.proofs.Computing.{rst_block_state}
use Rattle.rst_block_state.proofs.rows.explicit.wrong_substitutions.Goals as goal

pub returns : goal.returns
unfolding rst_block_state
returns c = record {
  empty_or_invalid = refl;
  other_directive = refl;
  anonymous_reference = refl;
  footnote_reference = refl;
  substitution_reference = refl;
  embedded_uri = refl;
  unended_emphasis = refl;
  two_paragraphs = refl;
  no_replacement = refl;
  malformed = refl;
  no_space_after_the_bar = refl;
  list_in_a_replacement = refl;
  colons_in_a_replacement = refl;
  literal_block_in_a_replacement = refl;
  quoted_literal_block_in_a_replacement = refl;
  definition_list_in_a_replacement = refl;
  white_after_the_bar = refl;
  wrong_image = refl;
}
