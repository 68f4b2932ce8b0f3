use Rattle.std.proofs.Common.{refl}
use Rattle.rst_block_state.proofs.Computing.{rst_block_state}
use Rattle.rst_block_state.proofs.rows.texts.inline_markup.Goals as goal

pub returns : goal.returns
unfolding rst_block_state
returns c = record {
  strong_and_literal = refl;
  role_and_emphasis = refl;
  role_emphasis = refl;
  role_strong = refl;
  role_literal = refl;
  role_subscript = refl;
  role_sub = refl;
  role_superscript = refl;
  role_sup = refl;
  role_title_reference = refl;
  role_title = refl;
  role_t = refl;
  role_after_the_text = refl;
  no_markup = refl;
  directly_after = refl;
  unended = refl;
  wrong_roles = refl;
  across_lines = refl;
  nul = refl;
}
