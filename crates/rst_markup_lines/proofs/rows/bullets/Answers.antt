use Rattle.std.proofs.Common.{refl}
use Rattle.rst_markup_lines.proofs.Computing.{rst_markup_lines}
use Rattle.rst_markup_lines.proofs.rows.bullets.Goals as goal

pub returns : goal.returns
unfolding rst_markup_lines
returns c = record {
  six = refl;
  spaces = refl;
  alone = refl;
  word = refl;
  no_break_space = refl;
  prompt = refl;
  prompt_alone = refl;
  no_prompts = refl;
  line = refl;
  empty_line = refl;
  substitution = refl;
}
