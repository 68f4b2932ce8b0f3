use Rattle.std.proofs.Common.{refl}
use Rattle.rst_markup_directives.proofs.Computing.{rst_markup_directives}
use Rattle.rst_markup_directives.proofs.rows.option_blocks.Goals as goal

pub returns : goal.returns
unfolding rst_markup_directives
returns c = record {
  values = refl;
  text = refl;
  indented_first = refl;
  role = refl;
  role_without_the_part = refl;
  escaped_colon = refl;
}
