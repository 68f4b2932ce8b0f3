use Rattle.std.proofs.Common.{refl}
use Rattle.rst_markup_directives.proofs.Computing.{rst_markup_directives}
use Rattle.rst_markup_directives.proofs.rows.blocks.Goals as goal

pub returns : goal.returns
unfolding rst_markup_directives
returns c = record {
  content_alone = refl;
  two_parts = refl;
  field_in_a_replacement = refl;
  quotes_keep_a_column = refl;
  late_code = refl;
}
