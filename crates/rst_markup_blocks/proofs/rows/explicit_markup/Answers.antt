use Rattle.std.proofs.Common.{refl}
use Rattle.rst_markup_blocks.proofs.Computing.{rst_markup_blocks}
use Rattle.rst_markup_blocks.proofs.rows.explicit_markup.Goals as goal

pub returns : goal.returns
unfolding rst_markup_blocks
returns c = record {
  footnote = refl;
  citation = refl;
  footnote_alone = refl;
  target = refl;
  anonymous = refl;
  underscores = refl;
  underscores_alone = refl;
  substitution = refl;
  substitution_of_nothing = refl;
  directive = refl;
  directive_alone = refl;
  any_name = refl;
}
