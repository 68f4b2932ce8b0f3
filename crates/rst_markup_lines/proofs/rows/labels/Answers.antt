use Rattle.std.proofs.Common.{refl}
use Rattle.rst_markup_lines.proofs.Computing.{rst_markup_lines}
use Rattle.rst_markup_lines.proofs.rows.labels.Goals as goal

pub returns : goal.returns
unfolding rst_markup_lines
returns c = record {
  number = refl;
  named = refl;
  footnotes = refl;
  citations = refl;
  comments = refl;
}
