use Rattle.std.proofs.Common.{refl}
use Rattle.rst2pseudoxml_options.proofs.Computing.{rst2pseudoxml_options}
use Rattle.rst2pseudoxml_options.proofs.rows.sources.Goals as goal

pub returns : goal.returns
unfolding rst2pseudoxml_options
returns c = record {
  alone = refl;
  after_hyphens = refl;
  before_hyphens = refl;
  hyphens_alone = refl;
  as_written = refl;
  before_an_option = refl;
  hyphen = refl;
  dashed = refl;
  option_after_hyphens = refl;
  hyphens_twice = refl;
  second = refl;
  second_after_hyphens = refl;
}
