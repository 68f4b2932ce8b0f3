use Rattle.std.proofs.Common.{refl}
use Rattle.rst_transform_substitutions.proofs.Computing.{rst_transform_substitutions}
use Rattle.rst_transform_substitutions.proofs.rows.bounds.Goals as goal

pub returns : goal.returns
unfolding rst_transform_substitutions
returns c = record {
  hundred_definitions = refl;
  one_more_definition = refl;
  ten_thousand = refl;
  one_more_character = refl;
  characters_and_nodes = refl;
  counted_first = refl;
}
