use Rattle.std.proofs.Common.{refl}
use Rattle.rst_block_state.proofs.Computing.{rst_block_state}
use Rattle.rst_block_state.proofs.rows.texts.references.Goals as goal

pub returns : goal.returns
unfolding rst_block_state
returns c = record {
  by_a_word = refl;
  by_a_phrase = refl;
  anonymous = refl;
  embedded_uri = refl;
  embedded_alias = refl;
  uri = refl;
  mail = refl;
  no_uris = refl;
  footnotes_and_citations = refl;
  substitutions = refl;
  inline_target = refl;
}
