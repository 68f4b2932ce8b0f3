use Rattle.rst_json.proofs.ReaderLemmas.{shows_one_tree}
use Rattle.rst_json.proofs.laws.shows_one_tree.Goals as goal

pub returns : goal.returns
returns c = shows_one_tree
