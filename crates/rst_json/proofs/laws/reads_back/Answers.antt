use Rattle.rst_json.proofs.ReaderLemmas.{reads_back}
use Rattle.rst_json.proofs.laws.reads_back.Goals as goal

pub returns : goal.returns
returns c = reads_back
