use Rattle.rst_text.proofs.Ids.{id_of-decomposed}
use Rattle.rst_text.proofs.laws.ids_are_decomposed.Goals as goal

pub returns : goal.returns
returns c = id_of-decomposed
