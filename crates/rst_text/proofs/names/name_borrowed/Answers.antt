use Rattle.rst_text.specs.Names.{name_of}
use Rattle.rst_text.proofs.names.name_borrowed.Goals as goal

pub returns : goal.returns
unfolding name_of
returns c = c.in_ok-spaced.ensures
