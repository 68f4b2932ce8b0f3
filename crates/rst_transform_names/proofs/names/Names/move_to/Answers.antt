use Rattle.std.proofs.Common.{arith}
use Rattle.std.proofs.lemmas.Map.Text.{text_keys}
use Rattle.rst_transform_names.proofs.names.Names.move_to.Goals as goal

pub returns-in-Some : goal.returns-in-Some
returns-in-Some c = grind (arith, text_keys)
