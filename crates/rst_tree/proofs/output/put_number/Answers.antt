use Rattle.std.proofs.Common.{◌∙◌}
use Rattle.rst_tree.proofs.Sending.{Sends-as}
use Rattle.rst_tree.proofs.output.put_number.Goals as goal

pub returns : goal.returns
returns g c = Sends-as c.put.ensures (c.as_bytes.ensures.value ∙ c.format-digits.ensures.text)
