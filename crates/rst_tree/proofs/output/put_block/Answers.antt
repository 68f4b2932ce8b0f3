use Rattle.rst_tree.proofs.Sending.{◌▸◌, Sends-as}
use Rattle.rst_tree.proofs.output.put_block.Goals as goal

pub returns-in-Some : goal.returns-in-Some
returns-in-Some g c = Sends-as (c.put.ensures ▸ c.put-in-Some.ensures ▸ c.put-in-Some-2.ensures) (simp (c.as_bytes.ensures, c.in-Some.is))
