use Rattle.rst_tree.proofs.Sending.{◌▸◌, Sends-as}
use Rattle.rst_tree.proofs.output.put_text_attr.Goals as goal

pub returns : goal.returns
returns g c = Sends-as (c.put.ensures ▸ c.put-2.ensures ▸ c.put-3.ensures) (simp (c.requires, c.as_bytes.ensures.value, c.opening.ensures, c.as_bytes-2.ensures.value))
