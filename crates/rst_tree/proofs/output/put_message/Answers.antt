use Rattle.rst_tree.specs.Message.{message_head}
use Rattle.rst_tree.proofs.Sending.{◌▸◌, Sends-as}
use Rattle.rst_tree.proofs.output.put_message.Goals as goal

pub returns : goal.returns
returns g c =
    let head = Sends-as {y = message_head c.args.source.now c.args.note.now}
    (c.put.ensures ▸ c.put-2.ensures ▸ c.put_number.ensures ▸ c.put-3.ensures ▸ c.put-4.ensures ▸ c.put-5.ensures ▸ c.put_number-2.ensures ▸ c.put-6.ensures)
    (simp (c.as_bytes.ensures.value, c.as_bytes-2.ensures.value, c.name.ensures, c.number.ensures, c.from.ensures)) in
    Sends-as (head ▸ c.put-7.ensures ▸ c.put-8.ensures ▸ c.put_block.ensures) (simp c.as_bytes-3.ensures)
