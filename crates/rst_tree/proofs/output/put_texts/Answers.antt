use Rattle.std.proofs.Common.{arith, take, length, drop, ◌-◌, ◌∷◌}
use Rattle.rst_tree.proofs.Sending.{◌▸◌, Sends-as, Sends-item}
use Rattle.rst_tree.proofs.PrintedParts.{spaced_parts}
use Rattle.rst_tree.specs.Print.{escaped}
use Rattle.rst_tree.proofs.output.put_texts.Goals as goal

pub loop-text-preserved : goal.loop-text-preserved
loop-text-preserved g c =
    Sends-item (λ u. 32 ∷ escaped u) (take (length c.args.texts.now - 1) (drop 1 c.args.texts.now)) c.loop-text.text-index _ c.text-item.is (omega arith) c.loop-text.invariant
    (Sends-as (c.put.ensures ▸ c.put_escaped-in-loop-text.ensures) cc)

pub returns-after-loop-text : goal.returns-after-loop-text
returns-after-loop-text g c =
    Sends-as (c.put_escaped.ensures ▸ c.loop-text.invariant)
    (rw c.as_bytes.ensures (spaced_parts c.args.texts.now c.first-item.result c.loop-text.text-index c.in-len1-up.len_at_least c.first-item.is c.loop-text-test.false))
