use Rattle.std.proofs.Common.{rules, ◌≡◌, [], arith}
use Rattle.rst_block_state.proofs.Splitting.{Splits-prefix, Splits-end}
use Rattle.rst_block_state.proofs.texts.split_nodes.Goals as goal

pub loop-node-preserved-then-len-count : goal.loop-node-preserved-then-len-count
loop-node-preserved-then-len-count c =
    Splits-prefix _ _ _ _ _ _ _ _ c.loop-node.invariant c.in-Some.ensures.items (omega (arith, c.len.ensures, c.if-len-count.true)) c.in_ok-push.ensures

pub returns : goal.returns
returns c =
    let nil : c.loop-node.nodes ≡ [] = search rules in
    let parts = Splits-end c.args.count c.args.nodes c.loop-node.first c.loop-node.second c.loop-node.nodes c.loop-node.invariant nil in
    record { first = parts.0; second = parts.1 }
