use Rattle.std.proofs.Common.{rules, ◌≡◌, true, List, [], ◌++◌, refl, sym, ◌∙◌}
use Rattle.rst_tree.specs.declared.attrs.Attr.{Attr}
use Rattle.rst_tree.specs.declared.node.Node.{Node}
use Rattle.rst_tree.specs.declared.tag.Tag.{Tag}
use Rattle.rst_tree.specs.Forest.{Forest, bare, words}
use Rattle.rst_tree.specs.Nodes.{are_plain, forest_of, nodes_of}
use Rattle.rst_transform_names.specs.NameMessages.{before_next, filled, message_on, own_message, Queue}
use Rattle.rst_transform_names.specs.PlacingMessages.{seen}
use Rattle.rst_transform_names.proofs.QuietElements.{quiet_step}
use Rattle.rst_transform_names.proofs.placing.+fill.Goals as goal

-- a text alone, or no node, before the messages of the queue
plain_filled : (own : List Attr → List Node) (p : Tag) (first : Queue) (before : List Node) (queue : Queue) (c : Forest) → are_plain c ≡ true
    → filled own p first [] (record { nodes = []; before = before; queue = queue }) c ≡ record { nodes = nodes_of c ++ before_next first; before = before; queue = queue }
plain_filled own p first before queue bare plain = refl
plain_filled own p first before queue (words t bare) plain = refl
plain_filled own p first before queue _ plain = cc

pub returns-then-are_plain : goal.returns-then-are_plain
returns-then-are_plain t c =
    rw (
      plain_filled (own_message (message_on c.args.messages.now)) c.args.parent c.args.first.now.items c.args.made.now.before.items c.args.made.now.queue.items c.args.nodes (sym c.are_plain.ensures ∙ c.if-are_plain.true),
      c.in_ok-put_next.ensures.nodes,
      c.into_list.ensures.nodes,
    ) refl

-- a quiet element, passed over
pub loop-node-preserved-then-is_quiet : goal.loop-node-preserved-then-is_quiet
loop-node-preserved-then-is_quiet t c =
    let e = c.in-Element in
    let step = quiet_step (message_on c.args.messages.now) c.args.parent e.tag e.attrs e.line e.children (forest_of c.next.new.self.rest.items) c.loop-node.first.items c.loop-node.due.items (seen c.loop-node.made) (sym c.is_quiet.ensures ∙ c.if-is_quiet.true) in
    search (rules, step)
