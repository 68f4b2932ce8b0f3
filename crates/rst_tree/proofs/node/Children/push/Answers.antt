use Rattle.std.proofs.Common.{refl}
use Rattle.rst_tree.proofs.Changes.{nodes_of-forest_of}
use Rattle.rst_tree.proofs.node.Children.push.Goals as goal

pub returns : goal.returns
returns c = rw (c.in_ok-push.ensures.items, c.make_room.ensures, ← c.self.view_is, nodes_of-forest_of c.self.inside.list.items) refl
