use Rattle.std.proofs.Common.{◌∙◌, ap}
use Rattle.rst_tree.specs.Walk.{after, node_items, walked_node}
use Rattle.rst_tree_index.specs.Marks.{heeded_next, heeded_out, visited_all}
use Rattle.rst_tree_index.specs.Registered.{is_registered}
use Rattle.rst_tree_index.proofs.Marking.{visited_all-marks}
use Rattle.rst_tree_index.proofs.marked.Marked.visit.Goals as goal

pub returns : goal.returns
returns g c =
    let next = heeded_next is_registered g.V.Visitor.next in
    let out = heeded_out is_registered g.V.Visitor.out in
    let all = ap (λ z. visited_all g.V.Visitor.next g.V.Visitor.out z (c.args.visitor.now, c.self.inside.root)) c.self.invariant
    ∙ visited_all-marks g.V.Visitor.next g.V.Visitor.out is_registered c.args.visitor.now c.self.inside.root in
    record {
      node = c.in_ok-visit_in.ensures.node ∙ ap (λ z. z.1) all ∙ ap (walked_node next out c.args.visitor.now) c.self.view_is;
      state = c.in_ok-visit_in.ensures.state ∙ ap (λ z. z.0) all ∙ ap (λ n. after next out c.args.visitor.now (node_items n)) c.self.view_is;
    }
