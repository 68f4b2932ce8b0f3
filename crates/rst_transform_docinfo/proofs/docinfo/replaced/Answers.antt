use Rattle.std.proofs.Common.{◌≡◌, ◌∙◌, rules, refl, sym, subst, ap, List, Vec, Global, IfOk}
use Rattle.std.proofs.lemmas.List.{map-id}
use Rattle.std.proofs.lemmas.Iterator.Consumers.{YieldsList-end}
use Rattle.std.proofs.lemmas.Iterator.Adapters.{YieldsList-from_vec}
use Rattle.rst_tree.specs.declared.node.Node.{Node}
use Rattle.rst_tree.specs.Nodes.{nodes_of}
use Rattle.rst_transform_work.specs.declared.context.Context.{Context}
use Rattle.rst_transform_docinfo.specs.Docinfo.{first_named, replaced}
use Rattle.rst_transform_docinfo.specs.Gathered.{docinfo_nodes, gathered, none_yet, so_far, with_field_node}
use Rattle.rst_transform_docinfo.proofs.Gathering.{gathered_more}
use Rattle.rst_transform_docinfo.proofs.docinfo.replaced.Goals as goal

pub loop-node-init : goal.loop-node-init
loop-node-init c = record { taken = c.new-bibliography.ensures c.args.context.now.reports.items; rest = refl }

pub loop-node-preserved : goal.loop-node-preserved
loop-node-preserved c = record {
  taken =
      c.in_ok-add_node.ensures.gathered ∙ ap (λ (w : Context). with_field_node w.first_number c.in-Some.node (so_far c.loop-node.bibliography c.loop-node.context.reports.items)) c.loop-node.invariant.rest
      ∙ ap (with_field_node c.args.context.now.first_number c.in-Some.node) c.loop-node.invariant.taken
      ∙ sym (gathered_more c.args.context.now.first_number (none_yet c.args.parts c.args.context.now.reports.items) c.loop-node.yielded c.in-Some.node);
  rest = c.in_ok-add_node.ensures.rest ∙ ap (λ (w : Context). record w { reports = c.add_node.new.context.reports }) c.loop-node.invariant.rest;
}

pub returns-clause-nodes : goal.returns-clause-nodes
returns-clause-nodes c =
    let end = YieldsList-end (YieldsList-from_vec {s = c.into_iter-node-iterator.result} c.into_list-node-items.result.items (search rules) (search rules))
    c.loop-node.yielded c.loop-node.node-iterator c.loop-node.yielded_by c.next.result c.next.new.self c.in-None.is c.next.ensures.steps in
    let all : c.loop-node.yielded ≡ nodes_of c.in-Element.children = sym (map-id c.loop-node.yielded) ∙ end.0 ∙ c.into_list-node-items.ensures.nodes in
    subst (λ (nodes : List Node). IfOk c.with_names.result (λ (all : Vec Node Global). all.items ≡ nodes))
    (ap (first_named c.in-Element.attrs) (c.in_ok-nodes.ensures ∙ ap (docinfo_nodes c.in-Element.line) (c.loop-node.invariant.taken ∙ ap (gathered c.args.context.now.first_number (none_yet c.args.parts c.args.context.now.reports.items)) all))
    ∙ sym (ap (λ n. (replaced c.args.parts c.args.context.now.first_number c.args.context.now.reports.items n).0) c.in-Element.is)) c.with_names.ensures
