use Rattle.std.proofs.Common.{◌∙◌, ◌+◌, [], ap₂, sym}
use Rattle.std.specs.Prelude.{slice_set}
use Rattle.std.proofs.lemmas.List.{map-set}
use Rattle.rst_tree.specs.declared.node.Node.TheVariants.{Text}
use Rattle.rst_transform_references.specs.Links.{nodes_now}
use Rattle.rst_transform_references.proofs.Each.{all_next}
use Rattle.rst_transform_references.proofs.links.Links.fail.Goals as goal

pub loop-offset-preserved : goal.loop-offset-preserved
loop-offset-preserved c = record {
  nothing = c.loop-offset.invariant.nothing;
  changes = c.loop-offset.invariant.changes;
  linked = rw (c.put_at.ensures) (map-set (λ node. node.now) c.loop-offset.self-inside.linked.items (c.args.place + c.loop-offset.offset) c.loop-offset.self-inside.nothing ∙ ap₂ (λ nodes node. slice_set nodes (c.args.place + c.loop-offset.offset) node) c.loop-offset.invariant.linked c.loop-offset.invariant.nothing
      ∙ sym (all_next (λ offset nodes. slice_set nodes (c.args.place + offset) (Text [])) c.loop-offset.offset (nodes_now c.self.inside.linked.items)));
}
