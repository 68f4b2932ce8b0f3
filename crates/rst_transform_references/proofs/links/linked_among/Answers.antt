use Rattle.std.proofs.Common.{◌++◌, ◌∙◌, ap, None}
use Rattle.rst_transform_references.specs.Links.{linked_among, nodes_now}
use Rattle.rst_transform_references.proofs.Linked.{linked_read}
use Rattle.rst_transform_references.proofs.links.linked_among.Goals as goal

pub returns : goal.returns
returns c =
    linked_read None c.args.nodes.now (record { list = c.new.result }) c.read_elements.new.reader c.in_ok-read_elements.ensures ∙ ap (λ l. nodes_now l ++ linked_among c.args.nodes.now) c.new.ensures.items
