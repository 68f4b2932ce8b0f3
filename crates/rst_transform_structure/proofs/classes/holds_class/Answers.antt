use Rattle.std.proofs.Common.{None, rules}
use Rattle.rst_transform_structure.proofs.Classing.{class_read}
use Rattle.rst_transform_structure.proofs.classes.holds_class.Goals as goal

pub returns : goal.returns
returns c =
    let read = class_read None c.args.nodes.now _ c.read_elements.new.reader c.in_ok-read_elements.ensures in
    search (rules, read)
