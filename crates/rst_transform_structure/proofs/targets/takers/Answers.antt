use Rattle.std.proofs.Common.{◌≡◌, ◌++◌, None, false, rules, ap}
use Rattle.rst_transform_structure.specs.Targets.{read_takers, takers, ReadTakers}
use Rattle.rst_transform_structure.proofs.Retargeting.{takers_read}
use Rattle.rst_transform_structure.proofs.targets.takers.Goals as goal

pub returns : goal.returns
returns c =
    let start : ReadTakers = read_takers c.args.unmarked c.push.new.self.items in
    let read : c.read_elements.new.reader ≡ read_takers c.args.unmarked (c.push.new.self.items ++ takers c.args.unmarked false c.args.document.now.children) = takers_read None c.args.document.now.children start c.read_elements.new.reader c.in_ok-read_elements.ensures in
    search (rules, ap (λ (r : ReadTakers). r.list) read)
