use Rattle.std.proofs.Common.{◌≡◌, rules}
use Rattle.std.specs.Prelude.{Some, None}
use Rattle.std.specs.BTreeMap.{get_by_text}
use Rattle.rst_transform_substitutions.proofs.definitions.Definitions.find.Goals as goal

pub returns-in-Some-get : goal.returns-in-Some-get
returns-in-Some-get c =
    let none : get_by_text c.args.self.now.exact c.args.name.now ≡ None = search rules in
    let there : get_by_text c.args.self.now.remembered c.args.name.now ≡ Some c.in-Some-get.found.now = search rules in
    rw none (c.args.self.now.is_right c.args.name.now c.in-Some-get.found.now there)
