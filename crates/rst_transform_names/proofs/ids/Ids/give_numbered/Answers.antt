use Rattle.std.proofs.Common.{arith}
use Rattle.rst_transform_names.proofs.IdLemmas.{gives_numbered}
use Rattle.rst_transform_names.proofs.ids.Ids.give_numbered.Goals as goal

pub returns : goal.returns
returns c = gives_numbered c.args.base.now _ c.args.self.now c.use_up.new.self c.in_ok-number.number (omega arith) c.in_ok-id.ensures c.in_ok-number.ensures c.in_ok-use_up.ensures
