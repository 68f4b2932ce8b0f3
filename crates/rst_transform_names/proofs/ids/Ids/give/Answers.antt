use Rattle.std.proofs.Common.{arith}
use Rattle.rst_transform_names.proofs.IdLemmas.{gives_after, gives_kind}
use Rattle.rst_transform_names.proofs.ids.Ids.give.Goals as goal

pub returns-then-is_empty : goal.returns-then-is_empty
returns-then-is_empty c = grind (arith, gives_kind)

pub returns : goal.returns
returns c = grind (arith, gives_after)
