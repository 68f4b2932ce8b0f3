use Rattle.std.proofs.Common.{arith}
use Rattle.rst_transform_names.proofs.IdNumbers.{id_number-split}
use Rattle.rst_transform_names.proofs.ids.id_number.Goals as goal

pub returns-in_err-base : goal.returns-in_err-base
returns-in_err-base c = grind (arith, id_number-split c.args.id.now c.rsplit_once.result c.rsplit_once.ensures.cases, c.from_residual.ensures, c.in_err-base.is, c.in_err-base.was)

pub returns-in_err-number_in : goal.returns-in_err-number_in
returns-in_err-number_in c = grind (arith, id_number-split c.args.id.now c.rsplit_once.result c.rsplit_once.ensures.cases)

pub returns : goal.returns
returns c = grind (arith, id_number-split c.args.id.now c.rsplit_once.result c.rsplit_once.ensures.cases)
