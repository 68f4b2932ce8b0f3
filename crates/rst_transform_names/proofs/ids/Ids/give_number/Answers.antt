use Rattle.std.proofs.Common.{subst, arith}
use Rattle.rst_transform_names.specs.Ids.{GivesNumber}
use Rattle.std.specs.Prelude.{Ok}
use Rattle.rst_transform_names.proofs.IdLemmas.{gives_number}
use Rattle.rst_transform_names.proofs.ids.Ids.give_number.Goals as goal

pub returns : goal.returns
returns c =
    let old = c.args.self.now in
    let new = c.use_up.new.self in
    let n = c.in_ok-number.number in
    subst (λ base. GivesNumber base old new (Ok n)) c.hyphenated-base.ensures (gives_number _ old new n (omega arith) c.in_ok-number.ensures c.in_ok-use_up.ensures)
