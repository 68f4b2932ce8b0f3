use Rattle.std.proofs.Common.{◌≡◌, arith}
use Rattle.std.proofs.lemmas.Map.Text.{text_keys}
use Rattle.rst_transform_names.proofs.IdLemmas.{used_up}
use Rattle.rst_transform_names.proofs.ids.Ids.use_up.Goals as goal

pub returns-in-Some : goal.returns-in-Some
returns-in-Some c =
    let same : c.in-Ok.number ≡ c.args.number = omega (arith, c.in-Ok.ensures) in
    used_up c.args.self.now (c.get_mut.follows.lender c.in-Ok.number) c.args.base.now c.args.number c.requires (omega arith) (λ other. grind (arith, text_keys, same))

pub returns : goal.returns
returns c =
    let same : c.in-Ok.number ≡ c.args.number = omega (arith, c.in-Ok.ensures) in
    used_up c.args.self.now c.insert.new.self c.args.base.now c.args.number c.requires (omega arith) (λ other. grind (arith, text_keys, same))
