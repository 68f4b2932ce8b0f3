use Rattle.std.proofs.Common.{refl, sym, ap, ◌∙◌, arith}
use Rattle.rst_transform_names.specs.Registry.{losing, without_name}
use Rattle.rst_transform_names.proofs.RegistryLemmas.{changed_there, changed_after}
use Rattle.rst_transform_names.proofs.registry.lose.Goals as goal

pub returns-then-place-standings : goal.returns-then-place-standings
returns-then-place-standings c =
    changed_there without_name c.in-Element.serial c.args.standings.now c.index-standings-place.result _ (omega arith) refl ∙ ap (λ h. losing h c.args.standings.now) (sym c.in-Element.is)

pub returns-else-place-standings : goal.returns-else-place-standings
returns-else-place-standings c =
    changed_after without_name c.in-Element.serial c.args.standings.now (omega arith) ∙ ap (λ h. losing h c.args.standings.now) (sym c.in-Element.is)
