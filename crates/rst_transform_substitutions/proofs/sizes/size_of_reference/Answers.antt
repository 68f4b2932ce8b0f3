use Rattle.std.proofs.Common.{◌∙◌, rules, sym}
use Rattle.rst_transform_substitutions.proofs.Sizing.{reference_takes}
use Rattle.rst_transform_substitutions.proofs.sizes.size_of_reference.Goals as goal

pub returns : goal.returns
returns c = reference_takes c.args.definitions.now c.args.name.now c.in-Some.place c.in-Some-item_at.one.now c.requires (sym c.in_ok-place.ensures ∙ c.in-Some.is) (search rules) (search rules)
