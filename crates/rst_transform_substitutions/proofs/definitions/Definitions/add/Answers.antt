use Rattle.std.proofs.Common.{arith, rules}
use Rattle.std.proofs.lemmas.Map.Text.{text_keys}
use Rattle.rst_transform_substitutions.proofs.Defining.{known_more}
use Rattle.rst_transform_substitutions.proofs.definitions.Definitions.add.Goals as goal

pub returns : goal.returns
returns c = λ all known.
    known_more all c.args.self.now _ c.args.name.now c.args.content.now c.len-place.result known (search rules) (search rules) (λ other. grind (arith, text_keys)) (λ other. grind (arith, text_keys))
