use Rattle.std.proofs.Common.{eqb, rules, tests}
use Rattle.std.proofs.lemmas.Iterator.{YieldsList-from_slice}
use Rattle.std.proofs.lemmas.Iterator.Search.{any_from_yields_List}
use Rattle.rst_markup_directives.proofs.characters.has_character.Goals as goal

pub returns : goal.returns
returns c = any_from_yields_List (λ x. eqb c.args.character x) c.any.new.self _ c.any.result c.any.ensures.ran (YieldsList-from_slice c.args.text.now cc) (λ x b q k. search (rules, tests))
