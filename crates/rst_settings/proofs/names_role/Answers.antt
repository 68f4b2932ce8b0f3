use Rattle.std.proofs.Common.{lit<, rules, tests}
use Rattle.std.proofs.lemmas.Iterator.Search.{any_from_yields_List}
use Rattle.std.proofs.lemmas.Iterator.Splits.{YieldsList-from_str_split}
use Rattle.rst_settings.specs.Parts.{is_role_line}
use Rattle.rst_settings.proofs.names_role.Goals as goal

pub returns : goal.returns
returns c = any_from_yields_List (λ line. is_role_line line c.args.name.now) _ _ _ c.any.ensures.ran (YieldsList-from_str_split 10 c.args.names.now (lit< tt) (cc) (cc) (cc)) (λ x b q k. search (rules, tests))
