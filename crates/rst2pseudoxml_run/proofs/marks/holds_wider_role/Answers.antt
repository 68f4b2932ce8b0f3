use Rattle.std.proofs.Common.{lit<, rules, tests}
use Rattle.std.proofs.lemmas.Iterator.Search.{any_from_yields_List}
use Rattle.std.proofs.lemmas.Iterator.Splits.{YieldsList-from_str_split}
use Rattle.rst_inline.specs.Roles.{is_wider_role}
use Rattle.rst2pseudoxml_run.proofs.marks.holds_wider_role.Goals as goal

pub returns : goal.returns
returns c = any_from_yields_List is_wider_role _ _ _ c.any.ensures.ran (YieldsList-from_str_split 58 c.args.text.now (lit< tt) (cc) (cc) (cc)) (λ x b q k. search (rules, tests))
