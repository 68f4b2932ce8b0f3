use Rattle.std.proofs.Common.{lit<, rules, tests}
use Rattle.std.proofs.lemmas.Iterator.Search.{any_from_yields_List}
use Rattle.std.proofs.lemmas.Iterator.Splits.{YieldsList-from_str_split}
use Rattle.std.specs.Str.{str_eq_ignore_ascii_case}
use Rattle.rst2pseudoxml_run.proofs.marks.is_part.Goals as goal

pub returns : goal.returns
returns c = any_from_yields_List (λ part. str_eq_ignore_ascii_case part c.args.word.now) _ _ _ c.any.ensures.ran (YieldsList-from_str_split 58 c.args.name.now (lit< tt) (cc) (cc) (cc)) (λ x b q k. search (rules, tests))
