use Rattle.std.proofs.Common.{lit<, rules, tests}
use Rattle.std.proofs.lemmas.Iterator.Search.{any_from_yields_List}
use Rattle.std.proofs.lemmas.Iterator.Splits.{YieldsList-from_str_split}
use Rattle.rst2pseudoxml_run.specs.Marks.{is_part}
use Rattle.rst2pseudoxml_run.proofs.marks.is_part_of_one.Goals as goal

pub returns : goal.returns
returns c = any_from_yields_List (λ name. is_part name c.args.word.now) _ _ _ c.any.ensures.ran (YieldsList-from_str_split 10 c.args.names.now (lit< tt) (cc) (cc) (cc)) (λ x b q k. search (rules, tests))
