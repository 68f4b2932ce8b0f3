use Rattle.std.proofs.Common.{eqb, get_or, lit<, rules, tests}
use Rattle.std.proofs.lemmas.Iterator.Adapters.{YieldsList-from_skip}
use Rattle.std.proofs.lemmas.Iterator.Search.{any_from_yields_List}
use Rattle.std.proofs.lemmas.Iterator.Splits.{YieldsList-from_str_split}
use Rattle.rst2pseudoxml_run.proofs.marks.holds_role_end.Goals as goal

pub returns : goal.returns
returns c =
    any_from_yields_List (λ piece. eqb (get_or piece 0 0) 96) _ _ _ c.any.ensures.ran
    (YieldsList-from_skip 1 (YieldsList-from_str_split 58 c.args.text.now (lit< tt) (cc) (cc) (cc)) (cc)) (λ x b q k. search (rules, tests))
