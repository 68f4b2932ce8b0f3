use Rattle.std.proofs.Common.{lit<, rules, tests}
use Rattle.std.proofs.lemmas.Iterator.{YieldsList-from_zip}
use Rattle.std.proofs.lemmas.Iterator.Adapters.{YieldsList-from_skip}
use Rattle.std.proofs.lemmas.Iterator.Consumers.{YieldsList-at}
use Rattle.std.proofs.lemmas.Iterator.Search.{any_from_yields_List}
use Rattle.std.proofs.lemmas.Iterator.Splits.{YieldsList-from_str_split}
use Rattle.rst2pseudoxml_run.specs.Marks.{may_name}
use Rattle.rst2pseudoxml_run.proofs.marks.holds_names.Goals as goal

pub returns : goal.returns
returns c =
    let text = c.args.text.now in
    let pieces = YieldsList-from_str_split {s = c.split-2.result} 58 text (lit< tt) (cc) (cc) (cc) in
    let all = YieldsList-from_str_split {s = c.split.result} 58 text (lit< tt) (cc) (cc) (cc) in
    let next = YieldsList-from_skip {s = c.skip-next.result} 1 (YieldsList-at c.skip-next.ensures.source all) c.skip-next.ensures.count in
    any_from_yields_List {s = c.zip.result} (λ pair. may_name c.args.names.now pair.0 pair.1) c.any.new.self _ c.any.result c.any.ensures.ran
    (YieldsList-from_zip {s = c.zip.result} (YieldsList-at c.zip.ensures.first pieces) (YieldsList-at c.zip.ensures.second next)) (λ x b q k. search (rules, tests))
