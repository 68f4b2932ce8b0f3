use Rattle.std.proofs.Common.{◌∙◌, sym, rules, tests}
use Rattle.std.proofs.lemmas.Iterator.{YieldsList-from_slice}
use Rattle.std.proofs.lemmas.Iterator.Search.{all_from_yields_List}
use Rattle.rst_markup_tables.specs.Cells.{reaches}
use Rattle.rst_markup_tables.proofs.Lists.{filter-all}
use Rattle.rst_markup_tables.proofs.cells.reaching.Goals as goal

pub returns-then-all : goal.returns-then-all
returns-then-all c =
    let p = reaches c.args.lines.now c.args.n in
    let all = all_from_yields_List p c.all.new.self _ c.all.result c.all.ensures.ran (YieldsList-from_slice c.args.among.items (cc)) (λ x b q k. search (rules, tests)) in
    sym (filter-all p c.args.among.items (sym all ∙ c.if-all.true))
