use Rattle.std.proofs.Common.{option_map, sym, ap, rules, ◌∙◌}
use Rattle.rst_inline_scan.proofs.MarkedLemmas.{unended}
use Rattle.rst_inline_scan.proofs.MissingLemmas.{IsMissing-with}
use Rattle.rst_inline_scan.proofs.missing.Missing.end.Goals as goal

pub returns-in-None-clause-known : goal.returns-in-None-clause-known
returns-in-None-clause-known c =
    IsMissing-with c.args.markup c.args.text.now c.args.self.now c.args.place c.args.start _ c.requires.known
    (unended c.args.markup c.args.text.now c.args.place c.args.start c.requires.order c.requires.mark (sym c.end-found.ensures.exact ∙ ap (option_map (λ found. found.0)) c.in-None.is))
    (search rules) (search rules)
