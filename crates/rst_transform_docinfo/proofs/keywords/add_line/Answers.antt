use Rattle.std.proofs.Common.{[], ◌∷◌}
use Rattle.rst_transform_docinfo.specs.Keywords.{line_value}
use Rattle.rst_transform_docinfo.proofs.KeywordLemmas.{behind_first, behind_first_is, line_on, step}
use Rattle.rst_transform_docinfo.proofs.keywords.add_line.Goals as goal

pub loop-rest-preserved : goal.loop-rest-preserved
loop-rest-preserved c =
    let rest = c.loop-rest.rest.now in
    step _ _ (c.first-item.result ∷ []) (line_value c.args.form rest) (line_value c.args.form (behind_first rest)) _ c.in_ok-push.ensures.items
    (line_on c.args.form rest (behind_first rest) c.first-item.result (behind_first_is rest) c.in-len1-up.len_at_least c.first-item.is c.in_default-opened.ensures) c.loop-rest.invariant
