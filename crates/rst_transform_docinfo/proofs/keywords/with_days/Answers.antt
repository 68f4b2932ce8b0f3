use Rattle.rst_transform_docinfo.specs.Keywords.{day_of, with_days}
use Rattle.rst_transform_docinfo.proofs.KeywordLemmas.{behind_first, behind_first_is, days_at, texts, two_steps}
use Rattle.rst_transform_docinfo.proofs.keywords.with_days.Goals as goal

pub loop-rest-preserved-in-Some : goal.loop-rest-preserved-in-Some
loop-rest-preserved-in-Some c =
    let rest = c.loop-rest.rest.now in
    two_steps _ _ _ _ (day_of c.in-Some.date.now) (with_days (texts rest)) (with_days (texts (behind_first (behind_first rest)))) _ c.in_ok-extend_from_slice.ensures.items c.in_ok-add_day.ensures
    (days_at rest (behind_first rest) (behind_first (behind_first rest)) _ c.in-Some.date.now (behind_first_is rest) (behind_first_is (behind_first rest)) c.in-len1-up-more.len_at_least c.in-Some.ensures.value)
    c.loop-rest.invariant
