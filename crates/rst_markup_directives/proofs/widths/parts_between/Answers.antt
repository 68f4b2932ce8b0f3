use Rattle.std.proofs.Common.{◌≡◌, eqb, rules, tests, map, refl, ap, ◌∙◌}
use Rattle.std.specs.List.{slice_split}
use Rattle.std.proofs.lemmas.Iterator.Consumers.{YieldsList-end}
use Rattle.std.proofs.lemmas.Iterator.Splits.{YieldsList-from_slice_split}
use Rattle.rst_markup_directives.proofs.widths.parts_between.Goals as goal

pub returns : goal.returns
returns c =
    let f = c.into_iter-part-iterator.result.pred in
    let same : f.0.now ≡ c.args.separator = search rules in
    let end = YieldsList-end (YieldsList-from_slice_split {s = c.into_iter-part-iterator.result} _ (λ d. eqb d f.0.now) {f = f} c.args.text.now (search rules) (search rules) refl (λ x r q k. search (rules, tests)))
    c.loop-part.yielded c.loop-part.part-iterator c.loop-part.yielded_by c.next.result c.next.new.self c.in-None.is c.next.ensures.steps in
    ap (map (λ part. part.now)) c.loop-part.invariant ∙ end.0 ∙ ap (λ s. slice_split (λ d. eqb d s) c.args.text.now) same
