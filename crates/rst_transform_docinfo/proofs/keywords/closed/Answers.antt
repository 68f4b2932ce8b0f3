use Rattle.std.proofs.Common.{◌∙◌, ◌-◌, ap, sym, arith, drop}
use Rattle.rst_transform_docinfo.specs.Keywords.{behind}
use Rattle.rst_transform_docinfo.proofs.KeywordLemmas.{closed_here, closed_later, rest_of}
use Rattle.rst_transform_docinfo.proofs.keywords.closed.Goals as goal

pub returns-in-Some : goal.returns-in-Some
returns-in-Some c =
    closed_later c.args.form c.args.text.now c.in-Some.after.now (c.loop-i.i - 1)
    (closed_here c.args.form c.args.text.now c.loop-i.i c.loop-i-test.true c.loop-i.invariant.within c.loop-i.invariant.none
    ∙ ap (λ e. behind e (drop (c.loop-i.i - 1) c.args.text.now)) (sym c.end.ensures) ∙ ap (behind c.end.result.now) (sym (rest_of c.args.text.now (c.loop-i.i - 1))) ∙ c.in-Some.ensures.value)

pub loop-i-preserved : goal.loop-i-preserved
loop-i-preserved c = record {
  none =
      closed_here c.args.form c.args.text.now c.loop-i.i c.loop-i-test.true c.loop-i.invariant.within c.loop-i.invariant.none
      ∙ ap (λ e. behind e (drop (c.loop-i.i - 1) c.args.text.now)) (sym c.end.ensures) ∙ ap (behind c.end.result.now) (sym (rest_of c.args.text.now (c.loop-i.i - 1))) ∙ c.in_default.ensures.value;
  within = omega arith;
}
