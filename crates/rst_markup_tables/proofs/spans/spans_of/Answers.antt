use Rattle.std.proofs.lemmas.Bool.Decides.{nat_tests}
use Rattle.std.proofs.Common.{◌∙◌, ◌++◌, ◌∷◌, [], length, sym, ap, map, arith}
use Rattle.rst_markup_tables.specs.SimpleTable.{begins_span, span_at}
use Rattle.rst_markup_tables.proofs.Lists.{all_from-take, all_from-more, onto}
use Rattle.rst_markup_tables.proofs.spans.spans_of.Goals as goal

pub loop-place-preserved-then-begins : goal.loop-place-preserved-then-begins
unfolding begins_span
loop-place-preserved-then-begins c =
    let step = all_from-take (begins_span c.args.row.now) c.loop-place.place (length c.args.row.now) (omega arith) (grind (arith, nat_tests)) in
    onto _ _ _ _ _ (c.in_ok-push.ensures.items ∙ ap (λ s. c.loop-place.spans.items ++ s ∷ []) c.span_at.ensures) (sym (ap (λ l. c.loop-place.spans.items ++ map (span_at c.args.row.now) l) step) ∙ c.loop-place.invariant)

pub loop-place-preserved : goal.loop-place-preserved
unfolding begins_span
loop-place-preserved c =
    let step = all_from-more (begins_span c.args.row.now) c.loop-place.place (length c.args.row.now) (omega arith) (grind (arith, nat_tests)) in
    sym (ap (λ l. c.loop-place.spans.items ++ map (span_at c.args.row.now) l) step) ∙ c.loop-place.invariant
