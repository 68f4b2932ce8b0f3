use Rattle.std.proofs.Common.{◌∙◌, sym, arith}
use Rattle.rst_inline_scan.specs.Uri.{has_any_case}
use Rattle.rst_inline_scan.proofs.UriLemmas.{find-more, scheme-fits}
use Rattle.rst_inline_scan.proofs.RegisteredLemmas.{found-end, no-end, registered_end-above}
use Rattle.rst_inline_scan.proofs.registered.registered_end.Goals as goal

pub loop-scheme-preserved : goal.loop-scheme-preserved
loop-scheme-preserved c =
    find-more (has_any_case c.args.text.now c.args.place) (λ scheme. scheme.now) _ c.loop-scheme.scheme-index _ (omega arith) (sym c.begins_at.ensures ∙ c.if-begins_at.false) ∙ c.loop-scheme.invariant

pub returns-then-begins_at-clause-exact : goal.returns-then-begins_at-clause-exact
returns-then-begins_at-clause-exact c =
    found-end c.args.text.now c.args.place _ c.loop-scheme.scheme-index _ (omega arith) (sym c.begins_at.ensures ∙ c.if-begins_at.true) c.loop-scheme.invariant

pub returns-then-begins_at-clause-above : goal.returns-then-begins_at-clause-above
returns-then-begins_at-clause-above c =
    registered_end-above c.args.text.now c.args.place _
    (found-end c.args.text.now c.args.place _ c.loop-scheme.scheme-index _ (omega arith) (sym c.begins_at.ensures ∙ c.if-begins_at.true) c.loop-scheme.invariant)

pub returns-then-begins_at-clause-below : goal.returns-then-begins_at-clause-below
returns-then-begins_at-clause-below c = scheme-fits c.args.text.now c.args.place _ (sym c.begins_at.ensures ∙ c.if-begins_at.true) c.requires

pub returns-clause-exact : goal.returns-clause-exact
returns-clause-exact c = no-end c.args.text.now c.args.place _ c.loop-scheme.scheme-index (omega arith) c.loop-scheme.invariant
