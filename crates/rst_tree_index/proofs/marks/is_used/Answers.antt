use Rattle.std.proofs.Common.{◌≡◌, ◌==◌, [], length, not, sym, ap, ap₂, ◌∙◌, true≢false}
use Rattle.std.proofs.lemmas.Bool.{eqb-true, not-false}
use Rattle.std.proofs.lemmas.List.{nil_from_length}
use Rattle.rst_tree_index.specs.MarkPaths.{node_paths, paths_in}
use Rattle.rst_tree_index.proofs.Visiting.{no_paths}
use Rattle.rst_tree_index.proofs.marks.is_used.Goals as goal

pub returns-then-own-clause-used : goal.returns-then-own-clause-used
returns-then-own-clause-used c e none = let some = rw c.if-own.true at none in absurd (cc)

pub returns-then-own-clause-unused : goal.returns-then-own-clause-unused
returns-then-own-clause-unused c e = absurd (cc)

pub returns-clause-used : goal.returns-clause-used
returns-clause-used c e none =
    let nil = no_paths c.inner.inside.list.items c.inner.invariant (c.inner.view_is ∙ (rw c.if-own.false at none)) in
    true≢false (sym e ∙ ap not (c.is_empty.ensures ∙ ap (λ k. k == 0) (c.inner.inside.list.ok.0 ∙ ap length nil)))

pub returns-clause-unused : goal.returns-clause-unused
returns-clause-unused c e =
    let nil : c.inner.inside.list.items ≡ [] = nil_from_length _ (sym c.inner.inside.list.ok.0 ∙ eqb-true _ 0 (sym c.is_empty.ensures ∙ not-false _ e)) in
    ap₂ node_paths c.if-own.false (sym c.inner.view_is ∙ ap paths_in nil)
