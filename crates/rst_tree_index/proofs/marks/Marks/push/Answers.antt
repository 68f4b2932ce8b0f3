use Rattle.std.proofs.Common.{◌∷◌, ◌++◌, ap, ◌∙◌}
use Rattle.std.specs.Prelude.{map}
use Rattle.rst_tree_index.specs.declared.marks.Mark.{Mark}
use Rattle.rst_tree_index.specs.MarkPaths.{node_paths, paths_in}
use Rattle.rst_tree_index.proofs.Visiting.{AreUsed-push, paths_in-push}
use Rattle.rst_tree_index.proofs.marks.Marks.push.Goals as goal

pub invariant_of-self : goal.invariant_of-self
invariant_of-self c =
    let mark : Mark = record { place = c.args.place; own = c.args.own; inner = c.args.inner } in
    rw c.in_ok-push.ensures.items (AreUsed-push c.self.inside.list.items mark c.self.invariant (c.is_used.ensures.used c.if-is_used.true))

pub returns-in_ok-push : goal.returns-in_ok-push
returns-in_ok-push c =
    let mark : Mark = record { place = c.args.place; own = c.args.own; inner = c.args.inner } in
    ap paths_in c.in_ok-push.ensures.items ∙ paths_in-push c.self.inside.list.items mark ∙ ap (λ z. z ++ map (λ p. c.args.place ∷ p) (node_paths c.args.own c.args.inner)) c.self.view_is
