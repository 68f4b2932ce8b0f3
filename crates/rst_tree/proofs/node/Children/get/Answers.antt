use Rattle.std.proofs.Common.{ap, sym, ◌∙◌, Some}
use Rattle.std.specs.Prelude.{slice_get}
use Rattle.rst_tree.proofs.Changes.{nodes_are, slice_get-some, slice_get-none}
use Rattle.rst_tree.proofs.node.Children.get.Goals as goal

pub returns-in-Some : goal.returns-in-Some
returns-in-Some c =
    let e = nodes_are c.self.inside.list.items c.args.self.now c.self.view_is in
    ap (λ ns. slice_get ns c.args.i) (sym e ∙ sym c.as_slice.ensures.value) ∙ slice_get-some c.as_slice.result.now c.args.i c.in-Some.node.now c.in-Some.ensures.lookup.3.0 ∙ ap (λ n. Some n) (sym c.in-Some.ensures.lookup.1)

pub returns-in-None : goal.returns-in-None
returns-in-None c =
    let e = nodes_are c.self.inside.list.items c.args.self.now c.self.view_is in
    ap (λ ns. slice_get ns c.args.i) (sym e ∙ sym c.as_slice.ensures.value) ∙ slice_get-none c.as_slice.result.now c.args.i c.in-None.ensures.lookup.3
