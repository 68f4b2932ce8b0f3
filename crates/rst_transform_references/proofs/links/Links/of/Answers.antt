use Rattle.std.proofs.lemmas.List.{length-map}
use Rattle.std.proofs.Common.{◌≡◌, ◌∙◌, length, ap, refl, sym, rules}
use Rattle.rst_transform_references.specs.Links.{linked_among}
use Rattle.rst_transform_references.proofs.links.Links.of.Goals as goal

pub returns : goal.returns
returns c =
    let count : c.loop.counter ≡ length c.in_ok-linked.linked.items = search rules in
    let every : length c.in_ok-linked.linked.items ≡ length (linked_among c.args.document.now.children) = sym (length-map c.in_ok-linked.linked.items (λ node. node.now)) ∙ ap length c.in_ok-linked.ensures in
    rw (← every, ← count, ← c.in_ok-linked.ensures, c.loop.invariant) refl
