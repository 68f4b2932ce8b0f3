use Rattle.std.proofs.Common.{◌≡◌, drop, length, rules}
use Rattle.std.specs.List.{zip}
use Rattle.rst_transform_references.specs.Footnotes.{leads_to_footnote, refer_by}
use Rattle.rst_transform_references.specs.Links.{all}
use Rattle.rst_transform_references.proofs.footnotes.refer_by.Goals as goal

pub returns : goal.returns
unfolding refer_by
returns c known h =
    let leads : c.lead_to_footnotes.new.links ≡ all leads_to_footnote (zip c.in_ok-references.references.items c.in_ok-footnotes.footnotes.items) c.args.links.now = search rules in
    let count : c.len-2.result ≡ length c.in_ok-footnotes.footnotes.items = search rules in
    let left : c.rest_after-left.result.now ≡ drop c.len-2.result c.in_ok-references.references.items = search rules in
    rw (← c.in_ok-references.ensures, ← c.in_ok-footnotes.ensures, ← leads, ← count, ← left) (c.in_ok-leave_over.ensures known h)
