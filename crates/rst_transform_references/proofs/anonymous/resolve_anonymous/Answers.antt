use Rattle.std.proofs.Common.{◌≡◌, false, length, nat_eq, rules, true}
use Rattle.rst_transform_references.specs.Anonymous.{anonymous, first_line, mismatch}
use Rattle.rst_transform_references.proofs.anonymous.resolve_anonymous.Goals as goal

pub returns-then-len : goal.returns-then-len
unfolding anonymous
returns-then-len c known h =
    let same : nat_eq (length c.in_ok-references.references.items) (length c.in_ok-targets.targets.items) ≡ true = search rules in
    rw (← c.in_ok-references.ensures, ← c.in_ok-targets.ensures, same) (search rules, h)

pub returns : goal.returns
unfolding anonymous
returns c known h =
    let other : nat_eq (length c.in_ok-references.references.items) (length c.in_ok-targets.targets.items) ≡ false = search rules in
    let line : c.first_line-line.result ≡ first_line c.in_ok-references.references.items c.in_ok-targets.targets.items c.args.links.now = search rules in
    let text : c.new.result ≡ mismatch (length c.in_ok-references.references.items) (length c.in_ok-targets.targets.items) = search rules in
    rw (← c.in_ok-references.ensures, ← c.in_ok-targets.ensures, other, ← line, ← text) (rw (c.deref-4.ensures.value) at c.in_ok-fail_for.ensures known h)
