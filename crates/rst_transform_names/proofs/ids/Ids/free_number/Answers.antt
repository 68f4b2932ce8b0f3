use Rattle.std.proofs.Common.{◌+◌, sym, ap, ◌∙◌, arith}
use Rattle.std.specs.BTreeSet.{contains_text}
use Rattle.rst_transform_names.proofs.IdLemmas.{after_all, unhindered}
use Rattle.rst_transform_names.proofs.ids.Ids.free_number.Goals as goal

pub returns-then-not-contains : goal.returns-then-not-contains
returns-then-not-contains c =
    let h = c.loop-number.invariant in
    unhindered c.args.self.now c.args.base.now (c.from-first.result + 1) c.loop-number.number (omega arith) h.0 (omega arith) h.2
    (sym (c.contains.ensures ∙ ap (contains_text c.args.self.now.hindering) (c.as_str.ensures ∙ c.in_ok-wanted.ensures)) ∙ c.if-not-contains.true)

pub returns : goal.returns
returns c =
    let first = c.from-first.result + 1 in
    after_all c.args.self.now c.args.base.now first (first + c.len.result) (omega arith) (omega arith) (omega arith) (λ m low less. c.loop-number.invariant.2 m low (omega (arith, less))) (omega arith)
