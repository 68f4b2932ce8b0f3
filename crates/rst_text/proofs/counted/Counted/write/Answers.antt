use Rattle.std.proofs.Common.{◌≡◌, Some, inl, inr, ◌<◌, length, subst, rules}
use Rattle.rst_text.specs.Counted.{inner_of}
use Rattle.rst_text.proofs.counted.Counted.write.Goals as goal
use Rattle.rst_text.proofs.counted.Counted.write.Goals.{in_default-via-in-Ok+else-is_empty, in_default-via-in_default}

pub returns-in-Ok-clause-call : goal.returns-in-Ok-clause-call
returns-in-Ok-clause-call g c = c.in-Ok.ensures.call

pub returns-in_default-clause-call : goal.returns-in_default-clause-call
returns-in_default-clause-call g c = elim c.in_default.branch [
  | in_default-via-in-Ok+else-is_empty w ↦ (
      let none : w.in-Ok.n ≡ 0 = search rules in
      let some : 0 < length c.args.buf.now = search rules in
      inr (subst (λ n. g.W.WriteCall.call_takes (inner_of c.args.self.now) (Some n) c.args.buf.now c.call_write.new.self) none w.in-Ok.ensures.call, some))
  | in_default-via-in_default w ↦ inl w.in_default.ensures.call
]
