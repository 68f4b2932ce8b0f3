use Rattle.std.proofs.Common.{◌∙◌, ap, subst, sym, string_bytes}
use Rattle.std.specs.Str.{chars}
use Rattle.std.proofs.lemmas.Str.{IsUtf8-string_bytes}
use Rattle.rst_text.proofs.Ids.{chars-made}
use Rattle.rst_text.proofs.Words.{Spaces, Spaces-start, Spaces-white, Spaces-word, Spaces-due, Spaces-end}
use Rattle.rst_text.proofs.names.spaced.Goals as goal
use Rattle.rst_text.proofs.names.spaced.Goals.{then-due+in_ok-push, else-due}

pub loop-c-init : goal.loop-c-init
loop-c-init g c =
    Spaces-start g.C.Case.cased c.args.text.now (string_bytes c.in_ok-out.out) c.into_iter-c-iterator.result.rest.now c.utf8.text (ap (λ i. i.rest.now) c.into_iter-c-iterator.ensures.into_iter_gives ∙ c.chars-c-items.ensures.rest) c.in_ok-out.ensures.bytes

pub loop-c-preserved-then-is_white : goal.loop-c-preserved-then-is_white
loop-c-preserved-then-is_white g c = Spaces-white g.C.Case.cased (chars c.args.text.now) _ _ _ c.loop-c.begun _ c.loop-c.due c.loop-c.invariant c.in-Some.ensures.steps.0 (sym c.if-is_white.ensures)

pub loop-c-preserved : goal.loop-c-preserved
loop-c-preserved g c = elim c.if-due.branch [
  | then-due+in_ok-push w ↦ rw (c.in_ok-push-2.ensures.bytes, w.out-is, w.in_ok-push.ensures.bytes, w.cased.ensures, c.cased-in-loop-c.ensures, w.due-is)
      (Spaces-due g.C.Case.cased (chars c.args.text.now) (string_bytes c.loop-c.out) c.loop-c.c-iterator.rest.now c.next.new.self.rest.now c.loop-c.begun c.in-Some.c
      (subst (Spaces g.C.Case.cased (chars c.args.text.now) (string_bytes c.loop-c.out) c.loop-c.c-iterator.rest.now c.loop-c.begun) w.if-due.true c.loop-c.invariant) c.in-Some.ensures.steps.0 (sym c.if-is_white.ensures))
  | else-due w ↦ rw (c.in_ok-push-2.ensures.bytes, w.out-is, c.cased-in-loop-c.ensures, w.due-is, w.if-due.false)
      (Spaces-word g.C.Case.cased (chars c.args.text.now) (string_bytes c.loop-c.out) c.loop-c.c-iterator.rest.now c.next.new.self.rest.now c.loop-c.begun c.in-Some.c
      (subst (Spaces g.C.Case.cased (chars c.args.text.now) (string_bytes c.loop-c.out) c.loop-c.c-iterator.rest.now c.loop-c.begun) w.if-due.false c.loop-c.invariant) c.in-Some.ensures.steps.0 (sym c.if-is_white.ensures))
]

pub returns : goal.returns
returns g c = chars-made _ _ (IsUtf8-string_bytes c.loop-c.out) (Spaces-end _ _ _ _ _ _ c.loop-c.invariant c.in-None.ensures.steps.0.0)
