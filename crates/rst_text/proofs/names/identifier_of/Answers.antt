use Rattle.std.proofs.Common.{◌∙◌, ap, subst, sym, string_bytes, true, false}
use Rattle.std.specs.Str.{chars}
use Rattle.rst_text.proofs.Ids.{Identifies, Identifies-start, Identifies-before, Identifies-first, Identifies-past, Identifies-run, Identifies-char, Identifies-due, Identifies-end}
use Rattle.rst_text.proofs.names.identifier_of.Goals as goal
use Rattle.rst_text.proofs.names.identifier_of.Goals.{then-due+in_ok-push-2, else-due}

pub loop-c-init : goal.loop-c-init
loop-c-init c =
    Identifies-start c.args.decomposed.now (string_bytes c.in_ok-id.id) c.into_iter-c-iterator.result.rest.now c.utf8.decomposed (ap (λ i. i.rest.now) c.into_iter-c-iterator.ensures.into_iter_gives ∙ c.chars-c-items.ensures.rest) c.in_ok-id.ensures.bytes

pub loop-c-preserved-in_ok-push : goal.loop-c-preserved-in_ok-push
loop-c-preserved-in_ok-push c = rw c.in_ok-push.ensures.bytes (Identifies-first _ _ _ _ _ _ (subst (λ b. Identifies (chars c.args.decomposed.now) (string_bytes c.loop-c.id) c.loop-c.c-iterator.rest.now b c.loop-c.due) c.if-not-begun.true c.loop-c.invariant) c.in-Some.ensures.steps.0 (sym c.if-is_ascii_lowercase.ensures.value))

pub loop-c-preserved-else-is_ascii_lowercase : goal.loop-c-preserved-else-is_ascii_lowercase
loop-c-preserved-else-is_ascii_lowercase c = rw c.if-not-begun.true (Identifies-before _ _ _ _ _ _ (subst (λ b. Identifies (chars c.args.decomposed.now) (string_bytes c.loop-c.id) c.loop-c.c-iterator.rest.now b c.loop-c.due) c.if-not-begun.true c.loop-c.invariant) c.in-Some.ensures.steps.0 (sym c.if-is_ascii_lowercase.ensures.value))

pub loop-c-preserved-then-not-is_ascii : goal.loop-c-preserved-then-not-is_ascii
loop-c-preserved-then-not-is_ascii c = rw c.if-not-begun.false (Identifies-past _ _ _ _ _ _ (subst (λ b. Identifies (chars c.args.decomposed.now) (string_bytes c.loop-c.id) c.loop-c.c-iterator.rest.now b c.loop-c.due) c.if-not-begun.false c.loop-c.invariant) c.in-Some.ensures.steps.0 (sym c.if-not-is_ascii.ensures))

pub loop-c-preserved-then-not-is_id_char : goal.loop-c-preserved-then-not-is_id_char
loop-c-preserved-then-not-is_id_char c = rw c.if-not-begun.false (Identifies-run _ _ _ _ _ _ (subst (λ b. Identifies (chars c.args.decomposed.now) (string_bytes c.loop-c.id) c.loop-c.c-iterator.rest.now b c.loop-c.due) c.if-not-begun.false c.loop-c.invariant) c.in-Some.ensures.steps.0 (sym c.if-not-is_ascii.ensures) (sym c.if-not-is_id_char.ensures))

pub loop-c-preserved : goal.loop-c-preserved
loop-c-preserved c = elim c.if-due.branch [
  | then-due+in_ok-push-2 w ↦ rw (c.in_ok-push-3.ensures.bytes, w.id-is, w.in_ok-push-2.ensures.bytes, w.due-is, c.if-not-begun.false)
      (Identifies-due _ _ _ _ true _ (subst (λ b. Identifies (chars c.args.decomposed.now) (string_bytes c.loop-c.id) c.loop-c.c-iterator.rest.now true b) w.if-due.true (subst (λ b. Identifies (chars c.args.decomposed.now) (string_bytes c.loop-c.id) c.loop-c.c-iterator.rest.now b c.loop-c.due) c.if-not-begun.false c.loop-c.invariant)) c.in-Some.ensures.steps.0 (sym c.if-not-is_ascii.ensures) (sym c.if-not-is_id_char.ensures))
  | else-due w ↦ rw (c.in_ok-push-3.ensures.bytes, w.id-is, w.due-is, w.if-due.false, c.if-not-begun.false)
      (Identifies-char _ _ _ _ false _ (subst (λ b. Identifies (chars c.args.decomposed.now) (string_bytes c.loop-c.id) c.loop-c.c-iterator.rest.now true b) w.if-due.false (subst (λ b. Identifies (chars c.args.decomposed.now) (string_bytes c.loop-c.id) c.loop-c.c-iterator.rest.now b c.loop-c.due) c.if-not-begun.false c.loop-c.invariant)) c.in-Some.ensures.steps.0 (sym c.if-not-is_ascii.ensures) (sym c.if-not-is_id_char.ensures))
]

pub returns : goal.returns
returns c = Identifies-end _ _ _ _ _ c.loop-c.invariant c.in-None.ensures.steps.0.0
