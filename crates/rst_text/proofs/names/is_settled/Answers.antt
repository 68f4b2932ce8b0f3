use Rattle.std.proofs.Common.{◌∷◌, ◌+◌, ◌∙◌, ap, sym, subst, drop, arith, false, length-drop}
use Rattle.std.proofs.lemmas.Bool.{ltb-true}
use Rattle.std.proofs.lemmas.List.{drop_more}
use Rattle.rst_text.proofs.Words.{Settles, Settles-start, Settles-word, Settles-space, Settles-end}
use Rattle.rst_text.proofs.names.is_settled.Goals as goal

pub loop-byte-init : goal.loop-byte-init
loop-byte-init g c = subst (λ l. Settles g.C.Case.cased c.args.text.now l false) (sym c.as_bytes-byte-items.ensures.value) (Settles-start g.C.Case.cased c.args.text.now)

pub loop-byte-preserved-then-c-gt32 : goal.loop-byte-preserved-then-c-gt32
loop-byte-preserved-then-c-gt32 g c =
    Settles-word g.C.Case.cased c.args.text.now _ _ c.loop-byte.in_word c.from-c.result c.loop-byte.invariant
    (drop_more c.as_bytes-byte-items.result.now c.loop-byte.byte-index 0 (omega arith) ∙ ap (λ b. b ∷ drop (c.loop-byte.byte-index + 1) c.as_bytes-byte-items.result.now) (sym c.from-c.ensures))
    (ltb-true c.from-c.result 128 (sym c.is_ascii.ensures ∙ c.if-not-is_ascii.false)) c.if-c-gt32.true (sym c.cased.ensures ∙ c.if-cased-c.false)

pub loop-byte-preserved : goal.loop-byte-preserved
loop-byte-preserved g c =
    Settles-space g.C.Case.cased c.args.text.now _ _ (subst (Settles g.C.Case.cased c.args.text.now _) c.if-not-in_word.false c.loop-byte.invariant)
    (drop_more c.as_bytes-byte-items.result.now c.loop-byte.byte-index 0 (omega arith) ∙ ap (λ b. b ∷ drop (c.loop-byte.byte-index + 1) c.as_bytes-byte-items.result.now) (sym c.from-c.ensures ∙ c.if-c-ne32.false))
    (ap g.C.Case.cased (sym c.if-c-ne32.false) ∙ sym c.cased.ensures ∙ c.if-cased-c.false ∙ c.if-c-ne32.false)

pub returns-clause-white : goal.returns-clause-white
returns-clause-white g c settled = (Settles-end g.C.Case.cased c.args.text.now (drop c.loop-byte.byte-index c.as_bytes-byte-items.result.now) (subst (Settles g.C.Case.cased c.args.text.now _) settled c.loop-byte.invariant) (length-drop c.loop-byte.byte-index c.as_bytes-byte-items.result.now ∙ omega arith)).0

pub returns-clause-case : goal.returns-clause-case
returns-clause-case g c settled = (Settles-end g.C.Case.cased c.args.text.now (drop c.loop-byte.byte-index c.as_bytes-byte-items.result.now) (subst (Settles g.C.Case.cased c.args.text.now _) settled c.loop-byte.invariant) (length-drop c.loop-byte.byte-index c.as_bytes-byte-items.result.now ∙ omega arith)).1
