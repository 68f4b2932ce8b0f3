use Rattle.std.proofs.Common.{append_assoc, ◌∙◌, sym}
use Rattle.std.proofs.lemmas.List.{take_all}
use Rattle.rst_json.proofs.JsonLemmas.{unescaped}
use Rattle.rst_json.proofs.string.put_string.Goals as goal
use Rattle.rst_json.proofs.string.put_string.Goals.{then-has_escaped+else-loop-byte-test, else-has_escaped+in_ok-extend_from_slice}

pub returns : goal.returns
returns c =
    elim c.if-has_escaped.branch [
      | then-has_escaped+else-loop-byte-test w ↦
          c.in_ok-push-2.ensures.items ∙ rw (w.out-is, w.loop-byte.invariant, take_all _ c.args.text.now w.loop-byte-test.false, c.in_ok-push.ensures.items) (simp append_assoc)
      | else-has_escaped+in_ok-extend_from_slice w ↦
          let e = sym c.has_escaped.ensures ∙ w.if-has_escaped.false in
          c.in_ok-push-2.ensures.items ∙ rw (w.out-is, w.in_ok-extend_from_slice.ensures.items, c.in_ok-push.ensures.items, unescaped c.args.text.now e) (simp append_assoc)
    ]
