use Rattle.std.proofs.Common.{◌≡◌, ◌∙◌, ◌+◌, ◌<◌, ◌++◌, ℕ, List, Ok, Err, refl, ap, subst, arith, length, length-append, take, drop}
use Rattle.std.proofs.lemmas.List.{take_all}
use Rattle.rst_text.proofs.WriteLemmas.{sent_at_once, sent_cut, sent_nothing, sent_then}
use Rattle.rst_text.specs.Counted.{IsSent}
use Rattle.rst2pseudoxml_run.proofs.StreamLemmas.{joined, one_more, parted}
use Rattle.rst2pseudoxml_run.proofs.reporting.write_pieces.Goals as goal

pub loop-piece-init : goal.loop-piece-init
unfolding sent_nothing
loop-piece-init g c = (sent_nothing c.args.err.now, refl)

pub loop-piece-preserved : goal.loop-piece-preserved
unfolding sent_at_once sent_then
loop-piece-preserved g c =
    let prefix = joined (take c.loop-piece.piece-index c.args.pieces.now) in
    let before = c.loop-piece.invariant in
    let now : IsSent g.E.WriteCall.call_takes g.E.Write.contents c.loop-piece.err c.write_all.new.self c.as_bytes.result.now = sent_at_once {A = ℕ} (Ok 0) c.in_default.ensures.bytes c.in_default.ensures.call in
    let P : List ℕ → Type 0 = λ text. (sent : IsSent g.E.WriteCall.call_takes g.E.Write.contents c.args.err.now c.write_all.new.self text) × (sent.taken ≡ length text) in
    let whole : before.0.taken + length c.as_bytes.result.now ≡ length (prefix ++ c.as_bytes.result.now) = omega (arith, before.1, length-append prefix c.as_bytes.result.now) in
    subst P (one_more c.args.pieces.now c.loop-piece.piece-index _ c.as_bytes.result.now c.loop-piece-test.true c.as_bytes.ensures.value) (sent_then before.0 before.1 now, whole)

pub returns-in-Err : goal.returns-in-Err
unfolding sent_at_once sent_then
returns-in-Err g c =
    let i = c.loop-piece.piece-index in
    let pieces = c.args.pieces.now in
    let prefix = joined (take i pieces) in
    let before = c.loop-piece.invariant in
    let now : IsSent g.E.WriteCall.call_takes g.E.Write.contents c.loop-piece.err c.write_all.new.self c.as_bytes.result.now = sent_at_once {A = ℕ} (Err c.in-Err.field-0) c.in-Err.ensures.bytes c.in-Err.ensures.call in
    let P : List ℕ → Type 0 = λ text. IsSent g.E.WriteCall.call_takes g.E.Write.contents c.args.err.now c.write_all.new.self text in
    let so_far = one_more pieces i _ c.as_bytes.result.now c.loop-piece-test.true c.as_bytes.ensures.value in
    let short : before.0.taken + c.in-Err.field-0 < length (prefix ++ c.as_bytes.result.now) = omega (arith, before.1, c.in-Err.ensures.bytes.0, length-append prefix c.as_bytes.result.now) in
    subst P (ap (λ l. l ++ joined (drop (i + 1) pieces)) so_far ∙ parted pieces (i + 1)) (sent_cut (joined (drop (i + 1) pieces)) (sent_then before.0 before.1 now) short)

pub returns : goal.returns
returns g c = rw (take_all c.loop-piece.piece-index c.args.pieces.now c.loop-piece-test.false) at c.loop-piece.invariant.0
