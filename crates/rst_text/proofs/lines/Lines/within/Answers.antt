use Rattle.std.proofs.Common.{◌≡◌, ℕ, ◌+◌, nat_lt, true, false, List, ◌∙◌, length, Some, sym, ap, arith}
use Rattle.std.specs.Str.{chars}
use Rattle.std.proofs.lemmas.Bool.{eqb-true}
use Rattle.rst_text.specs.Lines.{are_lines, expanded, numbered_from, tidied}
use Rattle.rst_text.proofs.LineTexts.{are_lines-lines_of}
use Rattle.rst_text.proofs.LinesLemmas.{all_read, tidied-trim_end}
use Rattle.rst_text.proofs.LongLines.{first_is, with_next}
use Rattle.rst_text.proofs.NumberedLemmas.{texts-numbered}
use Rattle.rst_text.proofs.OrdinaryLemmas.{trimmed-line}
use Rattle.rst_text.proofs.lines.Lines.within.Goals as goal

pub invariant_of-result : goal.invariant_of-result
invariant_of-result c =
    let made = all_read _ _ _ _ c.loop-rest.invariant.1 (eqb-true (length c.loop-rest.rest.now) 0 (sym c.loop-rest-test.ensures)) in
    record {
      kept_so = sym c.len-count.ensures.value;
      few = omega (arith, c.len-count.ensures.value, c.len-count.ensures.few);
      numbers = omega (arith, c.len-count.ensures.value, c.len-count.ensures.few);
      of_lines = ap (λ (ts : List (List ℕ)). are_lines (numbered_from c.args.parts 1 ts)) made ∙ are_lines-lines_of c.args.parts c.args.tab (chars c.args.text.now) (omega arith);
      of_texts = texts-numbered c.args.parts 1 c.loop-rest.kept c.len-count.ensures.texts;
    }

pub returns : goal.returns
returns c = (
  ap (numbered_from c.args.parts 1) (all_read _ _ _ _ c.loop-rest.invariant.1 (eqb-true (length c.loop-rest.rest.now) 0 (sym c.loop-rest-test.ensures))),
  c.loop-rest.invariant.2,
)

pub returns-then-is_longer : goal.returns-then-is_longer
returns-then-is_longer c =
    let line = ap (λ t. expanded t (chars c.trim_end-piece.result.now)) c.from-tab.ensures ∙ tidied-trim_end c.args.tab _ _ c.trim_end-piece.utf8 c.trim_end-piece.ensures.trim (omega arith) in
    let long : nat_lt c.args.limit (length (tidied c.args.tab (chars c.first_piece-ordinary.result.0.now))) ≡ true = ap (λ l. nat_lt c.args.limit (length l)) (sym line) ∙ sym c.if-is_longer.ensures in
    let number : 1 + length c.loop-rest.kept ≡ c.len.result + 1 = omega (arith, c.len.ensures.value) in
    first_is c.args.parts _ _ _ _ _ _ _ c.loop-rest.invariant.1 c.loop-rest.invariant.2 c.first_piece-ordinary.ensures.pieces long ∙ ap Some number

pub loop-rest-preserved-in_ok-push : goal.loop-rest-preserved-in_ok-push
loop-rest-preserved-in_ok-push c =
    let line = ap (λ t. expanded t (chars c.trim_end-piece.result.now)) c.from-tab.ensures ∙ tidied-trim_end c.args.tab _ _ c.trim_end-piece.utf8 c.trim_end-piece.ensures.trim (omega arith) in
    let short : nat_lt c.args.limit (length (tidied c.args.tab (chars c.first_piece-ordinary.result.0.now))) ≡ false = ap (λ l. nat_lt c.args.limit (length l)) (sym line) ∙ sym c.if-is_longer.ensures in
    let as_it_stands = trimmed-line _ _ c.first_piece-ordinary.ensures.text.0 c.trim_end-piece.utf8 (c.first_piece-ordinary.ensures.ordinary c.if-ordinary.true) c.trim_end-piece.ensures.trim c.args.tab in
    let next = with_next c.args.parts _ _ _ _ _ _ _ _ _ c.loop-rest.invariant.1 c.loop-rest.invariant.2 c.first_piece-ordinary.ensures.pieces as_it_stands short c.in_ok-push.ensures in
    (c.first_piece-ordinary.ensures.text.1, next.0, next.1)

pub loop-rest-preserved : goal.loop-rest-preserved
loop-rest-preserved c =
    let line = ap (λ t. expanded t (chars c.trim_end-piece.result.now)) c.from-tab.ensures ∙ tidied-trim_end c.args.tab _ _ c.trim_end-piece.utf8 c.trim_end-piece.ensures.trim (omega arith) in
    let short : nat_lt c.args.limit (length (tidied c.args.tab (chars c.first_piece-ordinary.result.0.now))) ≡ false = ap (λ l. nat_lt c.args.limit (length l)) (sym line) ∙ sym c.if-is_longer.ensures in
    let made : chars c.as_str.result.now ≡ tidied c.args.tab (chars c.first_piece-ordinary.result.0.now) = ap chars c.as_str.ensures.value ∙ c.in_ok-expand.ensures ∙ line in
    let next = with_next c.args.parts _ _ _ _ _ _ _ _ _ c.loop-rest.invariant.1 c.loop-rest.invariant.2 c.first_piece-ordinary.ensures.pieces made short c.in_ok-push-2.ensures in
    (c.first_piece-ordinary.ensures.text.1, next.0, next.1)
