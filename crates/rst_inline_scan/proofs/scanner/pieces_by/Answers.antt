use Rattle.std.proofs.Common.{◌≡◌, ◌+◌, Some, None, false, sym, ap, ◌∙◌, arith, subst, [], ◌∷◌, ◌++◌, ◌&&◌, ◌==◌}
use Rattle.std.proofs.lemmas.List.{get_or_read}
use Rattle.rst_text.specs.Escapes.{escapes}
use Rattle.rst_inline_scan.specs.Calm.{IsScanned}
use Rattle.rst_inline_scan.specs.Pieces.{piece_at, IsPieces}
use Rattle.rst_inline_scan.proofs.PieceLemmas.{piece_at-fits}
use Rattle.rst_inline_scan.proofs.ReadingLemmas.{Gathered, gathered-more, gathered-all}
use Rattle.rst_inline_scan.proofs.MissingLemmas.{IsMissing-later}
use Rattle.rst_inline_scan.proofs.CalmLemmas.{long-same}
use Rattle.rst_inline_scan.proofs.WordLemmas.{scanned-none, word-scanned, word-passed}
use Rattle.rst_inline_scan.proofs.scanner.pieces_by.Goals as goal

pub loop-place-init : goal.loop-place-init
loop-place-init c = record {
  scanned = scanned-none false false c.args.text.now 0 (omega arith);
  known = c.of-missing.ensures;
  gathered = λ ps h. subst (λ items. IsPieces false false c.args.text.now 0 (items ++ ps)) (sym c.clear.ensures.items) h;
}

pub step-start-requires : goal.step-start-requires
step-start-requires c = let long = long-same c.args.text.now c.args.bytes.now c.requires in omega arith

pub loop-place-preserved-in-Some : goal.loop-place-preserved-in-Some
loop-place-preserved-in-Some c =
    let t = c.args.text.now in
    let start = c.step-start.ensures.over t c.loop-place.from c.requires c.loop-place.invariant.scanned in
    let begins : piece_at false false t c.loop-place.from c.step-start.result.0 ≡ Some c.in-Some.piece = sym (c.piece_at.ensures.exact c.loop-place.from start.escaped) ∙ c.in-Some.is in
    let fits = piece_at-fits false false t c.loop-place.from c.step-start.result.0 c.in-Some.piece start.within begins in
    record {
      scanned = scanned-none false false t c.in-Some.piece.to fits.within;
      known = IsMissing-later t c.piece_at.new.missing c.step-start.result.0 c.in-Some.piece.to (let some = fits.some in omega arith) c.piece_at.ensures.known;
      gathered = subst (Gathered false false t c.in-Some.piece.to) (sym (c.in_ok-push-in-Some.ensures.items ∙ ap (λ items. items ++ c.in-Some.piece ∷ []) c.in_ok-push_plain-in-Some.ensures))
          (gathered-more false false t c.loop-place.from c.step-start.result.0 c.step-start.result.1 c.loop-place.pieces.items c.in-Some.piece c.loop-place.invariant.gathered start begins);
    }

pub loop-place-smaller-in-Some : goal.loop-place-smaller-in-Some
loop-place-smaller-in-Some c =
    let t = c.args.text.now in
    let start = c.step-start.ensures.over t c.loop-place.from c.requires c.loop-place.invariant.scanned in
    let begins : piece_at false false t c.loop-place.from c.step-start.result.0 ≡ Some c.in-Some.piece = sym (c.piece_at.ensures.exact c.loop-place.from start.escaped) ∙ c.in-Some.is in
    let fits = piece_at-fits false false t c.loop-place.from c.step-start.result.0 c.in-Some.piece start.within begins in
    omega (arith, fits.some, fits.within)

pub loop-place-preserved-then-start-text : goal.loop-place-preserved-then-start-text
loop-place-preserved-then-start-text c = record {
  scanned = c.step-start.ensures.over c.args.text.now c.loop-place.from c.requires c.loop-place.invariant.scanned;
  known = IsMissing-later c.args.text.now c.loop-place.missing c.loop-place.place c.step-start.result.0 c.step-start.ensures.above c.loop-place.invariant.known;
  gathered = c.loop-place.invariant.gathered;
}

pub loop-place-preserved-then-end-text : goal.loop-place-preserved-then-end-text
loop-place-preserved-then-end-text c =
    let t = c.args.text.now in
    let start = c.step-start.ensures.over t c.loop-place.from c.requires c.loop-place.invariant.scanned in
    let here : piece_at false false t c.loop-place.from c.step-start.result.0 ≡ None = sym (c.piece_at.ensures.exact c.loop-place.from start.escaped) ∙ c.in-None.is in
    let word = c.word_end-end.ensures in
    record {
      scanned = word-scanned false false t c.loop-place.from c.step-start.result.0 c.word_end-end.result c.step-start.result.1 word here start (omega (arith, start.within));
      known = IsMissing-later t c.piece_at.new.missing c.step-start.result.0 c.word_end-end.result word.above c.piece_at.ensures.known;
      gathered = c.loop-place.invariant.gathered;
    }

pub loop-place-preserved : goal.loop-place-preserved
loop-place-preserved c =
    let t = c.args.text.now in
    let start = c.step-start.ensures.over t c.loop-place.from c.requires c.loop-place.invariant.scanned in
    let here : piece_at false false t c.loop-place.from c.step-start.result.0 ≡ None = sym (c.piece_at.ensures.exact c.loop-place.from start.escaped) ∙ c.in-None.is in
    let word = c.word_end-end.ensures in
    let above = word.above in
    let read = get_or_read t _ _ (omega arith) c.index-text-end.is 0 in
    record {
      scanned = subst (IsScanned false false t c.loop-place.from (c.word_end-end.result + 1)) (sym (c.escapes-escaped.ensures ∙ ap (λ x. escapes x (c.step-start.result.1 && c.step-start.result.0 == c.word_end-end.result)) read))
          (word-passed false false t c.loop-place.from c.step-start.result.0 c.word_end-end.result c.step-start.result.1 word here start (omega arith));
      known = IsMissing-later t c.piece_at.new.missing c.step-start.result.0 (c.word_end-end.result + 1) (omega arith) c.piece_at.ensures.known;
      gathered = c.loop-place.invariant.gathered;
    }

pub returns : goal.returns
returns c =
    subst (IsPieces false false c.args.text.now 0) (sym c.in_ok-push_plain.ensures)
    (gathered-all false false c.args.text.now c.loop-place.from c.loop-place.place c.loop-place.escaped c.loop-place.pieces.items c.loop-place.invariant.gathered c.loop-place.invariant.scanned (omega arith))
