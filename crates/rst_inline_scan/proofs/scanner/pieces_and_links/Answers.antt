use Rattle.std.proofs.Common.{◌≡◌, ◌+◌, Some, None, true, sym, ap, ◌∙◌, arith, subst, [], ◌∷◌, ◌++◌, ◌&&◌, ◌==◌}
use Rattle.std.proofs.lemmas.List.{get_or_read}
use Rattle.rst_text.specs.Escapes.{escapes}
use Rattle.rst_inline_scan.specs.Calm.{IsScanned}
use Rattle.rst_inline_scan.specs.Pieces.{piece_at, IsPieces}
use Rattle.rst_inline_scan.proofs.PieceLemmas.{piece_at-fits}
use Rattle.rst_inline_scan.proofs.ReadingLemmas.{Gathered, gathered-more, gathered-all}
use Rattle.rst_inline_scan.proofs.MissingLemmas.{IsMissing-later, HasNoAddress-later}
use Rattle.rst_inline_scan.proofs.WordLemmas.{scanned-none, word-scanned, word-passed}
use Rattle.rst_inline_scan.proofs.scanner.pieces_and_links.Goals as goal

pub loop-place-init : goal.loop-place-init
loop-place-init c = record {
  scanned = scanned-none c.args.mail c.args.registered c.args.text.now 0 (omega arith);
  known = c.of-missing.ensures;
  searched = λ i above below. absurd (omega arith);
  gathered = λ ps h. subst (λ items. IsPieces c.args.mail c.args.registered c.args.text.now 0 (items ++ ps)) (sym c.clear.ensures.items) h;
}

pub loop-place-preserved-in-Some : goal.loop-place-preserved-in-Some
loop-place-preserved-in-Some c =
    let t = c.args.text.now in
    let at = c.loop-place.place in
    let scanned = c.loop-place.invariant.scanned in
    let begins : piece_at c.args.mail c.args.registered t c.loop-place.from at ≡ Some c.in-Some.piece = sym (c.piece_or_link.ensures.exact scanned.escaped) ∙ c.in-Some.is in
    let fits = piece_at-fits c.args.mail c.args.registered t c.loop-place.from at c.in-Some.piece scanned.within begins in
    let later = fits.some in
    record {
      scanned = scanned-none c.args.mail c.args.registered t c.in-Some.piece.to fits.within;
      known = IsMissing-later t c.piece_or_link.new.missing at c.in-Some.piece.to (omega arith) c.piece_or_link.ensures.known;
      searched = HasNoAddress-later t at c.in-Some.piece.to c.piece_or_link.new.searched (omega arith) c.piece_or_link.ensures.searched;
      gathered = subst (Gathered c.args.mail c.args.registered t c.in-Some.piece.to) (sym (c.in_ok-push-in-Some.ensures.items ∙ ap (λ items. items ++ c.in-Some.piece ∷ []) c.in_ok-push_plain-in-Some.ensures))
          (gathered-more c.args.mail c.args.registered t c.loop-place.from at c.loop-place.escaped c.loop-place.pieces.items c.in-Some.piece c.loop-place.invariant.gathered scanned begins);
    }

pub loop-place-smaller-in-Some : goal.loop-place-smaller-in-Some
loop-place-smaller-in-Some c =
    let t = c.args.text.now in
    let at = c.loop-place.place in
    let scanned = c.loop-place.invariant.scanned in
    let begins : piece_at c.args.mail c.args.registered t c.loop-place.from at ≡ Some c.in-Some.piece = sym (c.piece_or_link.ensures.exact scanned.escaped) ∙ c.in-Some.is in
    let fits = piece_at-fits c.args.mail c.args.registered t c.loop-place.from at c.in-Some.piece scanned.within begins in
    omega (arith, fits.some, fits.within)

pub loop-place-preserved-then-end-text : goal.loop-place-preserved-then-end-text
loop-place-preserved-then-end-text c =
    let t = c.args.text.now in
    let at = c.loop-place.place in
    let scanned = c.loop-place.invariant.scanned in
    let here : piece_at c.args.mail c.args.registered t c.loop-place.from at ≡ None = sym (c.piece_or_link.ensures.exact scanned.escaped) ∙ c.in-None.is in
    let word = c.word_end-end.ensures in
    record {
      scanned = word-scanned c.args.mail c.args.registered t c.loop-place.from at c.word_end-end.result c.loop-place.escaped word here scanned (omega arith);
      known = IsMissing-later t c.piece_or_link.new.missing at c.word_end-end.result word.above c.piece_or_link.ensures.known;
      searched = HasNoAddress-later t at c.word_end-end.result c.piece_or_link.new.searched word.above c.piece_or_link.ensures.searched;
      gathered = c.loop-place.invariant.gathered;
    }

pub loop-place-preserved : goal.loop-place-preserved
loop-place-preserved c =
    let t = c.args.text.now in
    let at = c.loop-place.place in
    let scanned = c.loop-place.invariant.scanned in
    let here : piece_at c.args.mail c.args.registered t c.loop-place.from at ≡ None = sym (c.piece_or_link.ensures.exact scanned.escaped) ∙ c.in-None.is in
    let word = c.word_end-end.ensures in
    let above = word.above in
    let read = get_or_read t _ _ (omega arith) c.index-text-end.is 0 in
    record {
      scanned = subst (IsScanned c.args.mail c.args.registered t c.loop-place.from (c.word_end-end.result + 1)) (sym (c.escapes-escaped.ensures ∙ ap (λ x. escapes x (c.loop-place.escaped && at == c.word_end-end.result)) read))
          (word-passed c.args.mail c.args.registered t c.loop-place.from at c.word_end-end.result c.loop-place.escaped word here scanned (omega arith));
      known = IsMissing-later t c.piece_or_link.new.missing at (c.word_end-end.result + 1) (omega arith) c.piece_or_link.ensures.known;
      searched = HasNoAddress-later t at (c.word_end-end.result + 1) c.piece_or_link.new.searched (omega arith) c.piece_or_link.ensures.searched;
      gathered = c.loop-place.invariant.gathered;
    }

pub returns : goal.returns
returns c =
    subst (IsPieces c.args.mail c.args.registered c.args.text.now 0) (sym c.in_ok-push_plain.ensures)
    (gathered-all c.args.mail c.args.registered c.args.text.now c.loop-place.from c.loop-place.place c.loop-place.escaped c.loop-place.pieces.items c.loop-place.invariant.gathered c.loop-place.invariant.scanned (omega arith))
