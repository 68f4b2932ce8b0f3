use Rattle.std.proofs.Common.{sym, ap, subst, arith}
use Rattle.rst_text.specs.Source.{texts_with, spread, ArePlaced}
use Rattle.rst_text.proofs.SpreadLemmas.{taken_apart, are_lines-spread, are_texts-spread}
use Rattle.rst_text.proofs.lines.Lines.numbered.Goals as goal

pub invariant_of-result : goal.invariant_of-result
invariant_of-result c =
    let texts = c.args.texts.now in
    let made = taken_apart texts c.loop-place.place-index c.loop-place.kept c.loop-place.places.items c.loop-place.invariant.texts c.loop-place.invariant.places (omega arith) in
    record {
      kept_so = (made.0, subst (ArePlaced 0 c.args.count) (sym made.1) c.requires.placed);
      few = c.requires.few;
      numbers = c.requires.numbers;
      of_lines = rw made.1 (are_lines-spread c.args.parts c.args.first c.args.count (texts_with texts) c.requires.placed);
      of_texts = rw made.1 (are_texts-spread c.args.parts c.args.first c.args.count texts);
    }

pub returns : goal.returns
returns c =
    let texts = c.args.texts.now in
    let made = taken_apart texts c.loop-place.place-index c.loop-place.kept c.loop-place.places.items c.loop-place.invariant.texts c.loop-place.invariant.places (omega arith) in
    ap (spread c.args.parts c.args.first c.args.count) made.1
