use Rattle.std.proofs.Common.{◌≡◌, ◌<◌, ◌≤◌, ◌-◌, ◌+◌, length, drop, sym, arith, ap, subst, ◌∙◌, cond, eqb}
use Rattle.std.specs.Str.{IsUtf8}
use Rattle.std.proofs.Math.Utf8.{encodes}
use Rattle.rst_text.specs.Block.{first_text}
use Rattle.rst_text.specs.ViewBlock.{block_of}
use Rattle.rst_text.proofs.Cuts.{length-block_of, part_of, part_fits, utf8_in_view, leaves}
use Rattle.rst_text.proofs.view.View.part.Goals as goal
use Rattle.rst_text.proofs.view.View.part.Goals.{then-from-to, else-from-to}

pub tail-requires : goal.tail-requires
tail-requires c =
    let v = c.args.self.now in
    let there : c.args.from < length (block_of v) = omega (arith, c.requires.in_range, c.if-from-to.true) in
    let e : drop (cond (eqb c.args.from 0) v.first v.rest) (encodes (first_text (drop (v.from + c.args.from) v.lines.now))) ≡ drop c.cut_at.result c.uncut-text.result.now =
    ap (λ n. drop n (encodes (first_text (drop (v.from + c.args.from) v.lines.now)))) (sym c.cut_at.ensures) ∙ ap (drop c.cut_at.result) (sym c.uncut-text.ensures) in
    subst IsUtf8 e (utf8_in_view v c.args.from there)

pub overflow_add-result : goal.overflow_add-result
overflow_add-result c = let v = c.args.self.now in omega (arith, part_fits v c.args.to c.requires.in_range, v.fits, v.few)

pub overflow_add-result-2 : goal.overflow_add-result-2
overflow_add-result-2 c = let v = c.args.self.now in omega (arith, part_fits v c.args.to c.requires.in_range, v.fits, v.few)

pub invariant_of-result : goal.invariant_of-result
invariant_of-result c =
    let v = c.args.self.now in
    let in_order : c.args.from ≤ c.args.to = c.requires.in_order in
    let f : v.to ≤ length v.lines.now = v.fits in
    let p = part_of v c.args.from c.args.to c.args.first_cut c.args.rest_cut c.if-from-to.first c.requires.in_order (rw length-block_of at c.requires.in_range) c.requires.spaces (λ (h : c.args.from < c.args.to). elim c.if-from-to.branch [
      | then-from-to w ↦ leaves _ w.cut_at.result c.args.first_cut c.if-from-to.first _ w.uncut-text.result.now w.skip-left.ensures.suffix.0 w.skip-left.result.now w.tail.result.now
          w.uncut-text.ensures w.cut_at.ensures w.tail.ensures w.skip-left.ensures.suffix.1 w.skip-left.utf8 w.skip-left.ensures.chars w.first-is
      | else-from-to w ↦ absurd (omega arith)
    ]) in
    let n : (v.from + c.args.to) - (v.from + c.args.from) ≡ c.args.to - c.args.from = omega arith in
    record { ordered = omega arith; fits = omega (arith, part_fits v c.args.to c.requires.in_range); few = v.few; may_cut = rw (c.saturating_add.ensures, n) p.0; of_lines = v.of_lines; of_texts = v.of_texts }

pub returns-clause-block : goal.returns-clause-block
unfolding block_of
returns-clause-block c =
    let v = c.args.self.now in
    let p = part_of v c.args.from c.args.to c.args.first_cut c.args.rest_cut c.if-from-to.first c.requires.in_order (rw length-block_of at c.requires.in_range) c.requires.spaces (λ (h : c.args.from < c.args.to). elim c.if-from-to.branch [
      | then-from-to w ↦ leaves _ w.cut_at.result c.args.first_cut c.if-from-to.first _ w.uncut-text.result.now w.skip-left.ensures.suffix.0 w.skip-left.result.now w.tail.result.now
          w.uncut-text.ensures w.cut_at.ensures w.tail.ensures w.skip-left.ensures.suffix.1 w.skip-left.utf8 w.skip-left.ensures.chars w.first-is
      | else-from-to w ↦ absurd (omega arith)
    ]) in
    let n : (v.from + c.args.to) - (v.from + c.args.from) ≡ c.args.to - c.args.from = omega arith in
    rw (c.saturating_add.ensures, n) p.1
