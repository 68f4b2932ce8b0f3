use Rattle.std.proofs.Common.{◌≡◌, ◌<◌, ◌≤◌, ◌∙◌, length, get_or, drop, inl, inr, sym, ap, arith, Err}
use Rattle.std.proofs.lemmas.Bool.{cases_lt}
use Rattle.std.proofs.lemmas.List.{get_or_default}
use Rattle.rst_settings.specs.Parts.{no_parts}
use Rattle.rst_text.specs.Block.{Block, first_text}
use Rattle.rst_text.specs.Source.{kept_lines}
use Rattle.rst_text.proofs.NumberedLemmas.{first_text-numbered}
use Rattle.rst_text.proofs.SpreadLemmas.{length-kept_lines, searched-place, gap, rises}
use Rattle.rst_text.proofs.lines.Lines.empty_end.Goals as goal

pub empty_end-requires-clause-within : goal.empty_end-requires-clause-within
empty_end-requires-clause-within c =
    let size : length c.args.self.now ≡ c.self.inside.count = sym (ap length c.self.view_is) ∙ length-kept_lines c.self.inside.parts _ _ _ _ c.self.invariant.kept_so in
    omega (arith, rw c.in-None.is at c.self.invariant.kept_so, c.requires.within)

pub empty_end-requires-clause-few : goal.empty_end-requires-clause-few
empty_end-requires-clause-few c =
    let size : length c.args.self.now ≡ c.self.inside.count = sym (ap length c.self.view_is) ∙ length-kept_lines c.self.inside.parts _ _ _ _ c.self.invariant.kept_so in
    omega (arith, c.self.invariant.few, c.requires.within)

pub returns-in-None : goal.returns-in-None
returns-in-None c =
    let run = c.empty_end.ensures in
    let kept = c.self.inside.kept in
    record {
      above = run.above;
      within = run.within;
      empty = λ k low high.
          ap (λ (B : Block). first_text (drop k B)) (sym c.self.view_is ∙ ap (kept_lines c.self.inside.parts c.self.inside.first c.self.inside.count kept) c.in-None.is)
          ∙ first_text-numbered c.self.inside.parts c.self.inside.first k kept ∙ sym (first_text-numbered no_parts 0 k kept) ∙ run.empty k low high;
    }

pub returns-in-Ok : goal.returns-in-Ok
returns-in-Ok c = record { above = omega arith; within = c.requires.in_order; empty = λ k low high. absurd (omega arith) }

pub returns-in-Err : goal.returns-in-Err
returns-in-Err c =
    let l = c.self.inside in
    let next = c.in-Err.next in
    let ps = c.in-Some.places.items in
    let so = rw c.in-Some.is at c.self.invariant.kept_so in
    let size : length c.args.self.now ≡ l.count = sym (ap length c.self.view_is) ∙ length-kept_lines c.self.inside.parts _ _ _ _ c.self.invariant.kept_so in
    let found = searched-place l.count c.args.i ps l.kept (Err next) so.0 so.1 (rw c.as_slice.ensures.value at c.in-Err.ensures.position) in
    let inside : next < length ps = omega (arith, c.if-next-len.true, c.len.ensures, c.in-Some.places.ok) in
    let place : c.index.result.now ≡ get_or ps next 0 = c.index.ensures ∙ sym (get_or_default ps next 0 c.index.result.now inside) in
    record {
      above = omega (arith, c.min.ensures, c.requires.in_order, found.2 next (omega arith) inside);
      within = omega (arith, c.min.ensures);
      empty = λ k low high.
          ap (λ (B : Block). first_text (drop k B)) (sym c.self.view_is ∙ ap (kept_lines l.parts l.first l.count l.kept) c.in-Some.is)
          ∙ gap l.parts l.first l.count c.args.i c.min.result ps l.kept (omega (arith, c.min.ensures, c.requires.within))
          (λ j within. elim (cases_lt j next) [ inl before ↦ inl (found.1 j before) | inr after ↦ inr (omega (arith, c.min.ensures, rises 0 l.count next j ps l.kept so.0 so.1 after within)) ]) k low high;
    }

pub returns-in-Err-2 : goal.returns-in-Err-2
returns-in-Err-2 c =
    let l = c.self.inside in
    let next = c.in-Err.next in
    let ps = c.in-Some.places.items in
    let so = rw c.in-Some.is at c.self.invariant.kept_so in
    let size : length c.args.self.now ≡ l.count = sym (ap length c.self.view_is) ∙ length-kept_lines c.self.inside.parts _ _ _ _ c.self.invariant.kept_so in
    let found = searched-place l.count c.args.i ps l.kept (Err next) so.0 so.1 (rw c.as_slice.ensures.value at c.in-Err.ensures.position) in
    let past : length ps ≤ next = omega (arith, c.if-next-len.false, c.len.ensures, c.in-Some.places.ok) in
    record {
      above = c.requires.in_order;
      within = omega arith;
      empty = λ k low high.
          ap (λ (B : Block). first_text (drop k B)) (sym c.self.view_is ∙ ap (kept_lines l.parts l.first l.count l.kept) c.in-Some.is)
          ∙ gap l.parts l.first l.count c.args.i c.args.to ps l.kept (omega (arith, c.requires.within)) (λ j within. inl (found.1 j (omega arith))) k low high;
    }
