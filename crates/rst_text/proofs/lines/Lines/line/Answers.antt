use Rattle.std.proofs.Common.{◌≡◌, ◌+◌, ◌∙◌, length, get_or, drop, [], sym, ap, arith, inl, inr, Ok, Err}
use Rattle.std.proofs.lemmas.Bool.{cases_lt}
use Rattle.std.proofs.lemmas.Str.{chars_from_encodes, chars-nil}
use Rattle.std.specs.List.{zip}
use Rattle.rst_text.specs.Block.{Block, first_text}
use Rattle.rst_text.specs.Source.{kept_lines}
use Rattle.rst_text.proofs.NumberedLemmas.{first_text-numbered}
use Rattle.rst_text.proofs.SpreadLemmas.{length-kept_lines, searched-place, kept-at, gap, first_text-spread}
use Rattle.rst_text.proofs.lines.Lines.line.Goals as goal

pub text-requires : goal.text-requires
text-requires c =
    let size : length c.args.self.now ≡ c.self.inside.count = sym (ap length c.self.view_is) ∙ length-kept_lines c.self.inside.parts _ _ _ _ c.self.invariant.kept_so in
    omega (arith, rw c.in-None.is at c.self.invariant.kept_so, c.requires)

pub returns-in-None : goal.returns-in-None
returns-in-None c =
    let kept = c.self.inside.kept in
    sym (chars_from_encodes (get_or kept c.args.i []) c.text.result.now c.text.utf8 (sym c.text.ensures))
    ∙ sym (first_text-numbered c.self.inside.parts c.self.inside.first c.args.i kept)
    ∙ ap (λ (B : Block). first_text (drop c.args.i B)) (ap (kept_lines c.self.inside.parts c.self.inside.first c.self.inside.count kept) (sym c.in-None.is) ∙ c.self.view_is)

pub returns-in-Ok : goal.returns-in-Ok
returns-in-Ok c =
    let l = c.self.inside in
    let i = c.args.i in
    let index = c.in-Ok.index in
    let ps = c.in-Some.places.items in
    let so = rw c.in-Some.is at c.self.invariant.kept_so in
    let size : length c.args.self.now ≡ l.count = sym (ap length c.self.view_is) ∙ length-kept_lines c.self.inside.parts _ _ _ _ c.self.invariant.kept_so in
    let found = searched-place l.count i ps l.kept (Ok index) so.0 so.1 (rw c.as_slice.ensures.value at c.in-Ok.ensures.position) in
    sym (chars_from_encodes (get_or l.kept index []) c.text-in-Ok.result.now c.text-in-Ok.utf8 (sym c.text-in-Ok.ensures))
    ∙ sym (kept-at 0 l.count index i ps l.kept so.0 so.1 found.0 found.1)
    ∙ sym (first_text-spread l.parts l.first l.count i (zip ps l.kept) (omega (arith, c.requires)))
    ∙ ap (λ (B : Block). first_text (drop i B)) (ap (kept_lines l.parts l.first l.count l.kept) (sym c.in-Some.is) ∙ c.self.view_is)

pub returns-in-Err : goal.returns-in-Err
returns-in-Err c =
    let l = c.self.inside in
    let i = c.args.i in
    let next = c.in-Err.field-0 in
    let ps = c.in-Some.places.items in
    let so = rw c.in-Some.is at c.self.invariant.kept_so in
    let size : length c.args.self.now ≡ l.count = sym (ap length c.self.view_is) ∙ length-kept_lines c.self.inside.parts _ _ _ _ c.self.invariant.kept_so in
    let found = searched-place l.count i ps l.kept (Err next) so.0 so.1 (rw c.as_slice.ensures.value at c.in-Err.ensures.position) in
    chars-nil
    ∙ sym (gap l.parts l.first l.count i (i + 1) ps l.kept (omega (arith, c.requires)) (λ j within. elim (cases_lt j next) [ inl before ↦ inl (found.1 j before) | inr after ↦ inr (omega (arith, found.2 j after within)) ]) i (omega arith) (omega arith))
    ∙ ap (λ (B : Block). first_text (drop i B)) (ap (kept_lines l.parts l.first l.count l.kept) (sym c.in-Some.is) ∙ c.self.view_is)
